use Rattle.std.proofs.Common.{◌∙◌}
use Rattle.std.proofs.lemmas.Option.{get_or_from_slice_get, slice_get_within}
use Rattle.qz_stations.proofs.serve.serve_all.Goals as goal

pub returns-clause-served : goal.returns-clause-served
returns-clause-served g c = record {
  count = c.at_both.auto.items;
  each = λ k p q at there.
      let told = c.at_both.ensures.items.each k p (slice_get_within c.args.stations.now k p at) in
      let old = told.1.argument_is ∙ get_or_from_slice_get c.args.stations.now k p p at in
      let new = told.1.left ∙ get_or_from_slice_get _ k q p there in
      rw (← old) (rw (← new) told.1.call);
}

pub returns-clause-regraded : goal.returns-clause-regraded
returns-clause-regraded g c = record {
  count = c.at_both.auto.others;
  each = λ k p q at there.
      let told = c.at_both.ensures.others.each k p (slice_get_within c.args.regraders.now k p at) in
      let old = told.1.argument_is ∙ get_or_from_slice_get c.args.regraders.now k p p at in
      let new = told.1.left ∙ get_or_from_slice_get _ k q p there in
      rw (← old) (rw (← new) told.1.call);
}
