use Rattle.std.proofs.Common.{option_map, sym, ◌∙◌, ap}
use Rattle.qz_disks.specs.Keepers.{with_one_more}
use Rattle.qz_keeper.proofs.Keeping.{dropped_out}
use Rattle.qz_keeper.proofs.Mending.{dropped_kept, none_beside}
use Rattle.qz_keeper.proofs.record_keeper.RecordKeeper.find.Goals as goal
use Rattle.qz_terms.specs.Spelling.{spelling}

pub returns-clause-found : goal.returns-clause-found
returns-clause-found g c =
    let told = c.as_slice.ensures ∙ c.in_ok-payload.ensures.spelled in
    let none = none_beside _ c.self.inside.found c.self.inside.doubt c.in-Some.doubt c.self.invariant.one c.in-Some.is in
    let requires = rw (← c.self.view_is) at c.requires in
    let kept = dropped_kept _ _ (spelling c.in-Some.doubt) _ _ _ c.args.count (requires none) (c.self.invariant.spelled ∙ ap (option_map spelling) c.in-Some.is) c.in_ok-payloads.ensures.list
    (λ front long same. c.ends_with.ensures.no c.if-ends_with.false front long (c.deref.ensures.value ∙ c.payloads.view_is ∙ same ∙ ap (λ p. with_one_more p front) (sym told))) in
    rw (← c.self.view_is) (rw c.in-Some.is (dropped_out _ _ c.in-Some.doubt _ c.self.inside.found none kept c.take-doubt.ensures.after))
