use Rattle.std.proofs.Common.{sym, ◌∙◌}
use Rattle.std.proofs.lemmas.Bool.{true≢false}
use Rattle.std.proofs.lemmas.Slice.Eq.{bytes_eq-Decides}
use Rattle.qz_keeper.proofs.Mending.{last_same}
use Rattle.qz_keeper.proofs.record_keeper.ends_with.Goals as goal

pub returns-then-front-count-clause-no : goal.returns-then-front-count-clause-no
returns-then-front-count-clause-no c = λ other front long same.
    let ends = c.in-Some.ensures.cases in
    let equal = last_same front c.in-Some.front.now c.args.payload.now _ (sym same ∙ ends.0) (long ∙ sym c.if-front-count.true) in
    true≢false (sym ((bytes_eq-Decides c.as_slice.result.now c.args.payload.now).1 (c.as_slice.ensures ∙ sym equal)) ∙ sym c.eq.ensures ∙ other)
