use Rattle.std.proofs.Common.{◌≡◌, true, false, Option, ap, sym, ◌∙◌}
use Rattle.std.specs.Option.{option_copied}
use Rattle.qz_grading.specs.declared.response.Response.{Response}
use Rattle.qz_grading.specs.Steps.{last_of}
use Rattle.qz_grading.specs.Behaviours.{handed_in}
use Rattle.qz_tries.specs.Parts.{is_new}
use Rattle.qz_tries.proofs.AdaptiveSteps.{finish_gives_up, finish_same, finish_further}
use Rattle.qz_tries.proofs.adaptive.after_finish.Goals as goal

pub returns-in_default-clause-outcome : goal.returns-in_default-clause-outcome
returns-in_default-clause-outcome g c = λ s still is last_is handed_in_is.
    rw (c.ended.ensures, c.best.ensures.value)
    (finish_gives_up c.args.so_far c.args.behaviour c.args.question.now s c.requires.adaptive still is (ap option_copied (sym c.in_default.is) ∙ last_is))

pub returns-then-not-is_new-clause-outcome : goal.returns-then-not-is_new-clause-outcome
returns-then-not-is_new-clause-outcome g c = λ s still is last_is handed_in_is.
    let last = c.in-Some.last.now in
    let again : is_new (last_of (handed_in c.args.behaviour c.args.question.now s)) last ≡ false = ap (λ (o : Option Response). is_new o last) (sym handed_in_is) ∙ sym c.is_new.ensures ∙ c.if-not-is_new.true in
    rw (c.ended-then-not-is_new.ensures, c.graded.ensures, c.best-then-not-is_new.ensures.value, c.grade-grade.ensures.value)
    (finish_same c.args.so_far c.args.behaviour c.args.question.now s last c.requires.adaptive still is (ap option_copied (sym c.in-Some.is) ∙ last_is) again)

pub returns-clause-outcome : goal.returns-clause-outcome
returns-clause-outcome g c = λ s still is last_is handed_in_is.
    let last = c.in-Some.last.now in
    let new : is_new (last_of (handed_in c.args.behaviour c.args.question.now s)) last ≡ true = ap (λ (o : Option Response). is_new o last) (sym handed_in_is) ∙ sym c.is_new.ensures ∙ c.if-not-is_new.false in
    rw (c.ended-2.ensures, c.graded-2.ensures, c.best_with.ensures.value, c.penalty_under-penalty.ensures, c.grade-grade.ensures.value)
    (finish_further c.args.so_far c.args.behaviour c.args.question.now s last c.requires.adaptive still is (ap option_copied (sym c.in-Some.is) ∙ last_is) new)
