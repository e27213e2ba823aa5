use Rattle.std.proofs.Common.{◌≡◌, ◌+◌, ◌||◌, ◌==◌, true, false, ℤ, ap, sym, ◌∙◌}
use Rattle.qz_grading.specs.Behaviours.{is_right, tries_allowed}
use Rattle.qz_tries.proofs.InteractiveSteps.{ends, try_after_end, try_that_ends, try_that_goes_on}
use Rattle.qz_tries.proofs.interactive.after_try.Goals as goal

pub returns-then-so_far-clause-outcome : goal.returns-then-so_far-clause-outcome
returns-then-so_far-clause-outcome g c = λ s still is.
    try_after_end c.args.so_far c.args.question.now s c.args.response.now still is c.requires.complete c.if-so_far.true

pub returns-then-ends_slot-clause-outcome : goal.returns-then-ends_slot-clause-outcome
returns-then-ends_slot-clause-outcome g c = λ s still is.
    let q = c.args.question.now in
    let n = c.args.so_far.tries in
    let now : ends q (n + 1, c.args.response.now) ≡ true = ap (λ (f : ℤ). is_right f || (n + 1 == tries_allowed q)) (sym c.grade-grade.ensures.value) ∙ sym c.ends_slot.ensures ∙ c.if-ends_slot.true in
    rw (c.ends_with.ensures.value, c.grade-grade.ensures.value) (try_that_ends c.args.so_far q s c.args.response.now still is c.requires.complete c.if-so_far.false now)

pub returns-clause-outcome : goal.returns-clause-outcome
returns-clause-outcome g c = λ s still is.
    let q = c.args.question.now in
    let n = c.args.so_far.tries in
    let goes : ends q (n + 1, c.args.response.now) ≡ false = ap (λ (f : ℤ). is_right f || (n + 1 == tries_allowed q)) (sym c.grade-grade.ensures.value) ∙ sym c.ends_slot.ensures ∙ c.if-ends_slot.false in
    try_that_goes_on c.args.so_far q s c.args.response.now still is c.requires.complete c.if-so_far.false goes
