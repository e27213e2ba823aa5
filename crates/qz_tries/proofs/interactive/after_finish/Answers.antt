use Rattle.std.proofs.Common.{ap, sym, ◌∙◌}
use Rattle.std.specs.Option.{option_copied}
use Rattle.qz_tries.proofs.InteractiveSteps.{finish_after_end, finish_gives_up, finish_graded}
use Rattle.qz_tries.proofs.interactive.after_finish.Goals as goal

pub returns-then-so_far-clause-outcome : goal.returns-then-so_far-clause-outcome
returns-then-so_far-clause-outcome g c = λ s still is last_is.
    finish_after_end c.args.so_far c.args.question.now s still is c.if-so_far.true

pub returns-in_default-clause-outcome : goal.returns-in_default-clause-outcome
returns-in_default-clause-outcome g c = λ s still is last_is.
    finish_gives_up c.args.so_far c.args.question.now s still is c.if-so_far.false (ap option_copied (sym c.in_default.is) ∙ last_is)

pub returns-clause-outcome : goal.returns-clause-outcome
returns-clause-outcome g c = λ s still is last_is.
    rw (c.ends_with.ensures.value, c.grade-grade.ensures.value)
    (finish_graded c.args.so_far c.args.question.now s c.in-Some.last.now still is c.if-so_far.false (ap option_copied (sym c.in-Some.is) ∙ last_is))
