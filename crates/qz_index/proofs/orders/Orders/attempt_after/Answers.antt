use Rattle.std.proofs.Common.{List, ap, ◌∙◌}
use Rattle.std.specs.Prelude.{filter}
use Rattle.qz_grading.specs.declared.refusal.AttemptId.{AttemptId}
use Rattle.qz_terms.specs.History.{attempt_before}
use Rattle.qz_terms.specs.Lists.{first_of}
use Rattle.qz_index.proofs.OrderLemmas.{all-are, of_no_quiz, of_quiz}
use Rattle.qz_index.proofs.orders.Orders.attempt_after.Goals as goal

pub returns-in-Some : goal.returns-in-Some
returns-in-Some c = λ h are.
    c.after.ensures.found
    ∙ ap (λ (xs : List AttemptId). first_of (filter (attempt_before c.args.after) xs)) (all-are c.in-Some.order.now h c.args.quiz c.after.ensures.ordered (of_quiz c.args.self.now h c.args.quiz c.in-Some.order.now are c.in-Some.ensures.value))

pub returns-in-None : goal.returns-in-None
returns-in-None c = λ h are. of_no_quiz c.args.self.now h c.args.quiz c.args.after are c.in-None.ensures.value
