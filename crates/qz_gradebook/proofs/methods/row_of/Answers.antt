use Rattle.std.proofs.Common.{ap, ◌∙◌, Option}
use Rattle.std.specs.Prelude.{ℤ, option_to_list}
use Rattle.qz_terms.specs.Rows.{graded_by}
use Rattle.qz_gradebook.proofs.GradeLemmas.{there}
use Rattle.qz_gradebook.proofs.methods.row_of.Goals as goal

pub returns-in-Highest : goal.returns-in-Highest
returns-in-Highest c = rw (c.in-Highest.is, there c.args.attempts.now) (c.graded_alone.ensures ∙ ap (λ (o : Option ℤ). graded_by c.args.policy.now (option_to_list o)) c.greatest.ensures.value)

pub returns-in-Average : goal.returns-in-Average
returns-in-Average c = rw (c.in-Average.is, there c.args.attempts.now) c.graded_average.ensures
