use Rattle.std.proofs.Common.{sym}
use Rattle.qz_gradebook.proofs.GradeLemmas.{last_total}
use Rattle.qz_gradebook.proofs.methods.last.Goals as goal

pub returns-clause-value : goal.returns-clause-value
returns-clause-value c = last_total c.args.attempts.now c.in_ok-last.field-0.now (sym c.in_ok-last.ensures.value)
