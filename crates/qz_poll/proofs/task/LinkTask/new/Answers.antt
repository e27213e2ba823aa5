use Rattle.std.proofs.Common.{refl, arith}
use Rattle.qz_poll.proofs.TaskLemmas.{begins}
use Rattle.qz_poll.proofs.task.LinkTask.new.Goals as goal

pub returns-clause-begins : goal.returns-clause-begins
returns-clause-begins g c = begins _ _ _ c.in-Ok-new.ensures c.new-2.ensures refl (omega (arith, c.in-Ok-vec.ensures.len))
