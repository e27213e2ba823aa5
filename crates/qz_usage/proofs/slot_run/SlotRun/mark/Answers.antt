use Rattle.std.proofs.Common.{rules}
use Rattle.qz_usage.proofs.slot_run.SlotRun.mark.Goals as goal
use Rattle.qz_usage.proofs.MarkRanges.{rescale-within}

pub returns-in-Some-clause-range : goal.returns-in-Some-clause-range
returns-in-Some-clause-range c = rw c.rescale.ensures.value (rescale-within c.in-Some.mark c.in-Some.max c.self.inside.bound.max (search rules) (search rules))
