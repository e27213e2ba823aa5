use Rattle.std.proofs.Common.{arith}
use Rattle.qz_usage.proofs.StepCounts.{few}
use Rattle.qz_usage.proofs.slot_run.SlotRun.feed.Goals as goal

pub feed-requires-clause-few : goal.feed-requires-clause-few
feed-requires-clause-few g c = omega (arith, few _ c.self.invariant.limits)
