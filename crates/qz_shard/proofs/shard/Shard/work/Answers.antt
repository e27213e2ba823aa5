use Rattle.qz_keeper.proofs.Calls.{mended_call, unsettled_call}
use Rattle.qz_keeper.proofs.Settling.{mended_may}
use Rattle.qz_shard.specs.Holdings.{IsWorkable}
use Rattle.qz_shard.proofs.KeptCalls.{counts_none}
use Rattle.qz_shard.proofs.shard.Shard.work.Goals as goal

pub returns-in-Err-clause-answer : goal.returns-in-Err-clause-answer
returns-in-Err-clause-answer g c = rw c.refusal_of.ensures (unsettled_call _ _ _ _ _ c.in-Err.why c.in-Err.ensures.settles)

pub returns-in-Err-clause-count : goal.returns-in-Err-clause-count
returns-in-Err-clause-count g c = counts_none _ _ _ c.args.steps.now

pub worked-requires-clause-workable : goal.worked-requires-clause-workable
worked-requires-clause-workable g c = mended_may (λ h. IsWorkable h c.args.job.now c.args.moment) c.args.self.now.held c.settle.new.self.held c.in_default.ensures.settles.mends c.requires

pub returns-clause-answer : goal.returns-clause-answer
returns-clause-answer g c = mended_call _ _ _ _ _ _ _ _ c.settle.new.self.held _ c.worked.result c.settle.ensures.goes_on c.in_default.ensures.settles c.worked.ensures.ends
