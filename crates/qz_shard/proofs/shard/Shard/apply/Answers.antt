use Rattle.std.proofs.Common.{ap, subst, sym}
use Rattle.qz_keeper.proofs.Calls.{mended_call, unsettled_call}
use Rattle.qz_shard.proofs.KeptCalls.{counts_none}
use Rattle.qz_shard.proofs.shard.Shard.apply.Goals as goal

pub returns-in-Err-clause-answer : goal.returns-in-Err-clause-answer
returns-in-Err-clause-answer g c = rw c.refusal_of.ensures (unsettled_call _ _ _ _ _ c.in-Err.why c.in-Err.ensures.settles)

pub returns-in-Err-clause-count : goal.returns-in-Err-clause-count
returns-in-Err-clause-count g c = counts_none _ _ _ c.args.steps.now

pub returns-clause-answer : goal.returns-clause-answer
returns-clause-answer g c =
    mended_call _ _ _ _ _ _ _ _ c.settle.new.self.held _ c.answer.result c.settle.ensures.goes_on c.in_default.ensures.settles
    (rw c.settle.ensures.shard.index at (rw c.settle.ensures.shard.count at c.answer.ensures.ends))
