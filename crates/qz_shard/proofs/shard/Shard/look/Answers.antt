use Rattle.qz_keeper.proofs.Calls.{unsettled_call}
use Rattle.qz_shard.proofs.shard.Shard.look.Goals as goal

pub returns-in-Err-clause-answer : goal.returns-in-Err-clause-answer
returns-in-Err-clause-answer g c = rw c.refusal_of.ensures (unsettled_call _ _ _ _ _ c.in-Err.why c.in-Err.ensures.settles)
