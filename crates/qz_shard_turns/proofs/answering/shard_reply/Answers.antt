use Rattle.qz_shard_turns.proofs.Posing.{answered-ok}
use Rattle.qz_shard_turns.proofs.answering.shard_reply.Goals as goal

pub returns-clause-answer : goal.returns-clause-answer
returns-clause-answer g c = answered-ok _ _ _ _ _ _ _ _ _ c.apply.result c.apply.ensures.answer
