use Rattle.qz_catalog_turns.proofs.Owning.{reply-ends}
use Rattle.qz_shard_turns.proofs.Posing.{now-puts}
use Rattle.qz_shard_turns.proofs.answering.applied.Goals as goal

pub returns-in-Ok-clause-answer : goal.returns-in-Ok-clause-answer
returns-in-Ok-clause-answer g c =
    rw c.of-own.ensures (reply-ends _ _ _ c.args.shard.now.held c.shard_reply.new.shard.held c.in-Ok.reply c.is_settled.result c.len-found.result c.len-left.result (now-puts _ _ _ _) c.requires.settled c.is_settled.ensures c.len-found.ensures.count c.len-left.ensures.count c.in-Ok.ensures.answer)
