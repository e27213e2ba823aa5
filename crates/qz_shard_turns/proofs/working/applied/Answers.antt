use Rattle.qz_catalog_turns.proofs.Owning.{reply-ends}
use Rattle.qz_shard_turns.proofs.Jobs.{worked-puts}
use Rattle.qz_shard_turns.proofs.working.applied.Goals as goal

pub returns-clause-answer : goal.returns-clause-answer
returns-clause-answer g c =
    rw c.of-own.ensures (reply-ends _ _ _ c.args.shard.now.held c.work-reply.new.self.held c.work-reply.result c.is_settled.result c.len-found.result c.len-left.result (worked-puts _ _ _) c.requires.settled c.is_settled.ensures c.len-found.ensures.count c.len-left.ensures.count c.work-reply.ensures.answer)
