use Rattle.qz_catalog_turns.proofs.Owning.{reply-ends, told-puts}
use Rattle.qz_catalog_turns.proofs.answering.applied.Goals as goal

pub returns-clause-answer : goal.returns-clause-answer
returns-clause-answer g c =
    rw c.of-own.ensures (reply-ends _ _ _ c.args.catalog.now.held c.apply-reply.new.self.held c.apply-reply.result c.is_settled.result c.len-found.result c.len-left.result (told-puts _ _ _) c.requires.settled c.is_settled.ensures c.len-found.ensures.count c.len-left.ensures.count c.apply-reply.ensures.answer)
