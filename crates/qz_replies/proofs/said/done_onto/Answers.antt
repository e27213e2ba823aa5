use Rattle.qz_replies.proofs.said.done_onto.Goals as goal

pub returns-in-AlreadyDone : goal.returns-in-AlreadyDone
returns-in-AlreadyDone c = rw c.in-AlreadyDone.is c.counted_onto-in-AlreadyDone.ensures
