use Rattle.std.proofs.Common.{sym, ◌∙◌}
use Rattle.qz_solo.proofs.Clear.{followed, not_memory}
use Rattle.qz_solo.proofs.memory.MemorySchool.follow.Goals as goal

pub returns : goal.returns
returns c =
    followed c.args.self.now c.ask-reply.new.self c.args.moment c.args.ask.now c.ask-reply.result c.len-length.ensures.clear c.ask-reply.ensures (not_memory c.ask-reply.result (sym c.is_memory.ensures ∙ c.if-is_memory.false))
