use Rattle.std.proofs.Common.{Some, sym, subst}
use Rattle.qz_terms.specs.declared.reply.Reply.{Reply}
use Rattle.qz_gather.specs.Notes.{IsNoted, copied, left_out}
use Rattle.qz_gather.proofs.note.noted.Goals as goal

pub returns-in-Refused : goal.returns-in-Refused
returns-in-Refused c = subst (λ (r : Reply). IsNoted c.args.reply.now (Some r)) c.in-Refused.is copied

pub returns-in-Ok-try_copy : goal.returns-in-Ok-try_copy
returns-in-Ok-try_copy c = subst (λ (r : Reply). IsNoted c.args.reply.now (Some r)) (sym c.in-Ok-try_copy.ensures) copied

pub returns-in-Err : goal.returns-in-Err
returns-in-Err c = left_out c.in-Ok.place c.in-Ok.done c.in-Ok.is
