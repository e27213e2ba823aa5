use Rattle.std.proofs.Common.{refl}
use Rattle.qz_terms.specs.declared.reply.Reply.TheVariants as reply
use Rattle.qz_regrading.proofs.Searching.{told_going}
use Rattle.qz_regrading.proofs.worker.live_after.Goals as goal

pub returns-in-Ok-clause-looks : goal.returns-in-Ok-clause-looks
returns-in-Ok-clause-looks g c = record {
  reply = reply.Ok c.in-Ok.place c.in-Ok.done;
  works = rw c.in-Ok.is at c.ask.ensures.works;
  told = told_going c.in-Ok.place c.in-Ok.done c.going.result (c.going.ensures c.in-Ok.place);
  faults = refl;
  missing = λ is. absurd cc;
}
