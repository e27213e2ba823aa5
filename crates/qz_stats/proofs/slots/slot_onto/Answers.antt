use Rattle.qz_stats.proofs.Gathering.{played-there}
use Rattle.qz_stats.proofs.slots.slot_onto.Goals as goal

pub keep-requires-clause-slot : goal.keep-requires-clause-slot
keep-requires-clause-slot c = played-there c.args.book.now c.args.attempt.now c.args.number c.in-Some.slot c.requires.sound c.in-Some.ensures
