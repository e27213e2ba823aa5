use Rattle.qz_roster.proofs.NextLemmas.{called-there, quiz-there}
use Rattle.qz_roster.proofs.roster.Roster.make_room.Goals as goal

pub make_room-requires : goal.make_room-requires
make_room-requires c = called-there c.args.records.now c.args.self.now.people c.args.record.now c.requires.roster.people c.requires.next

pub make_room-requires-2 : goal.make_room-requires-2
make_room-requires-2 c = quiz-there c.args.records.now c.args.self.now.quizzes c.args.record.now c.requires.roster.quizzes c.requires.next
