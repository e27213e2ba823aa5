use Rattle.qz_roster.proofs.NextLemmas.{told-room}
use Rattle.qz_roster.proofs.roster.Roster.keep.Goals as goal

pub keep-requires-2-clause-told : goal.keep-requires-2-clause-told
keep-requires-2-clause-told c = told-room c.args.records.now c.args.self.now.quizzes c.args.record.now c.requires.roster.quizzes c.requires.next c.requires.room.quizzes
