use Rattle.qz_roster.proofs.QuizLemmas.{quizzes-kept}
use Rattle.qz_roster.proofs.quizzes.Quizzes.keep.Goals as goal

pub returns : goal.returns
returns c =
    quizzes-kept c.args.records.now c.args.record.now c.args.self.now c.keep_told.new.self c.keep_made.new.self c.requires.quizzes
    c.keep_told.ensures.places c.keep_told.ensures.told c.keep_made.ensures.places c.keep_made.ensures.told
