use Rattle.qz_replay.proofs.ReplayLemmas.{two-words}
use Rattle.qz_replay.proofs.reading.question_on.Goals as goal

pub returns-in-Some-cut-clause-value : goal.returns-in-Some-cut-clause-value
returns-in-Some-cut-clause-value c = two-words c.args.line.now c.in-Some.word.now _ _ c.in-Some.ensures c.in-Some-cut.ensures
