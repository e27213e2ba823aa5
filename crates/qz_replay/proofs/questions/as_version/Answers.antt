use Rattle.qz_replay.proofs.VersionLemmas.{version-is-question}
use Rattle.qz_replay.proofs.questions.as_version.Goals as goal

pub returns-clause-question : goal.returns-clause-question
returns-clause-question c =
    rw c.in_ok-question.ensures (version-is-question c.args.question c.args.penalty c.args.hints c.requires.question c.requires.penalty c.requires.hints)
