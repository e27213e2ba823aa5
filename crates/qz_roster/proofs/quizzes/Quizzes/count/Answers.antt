use Rattle.std.proofs.Common.{arith}
use Rattle.qz_terms.specs.declared.record.Record.{Record}
use Rattle.qz_terms.specs.Catalog.{asked, quiz_by}
use Rattle.qz_roster.proofs.QuizLemmas.{quizzes-length}
use Rattle.qz_roster.proofs.Reading.{length-told}
use Rattle.qz_roster.proofs.quizzes.Quizzes.count.Goals as goal

pub returns-clause-value : goal.returns-clause-value
returns-clause-value c = λ list are. let long = quizzes-length list c.args.self.now are in omega arith

pub returns-clause-few : goal.returns-clause-few
returns-clause-few c = λ list are. let long = quizzes-length list c.args.self.now are in let most = length-told (λ (r : Record). quiz_by (asked r)) list in omega arith
