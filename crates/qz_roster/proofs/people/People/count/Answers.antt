use Rattle.std.proofs.Common.{arith}
use Rattle.qz_terms.specs.Catalog.{made_user}
use Rattle.qz_roster.proofs.Reading.{length-told, users-length}
use Rattle.qz_roster.proofs.people.People.count.Goals as goal

pub returns-clause-value : goal.returns-clause-value
returns-clause-value c = λ list are. let long = users-length list in let count = are.count in omega arith

pub returns-clause-few : goal.returns-clause-few
returns-clause-few c = λ list are. let most = length-told made_user list in let count = are.count in omega arith
