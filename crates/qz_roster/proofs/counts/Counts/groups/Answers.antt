use Rattle.std.proofs.Common.{arith}
use Rattle.qz_terms.specs.declared.record.Record.{Record}
use Rattle.qz_terms.specs.Catalog.{asked, group_by}
use Rattle.qz_roster.proofs.Reading.{length-told}
use Rattle.qz_roster.proofs.counts.Counts.groups.Goals as goal

pub returns-clause-few : goal.returns-clause-few
returns-clause-few c = λ list are. let most = length-told (λ (r : Record). group_by (asked r)) list in let count = are.groups in omega arith
