use Rattle.std.proofs.Common.{ℕ, List, length, ap, arith}
use Rattle.std.specs.List.{enumerate_from}
use Rattle.std.proofs.lemmas.List.FromFn.{length-enumerate_from}
use Rattle.qz_terms.specs.declared.record.Record.{Record}
use Rattle.qz_terms.specs.Catalog.{asked, regrade_by}
use Rattle.qz_roster.proofs.Reading.{length-told}
use Rattle.qz_roster.proofs.counts.Counts.jobs.Goals as goal

pub returns-clause-few : goal.returns-clause-few
returns-clause-few c = λ list are.
    let most = length-told (λ (r : ℕ × Record). regrade_by r.0 (asked r.1)) (enumerate_from 1 list) in
    let long = length-enumerate_from 1 list in
    let count = ap (λ (l : List (ℕ × ℕ)). length l) are.jobs in
    omega arith
