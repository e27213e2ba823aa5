use Rattle.qz_index.proofs.VersionLemmas.{question_kept}
use Rattle.qz_index.proofs.versions.Versions.version.Goals as goal

pub returns-clause-kept : goal.returns-clause-kept
returns-clause-kept c = λ kept.
    let h = c.in_ok-record.ensures.lookup in
    let g = c.in_ok-learned.ensures.lookup in
    question_kept c.args.records.now c.in_ok-origin.origin.place c.in_ok-record.record.now c.learned_by.result.now c.in_ok-origin.origin.item c.in_ok-learned.learned.now kept h.3.0 h.1 c.learned_by.ensures g.3.0 g.1
