use Rattle.std.proofs.lemmas.Result.{err_from_is_err_and}
use Rattle.qz_wire.proofs.AskingLemmas.{end-fails}
use Rattle.qz_replay.proofs.ReplayLemmas.{version_is}
use Rattle.qz_replay.proofs.asked.version.Goals as goal

pub returns-in_err-end-clause-value : goal.returns-in_err-end-clause-value
returns-in_err-end-clause-value c =
    let p = err_from_is_err_and c.from_residual-in_err-end.result c.from_residual-in_err-end.ensures.1 in
    let words = version_is _ _ _ _ _ _ _ _ _ c.in_ok-max.ensures.value c.in_ok-penalty.ensures.value c.in_ok-hints.ensures.value c.in_ok-question.ensures.value in
    rw (p.1, p.2, words) (end-fails 6 _ _ c.in_err-end.field-0.0 c.in_err-end.ensures)
