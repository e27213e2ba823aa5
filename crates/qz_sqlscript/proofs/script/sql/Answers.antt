use Rattle.std.proofs.Common.{Err, ◌∙◌, Some, ap, inl, inr, arith}
use Rattle.std.proofs.KnownBytes.{Keeps-refl}
use Rattle.qz_script_schools.proofs.FolderLemmas.{follows_count, follows_later, school_answers_once}
use Rattle.qz_script_schools.proofs.SoloLemmas.{takes_lines}
use Rattle.qz_sqlfolders.proofs.Given.{elsewhere-both}
use Rattle.qz_sqlscript.proofs.SqlLemmas.{answers_all, given_back, one_part}
use Rattle.qz_sqlscript.proofs.script.sql.Goals as goal

pub serve-status-requires-clause-takes : goal.serve-status-requires-clause-takes
serve-status-requires-clause-takes g c = takes_lines

pub serve-status-requires-clause-answers : goal.serve-status-requires-clause-answers
serve-status-requires-clause-answers g c = school_answers_once _ _

pub close-requires-clause-one : goal.close-requires-clause-one
close-requires-clause-one g c = follows_count _ _ _ _ c.serve-status.ensures.follows ∙ one_part _ _ _ _ _ _ c.in-Ok.ensures.loaded

pub returns-in-Ok-clause-ended : goal.returns-in-Ok-clause-ended
returns-in-Ok-clause-ended g c =
    let e = c.serve-status.ensures.ended in
    let steady = c.in-Ok.ensures.steady in
    let rise = rw steady at c.close.ensures.faults in
    let back = given_back _ _ _ _ _ _ _ _ c.in-Ok.ensures.loaded c.close.ensures.stored (follows_later _ _ _ _ c.serve-status.ensures.follows) rise in
    record {
      stop = e.stop;
      status_is = e.status_is;
      cause = record { by = inl (record { loaded = c.in-Ok.desk; closed = c.serve-status.new.desk; back = back; ends = e.cause }); none_out = c.close.ensures.back; others = elsewhere-both _ _ _ _ c.load.ensures.others c.close.ensures.others; later = omega (arith, steady, c.close.ensures.faults.later) };
    }

pub returns-in-Ok-clause-complete : goal.returns-in-Ok-clause-complete
returns-in-Ok-clause-complete g c =
    let e = returns-in-Ok-clause-ended g c in
    rw e.status_is (answers_all _ _ _ _ _ _ _ _ _ e.stop e.cause)

pub returns-in-Err-clause-ended : goal.returns-in-Err-clause-ended
returns-in-Err-clause-ended g c = record {
  stop = Some c.tell.result;
  status_is = c.status.ensures;
  cause = record {
    by = inr (record {
      cause = c.in-Err.fault;
      unloaded = record { why = c.in-Err.ensures.why; stay = c.in-Err.ensures.stay; risen = λ is. c.load.ensures.cause.failed (c.in-Err.is ∙ ap (λ f. Err f) is) };
      told = c.tell.ensures;
      unread = Keeps-refl _;
    });
    none_out = c.in-Err.ensures.back;
    others = c.load.ensures.others;
    later = c.load.ensures.cause.later;
  };
}

pub returns-in-Err-clause-complete : goal.returns-in-Err-clause-complete
returns-in-Err-clause-complete g c =
    let e = returns-in-Err-clause-ended g c in
    rw e.status_is (answers_all _ _ _ _ _ _ _ _ _ e.stop e.cause)
