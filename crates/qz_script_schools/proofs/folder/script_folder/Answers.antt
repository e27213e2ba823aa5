use Rattle.std.proofs.Common.{Some, arith}
use Rattle.std.proofs.KnownBytes.{Keeps-refl}
use Rattle.qz_disks.specs.Shelves.{place}
use Rattle.qz_script_schools.proofs.FolderLemmas.{follows_count, follows_goes, follows_later, given_back, out_as_many, school_answers_once, served_ends, serves_folder, unloaded_ends, unserved_folder}
use Rattle.qz_script_schools.proofs.SoloLemmas.{takes_lines}
use Rattle.qz_script_schools.proofs.folder.script_folder.Goals as goal

pub serve-status-requires-clause-takes : goal.serve-status-requires-clause-takes
serve-status-requires-clause-takes g c = takes_lines

pub serve-status-requires-clause-answers : goal.serve-status-requires-clause-answers
serve-status-requires-clause-answers g c = school_answers_once _ _

pub close-requires-clause-few : goal.close-requires-clause-few
close-requires-clause-few g c = omega (arith, follows_count _ _ _ _ c.serve-status.ensures.follows, c.in-Ok.ensures.few)

pub close-requires-clause-out : goal.close-requires-clause-out
close-requires-clause-out g c κs within = out_as_many _ _ _ _ (follows_count _ _ _ _ c.serve-status.ensures.follows) c.in-Ok.ensures.out

pub returns-in-Ok-clause-ended : goal.returns-in-Ok-clause-ended
returns-in-Ok-clause-ended g c =
    let e = rw c.in-Ok.ensures.unwritten at c.serve-status.ensures.ended in
    let goes = follows_goes _ _ _ _ c.serve-status.ensures.follows in
    let back = given_back _ _ _ _ _ _ _ _ (λ name. g.met.F.Shelf.tells_alike c.args.shelf.now c.close.new.shelf (place c.args.folder.now name) (c.requires.each name) (c.close.ensures.none_out.each name)) c.in-Ok.ensures.loaded c.in-Ok.ensures.others c.open_school.ensures.later (follows_count _ _ _ _ c.serve-status.ensures.follows) (follows_later _ _ _ _ c.serve-status.ensures.follows) c.close.ensures.catalog c.close.ensures.parts c.close.ensures.school c.close.ensures.others c.close.ensures.faults in
    record { stop = e.stop; status_is = e.status_is; cause = served_ends _ _ _ _ _ _ _ _ _ _ e.stop c.in-Ok.ensures.restarts back (record { goes_on = goes; ends = e.cause }) c.close.ensures.none_out (omega (arith, c.open_school.ensures.later, c.close.ensures.faults.later)) }

pub returns-in-Ok-clause-complete : goal.returns-in-Ok-clause-complete
returns-in-Ok-clause-complete g c =
    let e = returns-in-Ok-clause-ended g c in
    rw e.status_is (serves_folder _ _ _ _ _ _ _ e.stop e.cause)

pub returns-in-Err-clause-ended : goal.returns-in-Err-clause-ended
returns-in-Err-clause-ended g c = record {
  stop = Some c.in-Err.stop;
  status_is = c.status.ensures;
  cause = unloaded_ends _ _ _ _ _ _ _ _ c.in-Err.stop c.in-Err.ensures.unloaded c.in-Err.ensures.restarts (Keeps-refl _) c.open_school.ensures.later;
}

pub returns-in-Err-clause-complete : goal.returns-in-Err-clause-complete
returns-in-Err-clause-complete g c = rw c.status.ensures (unserved_folder _ _ _ _ _ _ c.in-Err.stop c.in-Err.ensures.unloaded)
