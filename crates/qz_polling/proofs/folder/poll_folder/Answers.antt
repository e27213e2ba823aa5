use Rattle.std.proofs.Common.{Some, refl, arith}
use Rattle.qz_disks.specs.Shelves.{place}
use Rattle.qz_ready_doors.specs.Halls.{entrance_by}
use Rattle.qz_script_schools.proofs.FolderLemmas.{given_back, out_as_many, served_ends, unloaded_ends}
use Rattle.qz_polling.proofs.Closing.{closes_count, closes_later}
use Rattle.qz_polling.proofs.Folders.{polled_so, polls_all, unpolled_all}
use Rattle.qz_polling.proofs.folder.poll_folder.Goals as goal

pub close-requires-clause-few : goal.close-requires-clause-few
close-requires-clause-few g c = omega (arith, closes_count _ c.in-Ok.school c.poll_school-school.result.0 c.poll_school-school.ensures.closes, c.in-Ok.ensures.few)

pub close-requires-clause-out : goal.close-requires-clause-out
close-requires-clause-out g c κs within = out_as_many _ _ _ _ (closes_count _ c.in-Ok.school c.poll_school-school.result.0 c.poll_school-school.ensures.closes) c.in-Ok.ensures.out

pub returns-in-Ok-clause-ended : goal.returns-in-Ok-clause-ended
returns-in-Ok-clause-ended g c =
    let e = rw c.in-Ok.ensures.unwritten at c.say.ensures in
    let closes = c.poll_school-school.ensures.closes in
    let back = given_back _ _ _ _ _ _ _ _ (λ name. g.met.F.Shelf.tells_alike c.args.shelf.now c.close.new.shelf (place c.args.folder.now name) (c.requires.none_out.each name) (c.close.ensures.none_out.each name)) c.in-Ok.ensures.loaded c.in-Ok.ensures.others c.open_school.ensures.later (closes_count _ c.in-Ok.school c.poll_school-school.result.0 closes) (closes_later _ c.in-Ok.school c.poll_school-school.result.0 closes) c.close.ensures.catalog c.close.ensures.parts c.close.ensures.school c.close.ensures.others c.close.ensures.faults in
    record {
      stop = e.stop;
      status_is = e.status_is;
      cause = served_ends _ _ _ _ _ _ _ _ _ _ e.stop c.in-Ok.ensures.restarts back
          (polled_so _ _ _ _ _ (λ d. record { door = d; entrance = entrance_by g.P.ReadyDoor.left g.P.ReadyDoor.returned g.P.ReadyDoor.returns g.P.ReadyDoor.out g.P.ReadyDoor.faults d }) _ _ _ _ _ _ c.poll_school-school.result.1 e.stop closes c.poll_school-school.ensures.served e.cause)
          c.close.ensures.none_out (omega (arith, c.open_school.ensures.later, c.close.ensures.faults.later));
    }

pub returns-in-Ok-clause-complete : goal.returns-in-Ok-clause-complete
returns-in-Ok-clause-complete g c =
    let e = returns-in-Ok-clause-ended g c in
    rw e.status_is (polls_all _ _ _ _ _ _ _ _ _ _ _ _ e.stop e.cause)

pub returns-in-Err-clause-ended : goal.returns-in-Err-clause-ended
returns-in-Err-clause-ended g c = record {
  stop = Some c.in-Err.stop;
  status_is = c.status.ensures;
  cause = unloaded_ends _ _ _ _ _ _ _ _ c.in-Err.stop c.in-Err.ensures.unloaded c.in-Err.ensures.restarts refl c.open_school.ensures.later;
}

pub returns-in-Err-clause-complete : goal.returns-in-Err-clause-complete
returns-in-Err-clause-complete g c = rw c.status.ensures (unpolled_all _ _ _ _ _ _ _ c.in-Err.stop c.in-Err.ensures.unloaded)
