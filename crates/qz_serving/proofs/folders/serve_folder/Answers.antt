use Rattle.std.proofs.Common.{Some, refl, arith}
use Rattle.qz_disks.specs.Shelves.{place}
use Rattle.qz_script_schools.proofs.FolderLemmas.{given_back, out_as_many, served_ends, unloaded_ends}
use Rattle.qz_serving.proofs.ServingLemmas.{doors_as_many, said_of, school_count, school_later, serves_doors, unserved_doors}
use Rattle.qz_serving.proofs.folders.serve_folder.Goals as goal

pub close-requires-clause-few : goal.close-requires-clause-few
close-requires-clause-few g c = omega (arith, school_count _ _ _ _ _ _ _ _ _ c.serve_school-school.result.1 c.serve_school-school.ensures, c.in-Ok.ensures.few)

pub close-requires-clause-out : goal.close-requires-clause-out
close-requires-clause-out g c κs within = out_as_many _ _ _ _ (school_count _ _ _ _ _ _ _ _ _ c.serve_school-school.result.1 c.serve_school-school.ensures) c.in-Ok.ensures.out

pub returns-in-Ok-clause-ended : goal.returns-in-Ok-clause-ended
returns-in-Ok-clause-ended g c =
    let e = rw c.in-Ok.ensures.unwritten at c.say_ended.ensures in
    let back = given_back _ _ _ _ _ _ _ _ (λ name. g.met.F.Shelf.tells_alike c.args.shelf.now c.close.new.shelf (place c.args.folder.now name) (c.requires.none_out.each name) (c.close.ensures.none_out.each name)) c.in-Ok.ensures.loaded c.in-Ok.ensures.others c.open_school.ensures.later (school_count _ _ _ _ _ _ _ _ _ c.serve_school-school.result.1 c.serve_school-school.ensures) (school_later _ _ _ _ _ _ _ _ _ c.serve_school-school.result.1 c.serve_school-school.ensures) c.close.ensures.catalog c.close.ensures.parts c.close.ensures.school c.close.ensures.others c.close.ensures.faults in
    record { stop = e.stop; status_is = e.status_is; cause = served_ends _ _ _ _ _ _ _ _ _ _ e.stop c.in-Ok.ensures.restarts back (said_of _ _ _ _ _ _ _ _ _ _ _ _ _ c.serve_school-school.result.1 e.stop c.serve_school-school.ensures back e.cause) c.close.ensures.none_out (omega (arith, c.open_school.ensures.later, c.close.ensures.faults.later)) }

pub returns-in-Ok-clause-complete : goal.returns-in-Ok-clause-complete
returns-in-Ok-clause-complete g c =
    let e = returns-in-Ok-clause-ended g c in
    rw e.status_is (serves_doors _ _ _ _ _ _ _ _ _ _ _ _ e.stop (λ door after a b end is failed. is.fault failed) e.cause)

pub returns-in-Ok-clause-doors : goal.returns-in-Ok-clause-doors
returns-in-Ok-clause-doors g c = doors_as_many _ _ _ _ _ _ _ _ _ c.serve_school-school.result.1 c.serve_school-school.ensures

pub returns-in-Err-clause-ended : goal.returns-in-Err-clause-ended
returns-in-Err-clause-ended g c = record {
  stop = Some c.in-Err.stop;
  status_is = c.status.ensures;
  cause = unloaded_ends _ _ _ _ _ _ _ _ c.in-Err.stop c.in-Err.ensures.unloaded c.in-Err.ensures.restarts refl c.open_school.ensures.later;
}

pub returns-in-Err-clause-complete : goal.returns-in-Err-clause-complete
returns-in-Err-clause-complete g c = rw c.status.ensures (unserved_doors _ _ _ _ _ _ c.in-Err.stop c.in-Err.ensures.unloaded)
