use Rattle.std.proofs.Common.{◌≡◌, ◌∙◌, Some, length, ap, arith}
use Rattle.qz_disks.specs.Shelves.{place}
use Rattle.qz_script_schools.proofs.FolderLemmas.{given_back, served_ends, unloaded_ends}
use Rattle.qz_stats_school.proofs.StatsLemmas.{faults-same, loaded-sound, said-of, said-written, says_all, school-same, unsaid}
use Rattle.qz_stats_school.proofs.school.stats.Goals as goal

pub told-told-requires-clause-sound : goal.told-told-requires-clause-sound
told-told-requires-clause-sound g c κs within = rw (c.deref.ensures.value ∙ c.into_parts-catalog.ensures.shards) (loaded-sound _ _ _ _ _ _ c.in-Ok.ensures.loaded)

pub returns-in-Ok-clause-ended : goal.returns-in-Ok-clause-ended
returns-in-Ok-clause-ended g c =
    let e = rw c.in-Ok.ensures.unwritten at c.say.ensures in
    let a = c.in-Ok.school in
    let b = c.of.result in
    let same : b ≡ a = school-same a b _ _ c.of.ensures c.into_parts-catalog.ensures.catalog c.into_parts-catalog.ensures.shards in
    let told = said-of c.told-told.result c.args.quiz _ a (c.deref.ensures.value ∙ c.into_parts-catalog.ensures.shards) c.told-told.ensures in
    let back = given_back _ _ _ _ _ _ a b (λ name. g.met.F.Shelf.tells_alike c.args.shelf.now c.close.new.shelf (place c.args.folder.now name) (c.requires.none_out.each name) (c.close.ensures.none_out.each name)) c.in-Ok.ensures.loaded c.in-Ok.ensures.others c.open_school.ensures.later (ap (λ s. length s.parts) same) (faults-same (record { moment = g.F.Disk.Disk.moment; left_at = g.F.Disk.Disk.left_at; sound = g.F.Disk.Disk.sound; faults = g.F.Disk.Disk.faults }) a b same) c.close.ensures.catalog c.close.ensures.parts c.close.ensures.school c.close.ensures.others c.close.ensures.faults in
    record {
      stop = e.stop;
      status_is = e.status_is;
      cause = served_ends _ _ _ _ _ _ _ _ a b e.stop c.in-Ok.ensures.restarts back (record { same = same; written = said-written c.told-told.result _ _ _ e.stop told e.cause }) c.close.ensures.none_out (omega (arith, c.open_school.ensures.later, c.close.ensures.faults.later));
    }

pub returns-in-Ok-clause-complete : goal.returns-in-Ok-clause-complete
returns-in-Ok-clause-complete g c =
    let e = returns-in-Ok-clause-ended g c in
    rw e.status_is (says_all _ _ _ _ _ _ _ e.stop e.cause)

pub returns-in-Err-clause-ended : goal.returns-in-Err-clause-ended
returns-in-Err-clause-ended g c = record {
  stop = Some c.in-Err.stop;
  status_is = c.status.ensures;
  cause = unloaded_ends _ _ _ _ _ _ _ _ c.in-Err.stop c.in-Err.ensures.unloaded c.in-Err.ensures.restarts tt c.open_school.ensures.later;
}

pub returns-in-Err-clause-complete : goal.returns-in-Err-clause-complete
returns-in-Err-clause-complete g c = rw c.status.ensures (unsaid _ _ _ _ _ c.in-Err.stop c.in-Err.ensures.unloaded)
