use Rattle.qz_disks.specs.Shelves.{place}
use Rattle.qz_folders.specs.Names.{catalog_name}
use Rattle.std.proofs.Common.{arith}
use Rattle.std.proofs.lemmas.Result.{err_from_is_err_and}
use Rattle.qz_loading.specs.declared.fault.LoadFault.TheVariants.{Fault}
use Rattle.qz_loading.specs.Places.{catalog_place}
use Rattle.qz_loading.proofs.Returning.{catalog_stays, none_out_again, others_kept, out_now, stay_unopened, unreached_all, unreached_between}
use Rattle.qz_loading.proofs.Listing.{beside_catalog, catalog_in, is_loaded, parts_fault, parts_of_like}
use Rattle.qz_loading.proofs.Results.{risen_within, told_as}
use Rattle.qz_loading.proofs.Sounding.{sound_parts_like, stays_after, stays_both, stays_told}
use Rattle.qz_loading.proofs.loading.load.Goals as goal

pub returns-in-Ok-clause-loaded : goal.returns-in-Ok-clause-loaded
returns-in-Ok-clause-loaded g c =
    let moment = g.F.Disk.Disk.moment in
    let left_at = g.F.Disk.Disk.left_at in
    let files = g.F.Shelf.files c.args.shelf.now in
    let one = g.F.Shelf.files c.open_catalog.new.shelf in
    is_loaded moment left_at c.args.folder.now files c.in_ok-catalog.catalog c.shard_count.result c.in-Ok.shards.items c.in_ok-catalog.ensures.opened (rw c.core-core.ensures at c.shard_count.ensures.count)
    (parts_of_like moment left_at c.args.folder.now files one c.shard_count.result c.in-Ok.shards.items (beside_catalog c.args.folder.now files one c.open_catalog.ensures.others) c.in-Ok.ensures.opened) c.in-Ok.ensures.all (rw c.core-core.ensures at c.in-Ok.ensures.agree)

pub returns-in-Ok-clause-out : goal.returns-in-Ok-clause-out
returns-in-Ok-clause-out g c =
    rw c.in-Ok.ensures.all
    (out_now c.args.folder.now c.shard_count.result (g.F.Shelf.files c.args.shelf.now) (g.F.Shelf.files c.open_catalog.new.shelf) (g.F.Shelf.files c.open_parts.new.shelf) c.requires c.in_ok-catalog.ensures.out c.open_catalog.ensures.others c.in-Ok.ensures.out c.in-Ok.ensures.others)

pub returns-in-Ok-clause-others : goal.returns-in-Ok-clause-others
returns-in-Ok-clause-others g c =
    rw c.in-Ok.ensures.all
    (others_kept c.args.folder.now c.shard_count.result (g.F.Shelf.files c.args.shelf.now) (g.F.Shelf.files c.open_catalog.new.shelf) (g.F.Shelf.files c.open_parts.new.shelf) c.open_catalog.ensures.others c.in-Ok.ensures.others)

pub returns-in-Ok-clause-stays_sound : goal.returns-in-Ok-clause-stays_sound
returns-in-Ok-clause-stays_sound g c =
    stays_told _ _ _ _ ⊥ _ (stays_both _ _ _ _ _ _ _ ⊥ c.open_catalog.ensures.stays_sound (stays_told _ _ _ _ _ ⊥ c.open_parts.ensures.stays_sound (λ none. absurd none))) (λ is. cc)

pub returns-in-Ok-clause-sound_parts : goal.returns-in-Ok-clause-sound_parts
returns-in-Ok-clause-sound_parts g c = λ was.
    sound_parts_like g.F.Disk.Disk.sound g.F.Disk.Disk.faults c.args.folder.now (g.F.Shelf.files c.args.shelf.now) (g.F.Shelf.files c.open_catalog.new.shelf) c.in-Ok.shards.items
    (beside_catalog c.args.folder.now (g.F.Shelf.files c.args.shelf.now) (g.F.Shelf.files c.open_catalog.new.shelf) c.open_catalog.ensures.others) (c.in-Ok.ensures.sound (c.open_catalog.ensures.stays_sound.still was))

pub returns-in-Err-clause-stay : goal.returns-in-Err-clause-stay
returns-in-Err-clause-stay g c =
    stay_unopened c.args.folder.now c.shard_count.result (g.F.Shelf.files c.args.shelf.now) (g.F.Shelf.files c.open_catalog.new.shelf) (g.F.Shelf.files c.open_parts.new.shelf) (g.F.Shelf.files c.give_back_catalog.new.shelf) c.shard_count.ensures.few c.requires
    (catalog_stays g.F.Disk.Disk.moment g.F.Disk.Disk.left_at ((g.F.Shelf.files c.args.shelf.now).file (catalog_place c.args.folder.now)) ((g.F.Shelf.files c.give_back_catalog.new.shelf).file (catalog_place c.args.folder.now)) c.in_ok-catalog.catalog c.in_ok-catalog.ensures.opened (g.met.F.Shelf.reads_now c.args.shelf.now (place c.args.folder.now catalog_name) (c.requires.each catalog_name)) c.give_back_catalog.ensures.back)
    c.open_catalog.ensures.others c.in-Err.ensures.stay c.give_back_catalog.ensures.others c.give_back_catalog.ensures.here

pub returns-in-Err-clause-why : goal.returns-in-Err-clause-why
returns-in-Err-clause-why g c =
    parts_fault c.args.folder.now (g.F.Shelf.files c.args.shelf.now) (g.F.Shelf.files c.open_catalog.new.shelf) c.in_ok-catalog.catalog.held.list c.shard_count.result c.in-Err.fault
    (beside_catalog c.args.folder.now (g.F.Shelf.files c.args.shelf.now) (g.F.Shelf.files c.open_catalog.new.shelf) c.open_catalog.ensures.others)
    (record { catalog_is = catalog_in g.F.Disk.Disk.moment g.F.Disk.Disk.left_at _ c.in_ok-catalog.catalog c.in_ok-catalog.ensures.opened; founded = rw c.core-core.ensures at c.shard_count.ensures.count }) (rw c.core-core.ensures at c.in-Err.ensures.why)

pub returns-in-Err-clause-unreached : goal.returns-in-Err-clause-unreached
returns-in-Err-clause-unreached g c =
    unreached_between c.args.folder.now (g.F.Shelf.files c.args.shelf.now) (g.F.Shelf.files c.open_catalog.new.shelf) (g.F.Shelf.files c.open_parts.new.shelf) (g.F.Shelf.files c.give_back_catalog.new.shelf) c.in-Err.fault c.open_catalog.ensures.others c.in-Err.ensures.unreached c.give_back_catalog.ensures.others

pub returns-in_err-catalog-clause-unreached : goal.returns-in_err-catalog-clause-unreached
returns-in_err-catalog-clause-unreached g c =
    let p = err_from_is_err_and c.from_residual.result c.from_residual.ensures.1 in
    rw p.1 (unreached_all c.args.folder.now (g.F.Shelf.files c.args.shelf.now) (g.F.Shelf.files c.open_catalog.new.shelf) _ c.open_catalog.ensures.others)

pub returns-in-Err-clause-stays_sound : goal.returns-in-Err-clause-stays_sound
returns-in-Err-clause-stays_sound g c =
    let first = c.open_catalog.ensures.stays_sound in
    let both = stays_both _ _ _ _ _ _ _ _ first c.open_parts.ensures.stays_sound in
    stays_after _ _ _ _ _ _ _ _ both (λ is. told_as c.open_parts.result c.in-Err.fault Fault c.in-Err.is is) (λ was. c.give_back_catalog.ensures.stays_sound (c.in_ok-catalog.ensures.sound was).disk (c.in_ok-catalog.ensures.sound was).no_faults)

pub returns-in-Err-clause-cause : goal.returns-in-Err-clause-cause
returns-in-Err-clause-cause g c = record {
  later = omega (arith, c.open_catalog.ensures.cause.later, c.open_parts.ensures.cause.later, c.give_back_catalog.ensures.faults.later);
  failed = λ is. risen_within _ _ _ _ c.open_catalog.ensures.cause.later (c.open_parts.ensures.cause.failed (told_as c.open_parts.result c.in-Err.fault Fault c.in-Err.is is)) c.give_back_catalog.ensures.faults.later;
}

pub returns-in-Err-clause-none_out : goal.returns-in-Err-clause-none_out
returns-in-Err-clause-none_out g c =
    none_out_again c.args.folder.now c.shard_count.result (g.F.Shelf.files c.args.shelf.now) (g.F.Shelf.files c.open_catalog.new.shelf) (g.F.Shelf.files c.open_parts.new.shelf) (g.F.Shelf.files c.give_back_catalog.new.shelf)
    c.requires c.open_catalog.ensures.others c.in-Err.ensures.stay c.give_back_catalog.ensures.here c.give_back_catalog.ensures.others
