use Rattle.qz_loading.specs.declared.fault.LoadFault.TheVariants.{Fault}
use Rattle.qz_solo.proofs.Restarting.{loaded-same, refused-by}
use Rattle.qz_solo.proofs.Beginning.{caused_ok, loaded_solo, sound_ok}
use Rattle.qz_solo.proofs.folders.load.Goals as goal

pub of-requires : goal.of-requires
of-requires g c = loaded_solo g.F.Disk.Disk.moment g.F.Disk.Disk.left_at c.args.folder.now (g.F.Shelf.files c.args.shelf.now) c.in-Ok.field-0.catalog c.in-Ok.field-0.shards.items c.in-Ok.ensures.loaded c.in-Ok.ensures.some

pub returns-in-Ok-clause-cause : goal.returns-in-Ok-clause-cause
returns-in-Ok-clause-cause g c = caused_ok Fault (g.F.Shelf.faults c.args.shelf.now) (g.F.Shelf.faults c.load.new.shelf) c.in-Ok.field-0 c.of.result c.in-Ok.ensures.cause

pub returns-in-Ok-clause-stays_sound : goal.returns-in-Ok-clause-stays_sound
returns-in-Ok-clause-stays_sound g c =
    sound_ok (g.F.Shelf.sound c.args.shelf.now) (g.F.Shelf.sound c.load.new.shelf) (g.F.Shelf.faults c.args.shelf.now) (g.F.Shelf.faults c.load.new.shelf) c.in-Ok.field-0 c.of.result Fault c.in-Ok.ensures.stays_sound

pub returns-in-Ok-clause-sound_catalog : goal.returns-in-Ok-clause-sound_catalog
returns-in-Ok-clause-sound_catalog g c = rw c.of.ensures c.in-Ok.ensures.sound_catalog

pub returns-in-Ok-clause-restarts : goal.returns-in-Ok-clause-restarts
returns-in-Ok-clause-restarts g c =
    rw c.of.ensures (record {
      each = λ l ls kept. loaded-same g.F.Disk.Disk.moment g.F.Disk.Disk.left_at c.args.folder.now (g.F.Shelf.files c.args.shelf.now) l ls c.in-Ok.field-0.catalog c.in-Ok.field-0.shards.items kept c.in-Ok.ensures.loaded;
    })

pub returns-in-Err-clause-restarts : goal.returns-in-Err-clause-restarts
returns-in-Err-clause-restarts g c = record { each = λ l ls kept. refused-by c.args.folder.now (g.F.Shelf.files c.args.shelf.now) l ls _ kept c.in-Err.ensures.why }
