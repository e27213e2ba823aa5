use Rattle.qz_loading.proofs.Returning.{all_stay, unreached_left}
use Rattle.qz_loading.proofs.Listing.{first_fault}
use Rattle.std.proofs.Common.{length, arith}
use Rattle.qz_loading.specs.declared.fault.LoadFault.TheVariants.{Fault}
use Rattle.qz_loading.proofs.Results.{risen_within, told_as}
use Rattle.qz_loading.proofs.Sounding.{sound_out, stays_after}
use Rattle.qz_loading.proofs.parts.open_parts.Goals as goal

pub returns-in-Err-clause-stay : goal.returns-in-Err-clause-stay
returns-in-Err-clause-stay g c =
    all_stay g.F.Disk.Disk.moment g.F.Disk.Disk.left_at c.args.folder.now (g.F.Shelf.files c.args.shelf.now) (g.F.Shelf.files c.open_into.new.shelf) (g.F.Shelf.files c.give_back_parts.new.shelf) c.args.count c.open_into.new.shards.items c.requires.few c.in-Err.ensures.fewer
    c.requires.free c.open_into.ensures.opened c.in-Err.ensures.rest c.give_back_parts.ensures.here c.give_back_parts.ensures.back c.give_back_parts.ensures.others (λ at free. g.met.F.Shelf.reads_now c.args.shelf.now at free)

pub returns-in-Err-clause-why : goal.returns-in-Err-clause-why
returns-in-Err-clause-why g c =
    first_fault g.F.Disk.Disk.moment g.F.Disk.Disk.left_at c.args.folder.now (g.F.Shelf.files c.args.shelf.now) c.args.count c.args.catalog.now c.open_into.new.shards.items c.in-Err.fault c.open_into.ensures.opened c.open_into.ensures.agree c.in-Err.ensures.fewer c.in-Err.ensures.why

pub returns-in-Err-clause-unreached : goal.returns-in-Err-clause-unreached
returns-in-Err-clause-unreached g c =
    unreached_left c.args.folder.now (g.F.Shelf.files c.args.shelf.now) (g.F.Shelf.files c.open_into.new.shelf) (g.F.Shelf.files c.give_back_parts.new.shelf) _ (length c.open_into.new.shards.items) c.args.count c.args.catalog.now c.in-Err.fault
    c.requires.few c.in-Err.ensures.fewer c.in-Err.ensures.rest c.give_back_parts.ensures.others c.in-Err.ensures.why

pub returns-in-Err-clause-stays_sound : goal.returns-in-Err-clause-stays_sound
returns-in-Err-clause-stays_sound g c =
    stays_after _ _ _ _ _ _ _ _ c.open_into.ensures.stays_sound (λ is. told_as c.open_into.result c.in-Err.fault Fault c.in-Err.is is)
    (λ was. c.give_back_parts.ensures.stays_sound (sound_out g.F.Disk.Disk.sound g.F.Disk.Disk.faults c.args.folder.now (g.F.Shelf.files c.args.shelf.now) c.open_into.new.shards.items (c.open_into.ensures.sound was)))

pub returns-in-Err-clause-cause : goal.returns-in-Err-clause-cause
returns-in-Err-clause-cause g c = record {
  later = omega (arith, c.open_into.ensures.cause.later, c.give_back_parts.ensures.faults.later);
  failed = λ is. risen_within _ _ _ _ (omega arith) (c.open_into.ensures.cause.failed (told_as c.open_into.result c.in-Err.fault Fault c.in-Err.is is)) c.give_back_parts.ensures.faults.later;
}
