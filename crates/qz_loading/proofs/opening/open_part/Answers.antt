use Rattle.qz_loading.specs.Places.{part_place}
use Rattle.qz_loading.proofs.Refusing.{part_unread}
use Rattle.qz_loading.proofs.Standing.{stays_given}
use Rattle.qz_loading.proofs.opening.open_part.Goals as goal

pub returns-in-Ok-clause-why : goal.returns-in-Ok-clause-why
returns-in-Ok-clause-why g c =
    part_unread ((g.F.Shelf.files c.args.shelf.now).file (part_place c.args.folder.now c.args.index)) c.args.index c.args.count c.in-Ok.payloads c.in-Err-read_part.fault (rw c.part_name-name.ensures at c.in-Ok.ensures.opened.list) (rw c.as_slice.ensures at c.in-Err-read_part.ensures.refused)

pub returns-in-Ok-clause-stays : goal.returns-in-Ok-clause-stays
returns-in-Ok-clause-stays g c =
    stays_given g.F.Disk.Disk.moment g.F.Disk.Disk.left_at ((g.F.Shelf.files c.args.shelf.now).file (part_place c.args.folder.now c.args.index)) ((g.F.Shelf.files c.give_back.new.shelf).file (part_place c.args.folder.now c.args.index)) c.in-Ok.journal c.in-Ok.payloads (rw c.part_name-name.ensures at c.in-Ok.ensures.opened) (g.met.F.Shelf.reads_now c.args.shelf.now (part_place c.args.folder.now c.args.index) c.requires.free)
    (rw (c.part_name-name.ensures, c.in-Err-read_part.ensures.back) at c.give_back.ensures.stands)
