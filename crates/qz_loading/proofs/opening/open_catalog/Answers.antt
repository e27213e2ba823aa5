use Rattle.qz_loading.specs.Places.{catalog_place}
use Rattle.qz_loading.proofs.Refusing.{catalog_unread}
use Rattle.qz_loading.proofs.Standing.{stays_given}
use Rattle.qz_loading.proofs.opening.open_catalog.Goals as goal

pub returns-in-Ok-clause-why : goal.returns-in-Ok-clause-why
returns-in-Ok-clause-why g c =
    catalog_unread ((g.F.Shelf.files c.args.shelf.now).file (catalog_place c.args.folder.now)) c.in-Ok.payloads c.in-Err-read_catalog.fault (rw c.catalog_name-name.ensures at c.in-Ok.ensures.opened.list) (rw c.as_slice.ensures at c.in-Err-read_catalog.ensures.refused)

pub returns-in-Ok-clause-stays : goal.returns-in-Ok-clause-stays
returns-in-Ok-clause-stays g c =
    stays_given g.F.Disk.Disk.moment g.F.Disk.Disk.left_at ((g.F.Shelf.files c.args.shelf.now).file (catalog_place c.args.folder.now)) ((g.F.Shelf.files c.give_back.new.shelf).file (catalog_place c.args.folder.now)) c.in-Ok.journal c.in-Ok.payloads (rw c.catalog_name-name.ensures at c.in-Ok.ensures.opened) (g.met.F.Shelf.reads_now c.args.shelf.now (catalog_place c.args.folder.now) c.requires)
    (rw (c.catalog_name-name.ensures, c.in-Err-read_catalog.ensures.back) at c.give_back.ensures.stands)
