use Rattle.qz_disks.specs.Shelves.{place}
use Rattle.qz_terms.specs.Spelling.{spelling}
use Rattle.qz_folders.specs.Founding.{founding}
use Rattle.qz_folders.specs.Names.{catalog_name}
use Rattle.qz_folders.proofs.Founded.{ends_with_put}
use Rattle.qz_folders.proofs.founding.found.Goals as goal

pub returns-clause-ends : goal.returns-clause-ends
returns-clause-ends g c =
    let name = c.catalog_name-name.ensures in
    ends_with_put (spelling (founding c.args.shards c.args.token.now)) _ _ _ _ c.in_ok-journal.journal c.in_ok-journal.payloads _ _ _ (rw name at c.in_ok-journal.ensures.opened)
    (g.met.F.Shelf.reads_now c.args.shelf.now (place c.args.folder.now catalog_name) (c.requires.free.each catalog_name))
    (rw (c.as_slice.ensures, c.as_slice-2.ensures, c.in_ok-payload.ensures.spelled) at c.put_first-done.ensures.list) (rw name at c.give_back.ensures.stands)
