use Rattle.std.proofs.Common.{length, sym, ◌∙◌, ap}
use Rattle.std.proofs.lemmas.List.{with_items_is}
use Rattle.qz_disks.specs.Shelves.{place}
use Rattle.qz_disks.specs.Slots.{stands_at}
use Rattle.qz_sqlbases.proofs.Listed.{folder_back, there_while_out}
use Rattle.qz_sqlbases.proofs.folder_bases.FolderBasesBases.take_back.Goals as goal

pub returns-clause-lists : goal.returns-clause-lists
returns-clause-lists g c =
    let now = with_items_is c.self.inside.slots c.replace.new.slots (c.replace.auto.slots ∙ ap length c.deref_mut.ensures.value ∙ sym c.self.inside.slots.ok.0) in
    rw (← c.self.view_is) (folder_back (place c.args.folder.now c.args.name.now) c.self.inside.slots.items _ (g.K.Returned.held c.args.returned).doubt (rw now (rw (c.deref_mut.ensures.value, c.close-doubt.ensures, c.into_keeper-keeper.ensures) at c.replace.ensures.puts)))

pub replace-requires : goal.replace-requires
replace-requires g c =
    rw c.deref_mut.ensures.value (there_while_out (stands_at (place c.args.folder.now c.args.name.now) c.self.inside.slots.items) (rw (← c.self.view_is) at c.requires))
