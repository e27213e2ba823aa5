use Rattle.std.proofs.Common.{length, sym, ◌∙◌, ap}
use Rattle.std.proofs.lemmas.List.{with_items_is}
use Rattle.qz_disks.specs.Shelves.{place}
use Rattle.qz_sqlbases.proofs.Listed.{folder_out, untold_at}
use Rattle.qz_sqlbases.proofs.folder_bases.FolderBasesBases.keeper.Goals as goal

pub returns-in-Ok-clause-lists : goal.returns-in-Ok-clause-lists
returns-in-Ok-clause-lists c =
    let now = with_items_is c.self.inside.slots c.replace.new.slots (c.replace.auto.slots ∙ ap length c.deref_mut.ensures.value ∙ sym c.self.inside.slots.ok.0) in
    folder_out (place c.args.folder.now c.args.name.now) c.args.self.now.slots c.self.inside.slots.items _ c.in-Ok.opened.0.doubt c.in-Ok.opened.1 (rw (← c.self.view_is) at c.in_ok-make_slot.ensures.lists)
    (rw now (rw c.deref_mut.ensures.value at c.replace.ensures.puts)) (untold_at (place c.args.folder.now c.args.name.now) c.args.self.now.slots) c.in-Ok.ensures.fresh.0
