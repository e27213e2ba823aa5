use Rattle.std.proofs.Common.{length, sym, ◌∙◌, ap}
use Rattle.std.proofs.lemmas.List.{with_items_is}
use Rattle.qz_disks.specs.Shelves.{place}
use Rattle.qz_sqlbases.proofs.Listed.{taken_back}
use Rattle.qz_sqlbases.proofs.memory_bases.MemoryBasesBases.take_back.Goals as goal

pub returns-clause-lists : goal.returns-clause-lists
returns-clause-lists g c =
    let now = with_items_is c.self.inside.slots c.replace.new.slots (c.replace.auto.slots ∙ ap length c.deref_mut.ensures.value ∙ sym c.self.inside.slots.ok.0) in
    rw (← c.self.view_is) (taken_back (place c.args.folder.now c.args.name.now) c.self.inside.slots.items _ (g.K.Returned.held c.args.returned) (rw now (rw (c.deref_mut.ensures.value, c.into_keeper-keeper.ensures) at c.replace.ensures.puts)))

pub returns-clause-puts : goal.returns-clause-puts
returns-clause-puts g c =
    let now = with_items_is c.self.inside.slots c.replace.new.slots (c.replace.auto.slots ∙ ap length c.deref_mut.ensures.value ∙ sym c.self.inside.slots.ok.0) in
    rw (← c.self.view_is) (rw now (rw (c.deref_mut.ensures.value, c.into_keeper-keeper.ensures) at c.replace.ensures.puts))
