use Rattle.std.proofs.Common.{length, sym, subst, ◌∙◌, ap}
use Rattle.std.proofs.lemmas.List.{with_items_is}
use Rattle.qz_disks.specs.Shelves.{place}
use Rattle.qz_disks.specs.Slots.{Puts}
use Rattle.qz_sqlbases.proofs.Listed.{made_out, not_there}
use Rattle.qz_sqlbases.proofs.memory_bases.MemoryBasesBases.keeper.Goals as goal

pub returns-in-Ok-clause-lists : goal.returns-in-Ok-clause-lists
returns-in-Ok-clause-lists c =
    let now = with_items_is c.self.inside.slots c.open_again.new.slots (c.open_again.auto.slots ∙ ap length c.deref_mut.ensures.value ∙ sym c.self.inside.slots.ok.0) in
    rw (← c.self.view_is) (rw now (rw c.deref_mut.ensures.value at c.in-Ok.ensures.lists))

pub returns-clause-lists : goal.returns-clause-lists
returns-clause-lists c =
    let none = not_there _ (sym (rw c.deref.ensures.value at c.has.ensures) ∙ c.if-has.false) in
    let puts = subst (λ s. Puts (place s.folder s.name) s.holds c.self.inside.slots.items c.add.new.slots.items) c.in_ok-slot.ensures (rw c.in_ok-reserve.ensures.items at c.add.ensures) in
    rw (← c.self.view_is, c.empty-2.ensures) (made_out (place c.args.folder.now c.args.name.now) c.self.inside.slots.items c.add.new.slots.items c.in-Ok-empty.keeper none puts c.in-Ok-empty.ensures.0 c.in-Ok-empty.ensures.1)
