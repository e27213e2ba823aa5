use Rattle.std.proofs.Common.{length, Some, refl, sym, ◌∙◌, ap}
use Rattle.std.specs.Prelude.{unwrap_or}
use Rattle.qz_disks.specs.Slots.{empty_disk}
use Rattle.std.proofs.lemmas.List.{with_items_is}
use Rattle.qz_disks.specs.Shelves.{place}
use Rattle.qz_disks.proofs.SlotLemmas.{put_sound}
use Rattle.qz_disks.proofs.memory_shelf.MemoryShelf.put.Goals as goal

pub returns-then-has-clause-sound : goal.returns-then-has-clause-sound
returns-then-has-clause-sound c = λ none sound.
    let now = with_items_is c.self.inside.slots c.replace.new.slots (c.replace.auto.slots ∙ ap length c.deref_mut.ensures.value ∙ sym c.self.inside.slots.ok.0) in
    put_sound (place c.args.folder.now c.args.name.now) (Some c.args.disk) _ _ (rw (← c.self.view_is) at sound) (rw now (rw c.deref_mut.ensures.value at c.replace.ensures.puts)) refl none

pub returns-clause-sound : goal.returns-clause-sound
returns-clause-sound c = λ none sound.
    put_sound _ c.in_ok-slot.slot.holds _ _ (rw (← c.self.view_is) at sound) (rw c.in_ok-reserve.ensures.items at c.add.ensures) refl
    (ap (λ s. (unwrap_or s.holds empty_disk).failing) c.in_ok-slot.ensures ∙ none)
