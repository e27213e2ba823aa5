use Rattle.std.proofs.Common.{length, Some, refl, sym, ◌∙◌, ap, arith}
use Rattle.std.proofs.lemmas.List.{with_items_is}
use Rattle.qz_disks.specs.Shelves.{place}
use Rattle.qz_disks.proofs.SlotLemmas.{put_sound}
use Rattle.qz_disks.proofs.memory_shelf.MemoryShelfShelf.back.Goals as goal

pub returns-clause-stays_sound : goal.returns-clause-stays_sound
returns-clause-stays_sound c = λ none zero.
    let now = with_items_is c.self.inside.slots c.replace.new.slots (c.replace.auto.slots ∙ ap length c.deref_mut.ensures.value ∙ sym c.self.inside.slots.ok.0) in
    record {
      works = λ was never. never;
      steady = λ was. rw (← c.self.view_is) (omega arith);
      still = λ was. put_sound (place c.args.folder.now c.args.name.now) (Some c.args.disk) _ _ (rw (← c.self.view_is) at was) (rw now (rw c.deref_mut.ensures.value at c.replace.ensures.puts)) refl none;
    }
