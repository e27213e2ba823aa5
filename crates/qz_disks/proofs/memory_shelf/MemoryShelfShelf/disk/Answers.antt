use Rattle.std.proofs.Common.{length, None, rules, refl, sym, ◌∙◌, ap}
use Rattle.std.proofs.lemmas.List.{with_items_is}
use Rattle.qz_disks.specs.Shelves.{place}
use Rattle.qz_disks.proofs.SlotLemmas.{put_sound}
use Rattle.qz_disks.proofs.memory_shelf.MemoryShelfShelf.disk.Goals as goal

pub returns-in_err-begin-2-clause-fails : goal.returns-in_err-begin-2-clause-fails
returns-in_err-begin-2-clause-fails c = λ failed. rw (← c.self.view_is) (c.in_err-begin-2.ensures.listed.0 refl)

pub returns-then-has-clause-stays_sound : goal.returns-then-has-clause-stays_sound
returns-then-has-clause-stays_sound c =
    let now = with_items_is c.self.inside.slots c.replace.new.slots (c.replace.auto.slots ∙ ap length c.deref_mut.ensures.value ∙ sym c.self.inside.slots.ok.0) in
    record {
      works = λ was failed. search rules;
      steady = λ was. rw (← c.self.view_is) (ap (λ k. k.faults) c.in_ok-begin.ensures.ok);
      still = λ was. put_sound (place c.args.folder.now c.args.name.now) None _ _ (rw (← c.self.view_is) at was) (rw now (rw c.deref_mut.ensures.value at c.replace.ensures.puts)) (ap (λ k. k.failing) c.in_ok-begin.ensures.ok) refl;
    }
