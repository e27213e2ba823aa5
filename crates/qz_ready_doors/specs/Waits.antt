-- What a run waits for.
use Rattle.std.specs.Prelude.{◌≡◌, ℕ, ⊤, true, List, slice_get, slice_set, Some}
use Rattle.futures.specs.Task.{Hears}
use Rattle.futures.specs.Task.EventLoop.Names.{key_source}
use Rattle.futures.specs.declared.task.context.Context.{Context}
use Rattle.qz_ready_doors.specs.declared.slot.Slot.{Slot}
use Rattle.qz_ready_doors.specs.declared.slot.Slot.TheVariants as slot
use Rattle.qz_ready_doors.specs.declared.slot.Taken.{Taken}
use Rattle.qz_ready_doors.specs.Slots.{is_free}

-- a poll waits for the link of a desk, if it has one
abbrev pub IsHeard : {D L C : Type 0} → Context → Slot D L C → Type 0
IsHeard cx (slot.Free desk clock) = ⊤
IsHeard cx (slot.Open taken) = Hears cx (key_source taken.task.key)

-- a source is that of a link which is open
pub record IsAwaited {D L C : Type 0} (slots : List (Slot D L C)) (source : ℕ) : Type 0 where
  pub at : ℕ
  pub taken : Taken D L C
  pub there : slice_get slots at ≡ Some (slot.Open taken)
  pub its : source ≡ key_source taken.task.key

-- one desk changed, and a poll waits for its link, if it has one
pub record SetsHeard {D L C : Type 0} (cx : Context) (old new : List (Slot D L C)) (at : ℕ) : Type 0 where
  pub slot : Slot D L C
  pub sets : new ≡ slice_set old at slot
  pub heard : IsHeard cx slot

-- one desk changed, and is free
pub record SetsFree {D L C : Type 0} (old new : List (Slot D L C)) (at : ℕ) : Type 0 where
  pub slot : Slot D L C
  pub sets : new ≡ slice_set old at slot
  pub free : is_free slot ≡ true
