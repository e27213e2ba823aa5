-- What a desk at a door does.
use Rattle.std.specs.Prelude.{◌≡◌, ℕ, ◌<◌, ⊤, Bool, true, false, Option, Some, None, vec_len}
use Rattle.qz_terms.specs.declared.ask.Ask.{Ask}
use Rattle.qz_terms.specs.declared.reply.Reply.{Reply}
use Rattle.qz_asking.specs.Asking.{Answerer}
use Rattle.qz_doors.specs.Links.{LinkEnds}
use Rattle.qz_ready.specs.declared.ready_link.ReadyLink.{Ghosts}
use Rattle.qz_poll.specs.declared.serving.Serving.{Serving}
use Rattle.qz_poll.specs.Outsides.{outside_of}
use Rattle.qz_poll.specs.Stages.{IsUnderWay, stage_of}
use Rattle.qz_ready_doors.specs.declared.slot.Ended.{Ended}
use Rattle.qz_ready_doors.specs.declared.slot.Slot.{Slot}
use Rattle.qz_ready_doors.specs.declared.slot.Slot.TheVariants as slot
use Rattle.qz_ready_doors.specs.Halls.{Place, busy, free}

abbrev pub is_free : {D L C : Type 0} → Slot D L C → Bool
is_free (slot.Free desk clock) = true
is_free (slot.Open taken) = false

abbrev pub open_in : {D L C : Type 0} → Slot D L C → ℕ
open_in (slot.Free desk clock) = 0
open_in (slot.Open taken) = 1

abbrev pub place_of : {D L C : Type 0} → Slot D L C → Place L (Answerer D C)
place_of (slot.Free desk clock) = free (record { desk = desk; clock = clock })
place_of (slot.Open taken) = busy taken.link.value (record { desk = taken.desk.value; clock = taken.clock.value })

module _ {D L C : Type 0} (asks : Answerer D C → Answerer D C → Ask → Reply → Type 0) (g : Ghosts L) where
  -- a link is under way since it was taken
  pub record IsServed (link : L) (a : Answerer D C) (s : Serving D L C) : Type 0 where
    pub room : 0 < vec_len s.room
    pub under_way : IsUnderWay asks (outside_of g link).peer a (stage_of g s)

  abbrev pub HasLink : L → Answerer D C → Option (Serving D L C) → Type 0
  HasLink link a None = ⊥
  HasLink link a (Some s) = IsServed link a s

  abbrev pub IsSlot : Slot D L C → Type 0
  IsSlot (slot.Free desk clock) = ⊤
  IsSlot (slot.Open taken) = HasLink taken.link.value (record { desk = taken.desk.value; clock = taken.clock.value }) taken.task.serving

  -- a link was taken to a desk that was free
  pub record Opens (old new : Slot D L C) (link : L) : Type 0 where
    pub a : Answerer D C
    pub was : place_of old ≡ free a
    pub now : place_of new ≡ busy link a
    pub stands : IsSlot new

  -- memory was wanting for it
  pub record Declines (old new : Slot D L C) (link : L) (ended : Ended L) : Type 0 where
    pub a : Answerer D C
    pub b : Answerer D C
    pub was : place_of old ≡ free a
    pub now : place_of new ≡ free b
    pub ends : LinkEnds asks (outside_of g link).peer (outside_of g ended.link).peer a b ended.why

  -- the desk has the same link, if it had one
  pub record Stays (old new : Slot D L C) : Type 0 where
    pub same : place_of new ≡ place_of old
    pub stands : IsSlot new

  -- its link has ended
  pub record Frees (old new : Slot D L C) (ended : Ended L) : Type 0 where
    pub link : L
    pub a : Answerer D C
    pub b : Answerer D C
    pub was : place_of old ≡ busy link a
    pub now : place_of new ≡ free b
    pub ends : LinkEnds asks (outside_of g link).peer (outside_of g ended.link).peer a b ended.why
