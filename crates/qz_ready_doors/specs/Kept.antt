-- What is known at any time of a door and the desks before it.
use Rattle.std.specs.Prelude.{◌≡◌, ℕ, ◌+◌, ◌<◌, ◌≤◌, ⊤, [], map, Option, Some, None, IfSome}
use Rattle.std.specs.List.{All, sum_by}
use Rattle.qz_outside.specs.Causes.{HasRisen}
use Rattle.qz_terms.specs.declared.ask.Ask.{Ask}
use Rattle.qz_terms.specs.declared.reply.Reply.{Reply}
use Rattle.qz_asking.specs.Asking.{Answerer}
use Rattle.qz_links.specs.Doors.{GivesBack, TakesLink}
use Rattle.qz_doors.specs.Doors.{Entrance}
use Rattle.qz_doors.specs.Links.{Peer}
use Rattle.qz_ready.specs.declared.ready_link.ReadyLink.{Ghosts}
use Rattle.qz_poll.specs.Outsides.{outside_of}
use Rattle.qz_ready_doors.specs.declared.desks.Desks.{Desks}
use Rattle.qz_ready_doors.specs.declared.desks.Shut.{Shut}
use Rattle.qz_ready_doors.specs.declared.desks.Shut.TheVariants as shut
use Rattle.qz_ready_doors.specs.declared.end.PollWhy.{PollWhy}
use Rattle.qz_ready_doors.specs.declared.end.PollWhy.TheVariants as why
use Rattle.qz_ready_doors.specs.declared.slot.Slot.{Slot}
use Rattle.qz_ready_doors.specs.declared.slot.Slot.TheVariants as slot
use Rattle.qz_ready_doors.specs.Halls.{Hall, Happens}
use Rattle.qz_ready_doors.specs.Slots.{IsSlot, open_in, place_of}

abbrev pub peer_of : {L : Type 0} → Ghosts L → L → Peer
peer_of g link = (outside_of g link).peer

-- why the door isn't tried any more
abbrev pub IsShut : {L : Type 0} → Entrance L → Entrance L → Option Shut → Type 0
IsShut old now None = ⊤
IsShut old now (Some shut.Over) = IfSome now.left (λ left. left ≡ [])
IsShut old now (Some shut.Fault) = HasRisen old.faults now.faults

pub record IsKept {D L C K : Type 0} (asks : Answerer D C → Answerer D C → Ask → Reply → Type 0) (g : Ghosts L) (start : Hall L (Answerer D C)) (now : Entrance L) (desks : Desks D L C K) : Type 0 where
  pub happens : Happens asks (peer_of g) start (record { entrance = now; places = map place_of desks.slots.items }) desks.taken desks.short
  pub slots : All (IsSlot asks g) desks.slots.items
  pub within : desks.taken ≤ desks.most
  -- each link that was taken is open, or was given back
  pub few : desks.short + sum_by open_in desks.slots.items ≤ desks.taken
  pub out : now.out ≡ start.entrance.out + sum_by open_in desks.slots.items
  pub returns : now.returns + sum_by open_in desks.slots.items ≡ start.entrance.returns + desks.taken
  pub shut : IsShut start.entrance now desks.shut
  pub later : start.entrance.faults ≤ now.faults

abbrev pub free_slot : {D L C : Type 0} → D × C → Slot D L C
free_slot pair = slot.Free pair.0 pair.1

-- a link was taken from a door
pub record Takes {L : Type 0} (old new : Entrance L) (link : L) : Type 0 where
  pub next : TakesLink old.left new.left old.out new.out link
  pub returned : new.returned ≡ old.returned
  pub returns : new.returns ≡ old.returns
  pub later : old.faults ≤ new.faults

-- a link was given back to it
pub record Gives {L : Type 0} (old new : Entrance L) (link : L) : Type 0 where
  pub left : new.left ≡ old.left
  pub returned : GivesBack old.returned new.returned link
  pub returns : new.returns ≡ old.returns + 1
  pub out : old.out ≡ new.out + 1
  pub faults : new.faults ≡ old.faults

-- no link was taken: none was asked for, or memory was wanting
abbrev pub EndsAtOnce : ℕ → PollWhy → Type 0
EndsAtOnce most why.Over = ⊥
EndsAtOnce most why.Enough = 0 ≡ most
EndsAtOnce most why.DoorFault = ⊥
EndsAtOnce most why.Memory = 0 < most
