-- How serving links over the school of a folder ends.
use Rattle.std.proofs.Common.{◌≡◌, ◌⊎◌, inl, inr, ℕ, ◌<◌, Bool, true, false, List, Option, Some, None, Result, Ok, Err, refl, sym, ap, ◌∙◌, subst}
use Rattle.std.proofs.Math.Logic.{∥∥₁_elim}
use Rattle.std.specs.Prelude.{MatchResult}
use mathlib.Core.HLevel.{⊥_prop}
use Rattle.qz_asking.specs.Asking.{Asks}
use Rattle.qz_doors.specs.Doors.{Entrance}
use Rattle.qz_doors.specs.Links.{Peer}
use Rattle.qz_ending.specs.declared.stop.Stop.{Stop}
use Rattle.qz_ending.specs.declared.stop.Stop.TheVariants as stop
use Rattle.qz_ending.specs.Endings.{status_of}
use Rattle.qz_found.specs.FoundEndings.{Shelved, Sunk}
use Rattle.qz_journal.specs.Journals.{Ledger}
use Rattle.qz_opening.specs.Unloaded.{UnloadedBy}
use Rattle.qz_outside.specs.Causes.{HasRisen}
use Rattle.qz_polling.specs.Endings.{At, NonePolled, PollFolderEnds, PolledDoor, PollsAll, SaysOf}
use Rattle.qz_polling.specs.Polling.{ServesLinks, VisitorsServe, served_of}
use Rattle.qz_ready_doors.specs.declared.end.PollWhy.{PollWhy}
use Rattle.qz_ready_doors.specs.declared.end.PollWhy.TheVariants as why
use Rattle.qz_ready_doors.specs.Halls.{Stops}
use Rattle.qz_school.specs.Solos.{School}
use Rattle.qz_script_schools.specs.Folders.{Disks, FolderEnds, ServedFolder, Unserved, journal_faults}
use Rattle.qz_script_schools.proofs.FolderLemmas.{not_raised, unserved_status}
use Rattle.qz_served.specs.declared.saying.Served.{Served}
use Rattle.qz_served.specs.Saying.{SaysServed}
use Rattle.qz_stations.specs.Stations.{GrowsWith}
use Rattle.qz_visit.specs.Closing.{Closes}
use Rattle.qz_visit.specs.Opening.{told_by}
use Rattle.qz_visit.specs.Visits.{Seats, Tellings}

-- what serving came to, and what was said of it
pub polled_so : {D P L C E : Type 0} (disks : Disks D) (tells : C → ℕ → C → Type 0) (peer : L → Peer) (links : ℕ) (clocks : List C) (tell : P → At P L) (door left : P) (before now : Sunk) (a b : School (Ledger D)) (served : Result Served E) (s : Option Stop)
    → Closes (journal_faults disks) (told_by (journal_faults disks) a) b
    → MatchResult served (VisitorsServe tells peer links clocks (tell door).entrance (tell left).entrance (told_by (journal_faults disks) a) (λ seen. Closes (journal_faults disks) seen b) (λ passes. GrowsWith passes a b)) (λ _. left ≡ door)
    → SaysOf before.holds now.holds before.faults now.faults served s
    → PolledDoor disks tells peer links clocks (tell door) (tell left) before now s a b ⊎ NonePolled disks (tell door) (tell left) before now s a b
polled_so disks tells peer links clocks tell door left before now a b (Ok end) s closes so says = inl (record { end = end; closes = closes; served = so; says = says })
polled_so disks tells peer links clocks tell door left before now a b (Err e) s closes so says = inr (record { closes = closes; stays = ap tell so; memory = says.0; unwritten = says.1 })

module _ {D P L C : Type 0} (disks : Disks D) (tells : C → ℕ → C → Type 0) (peer : L → Peer) (links : ℕ) (clocks : List C) (at after : At P L) where
  -- a door is said to have failed only where its count rose
  fault-rises : (w : PollWhy) (old new : Entrance L) (most taken : ℕ) → Stops most old new taken w → Rattle.qz_polling.specs.Polling.is_fault w ≡ true → HasRisen old.faults new.faults
  fault-rises why.Over old new most taken stops is = absurd cc
  fault-rises why.Enough old new most taken stops is = absurd cc
  fault-rises why.DoorFault old new most taken stops is = stops.1
  fault-rises why.Memory old new most taken stops is = absurd cc

  no-fault : {told : Tellings} {Kept : Tellings → Type 0} {Put : List Seats → Type 0} (end : Served) → VisitorsServe tells peer links clocks at.entrance after.entrance told Kept Put end → ¬ HasRisen at.entrance.faults after.entrance.faults → end.fault ≡ true → ⊥
  no-fault end so quiet failed = ∥∥₁_elim so.serves ⊥_prop (λ x. quiet (fault-rises so.w at.entrance after.entrance links so.taken x.stops (sym (ap (λ (e : Served). e.fault) so.end_is) ∙ failed)))

  says-status : (old new : Option (List ℕ)) (before now : ℕ) (end : Served) (s : Option Stop) → SaysServed old new before now end s → ¬ HasRisen before now → (end.fault ≡ true → ⊥) → (status_of s ≡ 0) ⊎ (status_of s ≡ 8)
  says-status old new before now end None says sink quiet = inl refl
  says-status old new before now end (Some stop.BadWords) says sink quiet = absurd says
  says-status old new before now end (Some (stop.Malformed line)) says sink quiet = absurd says
  says-status old new before now end (Some (stop.Unreadable line rule)) says sink quiet = absurd says
  says-status old new before now end (Some stop.SourceFault) says sink quiet = absurd says
  says-status old new before now end (Some stop.SinkFault) says sink quiet = absurd (sink says.1)
  says-status old new before now end (Some stop.Memory) says sink quiet = inr refl
  says-status old new before now end (Some stop.TooLong) says sink quiet = absurd says
  says-status old new before now end (Some stop.ShelfFault) says sink quiet = absurd says
  says-status old new before now end (Some stop.Refused) says sink quiet = absurd says
  says-status old new before now end (Some stop.DoorFault) says sink quiet = absurd (quiet says.1)
  says-status old new before now end (Some stop.Gap) says sink quiet = absurd says

  polled-status : (before now : Sunk) (s : Option Stop) (a b : School (Ledger D)) → PolledDoor disks tells peer links clocks at after before now s a b ⊎ NonePolled disks at after before now s a b
      → ¬ HasRisen before.faults now.faults → ¬ HasRisen at.entrance.faults after.entrance.faults → (status_of s ≡ 0) ⊎ (status_of s ≡ 8)
  polled-status before now s a b (inl some) sink quiet = says-status before.holds now.holds before.faults now.faults some.end s some.says sink (no-fault some.end some.served quiet)
  polled-status before now s a b (inr none) sink quiet = inr (ap status_of none.memory)

  pub polls_all : (folder : List ℕ) (old new : Shelved) (before now : Sunk) (s : Option Stop) → PollFolderEnds disks folder tells peer links clocks at after old new before now s → PollsAll at after old new before now (status_of s)
  polls_all folder old new before now s e = record { done = λ sink shelf quiet. by sink shelf quiet e.by }
    where
      by : ¬ HasRisen before.faults now.faults → ¬ HasRisen old.faults new.faults → ¬ HasRisen at.entrance.faults after.entrance.faults
          → ServedFolder disks folder (λ a b. PolledDoor disks tells peer links clocks at after before now s a b ⊎ NonePolled disks at after before now s a b) old new ⊎ Unserved disks folder (after ≡ at) old new before now s
          → (status_of s ≡ 0) ⊎ ((status_of s ≡ 7) ⊎ (status_of s ≡ 8))
      by sink shelf quiet (inl done) =
          elim (polled-status before now s done.loaded done.closed done.served sink quiet) [
            | inl all ↦ inl all
            | inr wanting ↦ inr (inr wanting)
          ]
      by sink shelf quiet (inr not) = inr (unserved_status disks folder (after ≡ at) old new before now s not sink shelf)

pub unpolled_all : {P L : Type 0} (at after : At P L) (folder : List ℕ) (old new : Shelved) (before now : Sunk) (s : Stop) → UnloadedBy folder old new before now s → PollsAll at after old new before now (status_of (Some s))
unpolled_all at after folder old new before now s u = record { done = λ sink shelf quiet. inr (not_raised folder old new before now s u sink shelf) }
