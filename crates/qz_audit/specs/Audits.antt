-- A school that is served and regraded by clerks, and what their notes account for.
use Rattle.std.specs.Prelude.{◌≡◌, ℕ, ◌+◌, List, length, sum_by, Result, Ok, Err}
use Rattle.qz_gather.specs.declared.note.Note.{Note}
use Rattle.qz_gather.specs.Notes.{AreTrueOf}
use Rattle.qz_gathering.specs.declared.gathering.GatherFault.{GatherFault}
use Rattle.qz_gathering.specs.declared.gathering.GatherFault.TheVariants as fault
use Rattle.qz_gathering.specs.Gathering.{AllCovered, IsFirstGap, all_notes}
use Rattle.qz_school.specs.Solos.{School, lists_in}
use Rattle.qz_stations.specs.declared.ends.ServeEnd.{ServeEnd}
use Rattle.qz_stations.specs.Noting.{AreLong, NotesBeside, NotesWorks}
use Rattle.qz_stations.specs.Passing.{ServesSchool}
use Rattle.qz_stations.specs.Stations.{Serving}
use Rattle.qz_terms.specs.Serial.{Lists}
use Rattle.qz_visit.specs.declared.last.Last.{Last}
use Rattle.qz_visit.specs.Closing.{Closes}
use Rattle.qz_visit.specs.Opening.{told_by}
use Rattle.qz_audit.specs.declared.auditing.AuditEnd.{AuditEnd}

-- how many records all lists have
abbrev pub records_in : Lists → ℕ
records_in a = length a.records.list + sum_by (λ h. length h.list) a.parts

-- What is found of lists that were a and are b: for each new record a note speaks, and there are so many of them; or this is the first place for
-- which none speaks. How long the lists were is told by the base.
abbrev pub Finds : (a b : Lists) → (base : Last) → List Note → Result ℕ GatherFault → Type 0
Finds a b base notes (Ok count) = AllCovered b base notes × (records_in b ≡ records_in a + count)
Finds a b base notes (Err (fault.Gap list place)) = IsFirstGap b base notes list place
Finds a b base notes (Err fault.Memory) = Unit {0}

-- so many are new, or why that isn't told
abbrev pub found_of : Result (List Note) GatherFault → ℕ → Result ℕ GatherFault
found_of (Ok notes) count = Ok count
found_of (Err why) count = Err why

-- how serving ended
abbrev pub serve_end : AuditEnd → ServeEnd
serve_end end = record { doors = end.doors; last = end.last }

-- A school was served so, by clerks: each door by one, whose notes are the book at its place, and each that regraded is one too, whose book stands
-- behind those. When all had left the notes were true of the closed lists, and this was found of them, before the last pass.
pub record Audits {K D C : Type 0} (sound : K → Type 0) (faults : K → ℕ) (serves : Serving D C) (workers regraders : ℕ) (a b : School K) (old new : List (D × C)) (end : AuditEnd) : Type 0 where
  pub served : ServesSchool sound faults serves workers regraders a b old new (serve_end end)
  pub books : List (List Note)
  pub many : length books ≡ workers + regraders
  pub noted : NotesBeside serves (told_by faults a) (λ seen. Closes faults seen served.left) workers old served.after end.doors books
  pub worked : NotesWorks serves.tells (told_by faults a) (λ seen. Closes faults seen served.left) workers regraders books
  pub true_of : AreTrueOf (told_by faults served.left) (all_notes books)
  pub base : Last
  pub long : AreLong (told_by faults a) base
  pub finds : Finds (lists_in a) (lists_in served.left) base (all_notes books) end.gathered
