-- Clerks at the doors of a school, side by side: what each noted, from the first request on.
use Rattle.std.specs.Prelude.{◌≡◌, ℕ, ◌+◌, ◌<◌, Bool, true, false, List, [], ◌++◌, length, slice_get, Option, None, Some}
use Rattle.qz_doors.specs.declared.door.DoorEnd.{DoorEnd}
use Rattle.qz_gather.specs.declared.note.Note.{Note}
use Rattle.qz_gather.specs.Clerks.{Answers, Clerk}
use Rattle.qz_gather.specs.Notes.{AreTrueOf}
use Rattle.qz_regrading.specs.declared.ends.LoopEnd.{LoopEnd}
use Rattle.qz_regrading.specs.Loops.{Regrades}
use Rattle.qz_stations.specs.Stations.{RegradesBeside, ServesBeside, Serving, all_ends, put_at, put_with}
use Rattle.qz_school.specs.Solos.{School}
use Rattle.qz_terms.specs.Serial.{Lists}
use Rattle.qz_visit.specs.Closing.{ArePasses, HasFounding, HaveEvery}
use Rattle.qz_visit.specs.declared.last.Last.{Last}
use Rattle.qz_visit.specs.Opening.{StartAt, told_by}
use Rattle.qz_visit.specs.Seeing.{FollowAll}
use Rattle.qz_visit.specs.Visits.{AreCounted, Locks, Seats, Tellings, Visitor, lists_told, seen_in}

-- ---- a seat

-- of one who notes nothing was noted yet, of others nothing ever is
abbrev pub none_yet : Bool → Option (List Note)
none_yet true = Some []
none_yet false = None

abbrev pub clerk_of : Visitor → List Note → Clerk
clerk_of v notes = record { visit = v; notes = notes }

-- One who notes did this, as a clerk, and goes on to note. One who doesn't has no notes afterwards.
pub data NotesOn (Does : Clerk → Clerk → Type 0) (a b : Visitor) : (before after : Option (List Note)) → Type 0 where
  quiet : NotesOn Does a b None None
  noting : (ns ms : List Note) → Does (clerk_of a ns) (clerk_of b ms) → NotesOn Does a b (Some ns) (Some ms)

-- the lists that a clerk sees
abbrev pub clerk_sees : Clerk → Lists
clerk_sees c = lists_told (seen_in c.visit.passes)

-- ---- a clerk's book

-- The clerk at the door of this place served it, from no notes on, and these are its notes. It saw this much of the lists before, and of what it
-- saw afterwards this holds.
pub record NotesAt {D C : Type 0} (serves : Serving D C) (told : Tellings) (Kept : Tellings → Type 0) (old new : List (D × C)) (k : ℕ) (end : DoorEnd) (notes : List Note) : Type 0 where
  pub door : D
  pub served : D
  pub clock : C
  pub ticked : C
  pub first : Visitor
  pub last : Visitor
  pub told_is : seen_in first.passes ≡ told
  pub before : slice_get old k ≡ Some (door, clock)
  pub after : slice_get new k ≡ Some (served, ticked)
  pub going : serves.notes door served (record { desk = clerk_of first []; clock = clock }) (record { desk = clerk_of last notes; clock = ticked }) end
  pub kept : Kept (seen_in last.passes)

-- Clerks served the first so many doors side by side, which ended so in all: the notes of each are the book at its place.
pub record NotesBeside {D C : Type 0} (serves : Serving D C) (told : Tellings) (Kept : Tellings → Type 0) (count : ℕ) (old new : List (D × C)) (end : DoorEnd) (books : List (List Note)) : Type 0 where
  pub ends : List DoorEnd
  pub count_is : length ends ≡ count
  pub end_is : end ≡ all_ends ends
  pub each : (k : ℕ) (e : DoorEnd) (notes : List Note) → slice_get ends k ≡ Some e → slice_get books k ≡ Some notes → NotesAt serves told Kept old new k e notes

-- A clerk regraded, by a clock, from no notes on, and these are its notes.
pub record NotesWork {C : Type 0} (tells : C → ℕ → C → Type 0) (told : Tellings) (Kept : Tellings → Type 0) (notes : List Note) : Type 0 where
  pub clock : C
  pub ticked : C
  pub first : Visitor
  pub last : Visitor
  pub told_is : seen_in first.passes ≡ told
  pub end : LoopEnd
  pub going : Regrades tells Answers clerk_sees (record { desk = clerk_of first []; clock = clock }) (record { desk = clerk_of last notes; clock = ticked }) end
  pub kept : Kept (seen_in last.passes)

-- so many did: the notes of each are a book, behind those of so many that stand before them
pub record NotesWorks {C : Type 0} (tells : C → ℕ → C → Type 0) (told : Tellings) (Kept : Tellings → Type 0) (workers count : ℕ) (books : List (List Note)) : Type 0 where
  pub each : (k : ℕ) (notes : List Note) → k < count → slice_get books (workers + k) ≡ Some notes → NotesWork tells told Kept notes

-- each note of these books is true of what was seen
pub record AreBooksOf (t : Tellings) (books : List (List Note)) : Type 0 where
  pub each : (k : ℕ) (notes : List Note) → slice_get books k ≡ Some notes → AreTrueOf t notes

-- ---- a school that all have left

-- so long were the lists, as these tell
pub record AreLong (t : Tellings) (base : Last) : Type 0 where
  pub catalog : base.catalog ≡ length t.records.list
  pub parts : AreCounted t.parts base.parts

-- each lock of this school was made over a list as long as that of the other one
pub record StartsFrom {K : Type 0} (s : Locks) (a : School K) : Type 0 where
  pub records : s.records.start ≡ length a.catalog.held.list
  pub count : length s.parts ≡ length a.parts
  pub parts : StartAt s.parts a.parts

-- what the turns of these passes put is what those of all of these put
pub record PutsAll (passes : Seats) (all : List Seats) : Type 0 where
  pub at : (list : Option ℕ) → put_at list passes ≡ put_with list all

-- Clerks served the first so many doors of a school side by side, while so many others regraded. All have left it, and their passes, joined, may
-- close it, and have all of their turns. Their books stand in order, those of the doors first.
pub record ServesNoting {K D C : Type 0} (faults : K → ℕ) (serves : Serving D C) (workers regraders : ℕ) (a : School K) (school : Locks) (passes : Seats) (base : Last) (old new : List (D × C)) (end : DoorEnd) (books : List (List Note)) : Type 0 where
  pub own : ArePasses school passes
  pub every : HaveEvery school passes
  pub founded : HasFounding school passes
  pub follows : FollowAll (told_by faults a) (seen_in passes)
  pub long : AreLong (told_by faults a) base
  pub beside : ServesBeside serves (told_by faults a) (λ seen. FollowAll seen (seen_in passes)) workers old new end
  pub regraded : RegradesBeside serves.tells (told_by faults a) (λ seen. FollowAll seen (seen_in passes)) regraders
  pub starts : StartsFrom school a
  pub puts : PutsAll passes (beside.lasts ++ regraded.lasts)
  pub many : length books ≡ workers + regraders
  pub noted : NotesBeside serves (told_by faults a) (λ seen. FollowAll seen (seen_in passes)) workers old new end books
  pub worked : NotesWorks serves.tells (told_by faults a) (λ seen. FollowAll seen (seen_in passes)) workers regraders books
  pub true_of : AreBooksOf (seen_in passes) books
