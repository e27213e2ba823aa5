-- Stations that are taken up, served and left.
use Rattle.std.specs.Prelude.{◌≡◌, ◌⊎◌, ℕ, ◌+◌, ◌^◌, ◌<◌, ◌≤◌, Bool, List, ◌++◌, length, map, slice_get, Option, Some, Contains}
use Rattle.qz_asking.specs.Asking.{Answerer}
use Rattle.qz_doors.specs.declared.door.DoorEnd.{DoorEnd}
use Rattle.qz_gather.specs.Clerks.{Answers}
use Rattle.qz_gather.specs.Notes.{AreTrueOf}
use Rattle.qz_regrading.specs.declared.ends.LoopEnd.{LoopEnd}
use Rattle.qz_regrading.specs.Loops.{HasRisenBy, Regrades}
use Rattle.qz_stations.specs.Noting.{NotesOn, clerk_sees, none_yet}
use Rattle.qz_stations.specs.Stations.{AreUnturned, AsksWith, Post, Serving, ServesBeside, at_place, fault_replies, faults_told, lists_seen, no_end, notes_at, put_at, put_with}
use Rattle.qz_turn.specs.Rule.{HasEvery}
use Rattle.qz_visit.specs.Holding.{GoesOn, Holds}
use Rattle.qz_visit.specs.Seeing.{FollowAll}
use Rattle.qz_visit.specs.Visits.{Locks, Seats, Tellings, seen_in}

-- ---- numbers

-- they are of this school, and each has the numbers of the catalogue's
abbrev pub HoldTheirs : Locks → Seats → Type 0
HoldTheirs s p = Holds s p.records.numbers p

-- each of the first numbers is among the second
pub record AreAmong (some all : List ℕ) : Type 0 where
  pub each : (n : ℕ) → Contains some n → Contains all n

-- the passes of one of these stations have this number
pub record IsHeldBy {P : Type 0} (stations : List (Post P)) (n : ℕ) : Type 0 where
  pub place : ℕ
  pub post : Post P
  pub there : slice_get stations place ≡ Some post
  pub number : Contains post.visit.passes.records.numbers n

-- each of these numbers was dealt to a station, or is left
pub record AreDealt {P : Type 0} (numbers left : List ℕ) (stations : List (Post P)) : Type 0 where
  pub each : (n : ℕ) → Contains numbers n → Contains left n ⊎ IsHeldBy stations n

-- these passes have every number of the school's seats
pub record HoldsEvery (s : Locks) (passes : Seats) : Type 0 where
  pub own : HoldTheirs s passes
  pub every : HasEvery s.records.seats passes.records.numbers

-- ---- taking up

-- its passes have seen this, and nobody was served there yet
pub record IsTakenUp {P : Type 0} (s : Locks) (told : Tellings) (p : Post P) : Type 0 where
  pub holds : HoldTheirs s p.visit.passes
  pub seen : seen_in p.visit.passes ≡ told
  pub fresh : p.end ≡ no_end

-- Stations stand at the first of these places, each with passes of its own, of those that had these numbers. The others are left.
pub record TakesUp {P : Type 0} (s : Locks) (told : Tellings) (numbers : List ℕ) (old new : List P) (passes : Seats) (stations : List (Post P)) : Type 0 where
  pub places : old ≡ map at_place stations ++ new
  pub taken : (k : ℕ) (p : Post P) → slice_get stations k ≡ Some p → IsTakenUp s told p
  pub own : HoldTheirs s passes
  pub seen : seen_in passes ≡ told
  pub count : length passes.records.numbers + length stations ≡ length numbers
  pub dealt : AreDealt numbers passes.records.numbers stations

-- nothing was noted at these yet
pub record AreUnnoted {P : Type 0} (noting : Bool) (stations : List (Post P)) : Type 0 where
  pub each : (k : ℕ) (p : Post P) → slice_get stations k ≡ Some p → p.notes ≡ none_yet noting

-- no turn was taken with these passes, nor with those of these stations
pub record NoneTurned {P : Type 0} (passes : Seats) (stations : List (Post P)) : Type 0 where
  pub own : AreUnturned passes
  pub each : (k : ℕ) (p : Post P) → slice_get stations k ≡ Some p → AreUnturned p.visit.passes

-- ---- leaving

abbrev pub passes_of : {P : Type 0} → Post P → Seats
passes_of p = p.visit.passes

-- To what the turns of some passes put came what those of these others put.
pub record PutsAlso (before after : Seats) (others : List Seats) : Type 0 where
  pub at : (list : Option ℕ) → put_at list after ≡ put_at list before + put_with list others

-- the notes at each are true of what its passes have seen
pub record NoteTruly {P : Type 0} (stations : List (Post P)) : Type 0 where
  pub each : (k : ℕ) (p : Post P) → slice_get stations k ≡ Some p → AreTrueOf (seen_in p.visit.passes) (notes_at p)

-- A number of links that has 32 bits was taken, and no more were short than were taken.
pub record IsCounted (e : DoorEnd) : Type 0 where
  pub taken : e.taken < 2 ^ 32
  pub short : e.short ≤ e.taken

-- it may be left
pub record IsManned {P : Type 0} (s : Locks) (p : Post P) : Type 0 where
  pub holds : HoldTheirs s p.visit.passes
  pub counted : IsCounted p.end

-- each of these stations may be, with its passes joined to these
pub record AreManned {P : Type 0} (s : Locks) (passes : Seats) (stations : List (Post P)) : Type 0 where
  pub manned : (k : ℕ) (p : Post P) → slice_get stations k ≡ Some p → IsManned s p
  pub few : length stations < 2 ^ 32
  pub own : HoldTheirs s passes

-- Passes that took in those of stations: they have the numbers of all, and see what each has seen.
pub record TakesIn {P : Type 0} (s : Locks) (old new : Seats) (stations : List (Post P)) : Type 0 where
  pub own : HoldTheirs s new
  pub kept : AreAmong old.records.numbers new.records.numbers
  pub given : (n : ℕ) → IsHeldBy stations n → Contains new.records.numbers n
  pub follows : FollowAll (seen_in old) (seen_in new)
  pub each : (k : ℕ) (p : Post P) → slice_get stations k ≡ Some p → FollowAll (seen_in p.visit.passes) (seen_in new)

-- the first so many doors were served with passes of those before, which take in what was put there
pub record ServesFirst {D C : Type 0} (serves : Serving D C) (before after : Seats) (count : ℕ) (old new : List (D × C)) (end : DoorEnd) : Type 0 where
  pub beside : ServesBeside serves (seen_in before) (λ seen. FollowAll seen (seen_in after)) count old new end
  pub put : PutsAlso before after beside.lasts

-- ---- in between

-- what serving a door did
pub record IsServed {D C : Type 0} (serves : Serving D C) (old new : Post (D × C)) : Type 0 where
  pub going : serves.serves old.place.0 new.place.0 (record { desk = old.visit.passes; clock = old.place.1 }) (record { desk = new.visit.passes; clock = new.place.1 }) new.end
  pub as_often : HasRisenBy (faults_told (seen_in old.visit.passes)) (fault_replies (serves.replies going)) (faults_told (seen_in new.visit.passes))
  pub goes_on : GoesOn old.visit new.visit
  pub notes : NotesOn (λ a b. serves.notes old.place.0 new.place.0 (record { desk = a; clock = old.place.1 }) (record { desk = b; clock = new.place.1 }) new.end) old.visit new.visit old.notes new.notes

-- one who regrades stays, or asked the school
pub record HasGoneOn {C : Type 0} (old new : Post C) : Type 0 where
  pub goes_on : GoesOn old.visit new.visit
  pub end : new.end ≡ old.end

-- the passes of one who regrades, and the clock
abbrev pub regrading_at : {C : Type 0} → Post C → Answerer Seats C
regrading_at p = record { desk = p.visit.passes; clock = p.place }

-- what regrading did: passes of a worker, and nothing else
pub record HasRegraded {C : Type 0} (tells : C → ℕ → C → Type 0) (old new : Post C) : Type 0 where
  pub gone_on : HasGoneOn old new
  pub loop : LoopEnd
  pub regrades : Regrades tells AsksWith lists_seen (regrading_at old) (regrading_at new) loop
  pub notes : NotesOn (λ a b. Regrades tells Answers clerk_sees (record { desk = a; clock = old.place }) (record { desk = b; clock = new.place }) loop) old.visit new.visit old.notes new.notes

-- this was done at each
pub record AreEach {P : Type 0} (Does : Post P → Post P → Type 0) (old new : List (Post P)) : Type 0 where
  pub count : length new ≡ length old
  pub each : (k : ℕ) (p q : Post P) → slice_get old k ≡ Some p → slice_get new k ≡ Some q → Does p q
