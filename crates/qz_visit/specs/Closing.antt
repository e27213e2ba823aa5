-- Passes that are joined, and a school that is closed.
use Rattle.std.specs.Prelude.{◌≡◌, ℕ, ◌+◌, List, [], ◌∷◌, ◌++◌, length, reverse, slice_get, Some}
use Rattle.qz_catalog_turns.specs.Turning.{tale_of}
use Rattle.qz_keeper.specs.Lists.{EachMayStand}
use Rattle.qz_shard.specs.Keeping as part
use Rattle.qz_shard_turns.specs.Tying.{Placed}
use Rattle.qz_school.specs.Solos.{School}
use Rattle.qz_terms.specs.declared.record.Record.{Record}
use Rattle.qz_terms.specs.Catalog.{shards}
use Rattle.qz_terms.specs.Legal.{AllAgree}
use Rattle.qz_turn.specs.declared.view.Tale.{Tale}
use Rattle.qz_turn.specs.Passes.{Lock, Standing}
use Rattle.qz_turn.specs.Rule.{HasEvery}
use Rattle.qz_turn.specs.Tales.{Follows, put_in}
use Rattle.qz_turn.specs.Turns.{Joins, Locked}
use Rattle.qz_visit.specs.Visits.{IsPlaced, Locks, Seats, Tellings}
use Rattle.qz_visit.specs.Ways.{Part, Seen}

-- ---- passes of a school

-- a pass of each of these locks
pub record AreLocked (locks : List (Locked Placed)) (passes : List Part) : Type 0 where
  pub count : length passes ≡ length locks
  pub own : (k : ℕ) (l : Locked Placed) (p : Part) → slice_get locks k ≡ Some l → slice_get passes k ≡ Some p → p.lock ≡ l.lock

-- passes of this school, with numbers or without
pub record ArePasses (s : Locks) (p : Seats) : Type 0 where
  pub records : p.records.lock ≡ s.records.lock
  pub parts : AreLocked s.parts p.parts

-- each of these was joined into the one at its place
pub record AllJoin (before others after : List Part) : Type 0 where
  pub count : length after ≡ length before
  pub each : (k : ℕ) (p o q : Part) → slice_get before k ≡ Some p → slice_get others k ≡ Some o → slice_get after k ≡ Some q → Joins p o q

pub record JoinsAll (before other after : Seats) : Type 0 where
  pub records : Joins before.records other.records after.records
  pub parts : AllJoin before.parts other.parts after.parts

-- every number that each of these locks dealt
pub record HaveEach (locks : List (Locked Placed)) (passes : List Part) : Type 0 where
  pub each : (k : ℕ) (l : Locked Placed) (p : Part) → slice_get locks k ≡ Some l → slice_get passes k ≡ Some p → HasEvery l.seats p.numbers

pub record HaveEvery (s : Locks) (p : Seats) : Type 0 where
  pub records : HasEvery s.records.seats p.records.numbers
  pub parts : HaveEach s.parts p.parts

-- the catalogue's pass has seen how many shards it was founded with: as many as there are
pub record HasFounding (s : Locks) (p : Seats) : Type 0 where
  pub founded : shards p.records.seen.list ≡ Some (length s.parts)

-- a pass has seen at least what it had seen, and has all numbers that it had
pub record KeepsAll (old new : Seen) : Type 0 where
  pub begins : Follows old.seen new.seen
  pub every : (n : ℕ) → HasEvery n old.numbers → HasEvery n new.numbers
  pub lock : new.lock ≡ old.lock

-- ---- what stood behind the locks

-- The shard at this index, of so many: its list goes on from what was told of it, and each of its lists that may stand agrees with this catalogue.
pub record IsClosed {K : Type 0} (faults : K → ℕ) (c : List Record) (count k : ℕ) (told : Tale Record) (s : part.Keeping K) : Type 0 where
  pub index_is : s.index ≡ k
  pub count_is : s.count ≡ count
  pub follows : Follows told (tale_of s.held (faults s.keeper))
  pub agree : EachMayStand (AllAgree c) s.held

-- those from this index on
pub data AreClosed {K : Type 0} (faults : K → ℕ) (c : List Record) (count : ℕ) : ℕ → List (Tale Record) → List (part.Keeping K) → Type 0 where
  none : (k : ℕ) → AreClosed faults c count k [] []
  more : (k : ℕ) (t : Tale Record) (s : part.Keeping K) (ts : List (Tale Record)) (ss : List (part.Keeping K)) → IsClosed faults c count k t s → AreClosed faults c count (k + 1) ts ss → AreClosed faults c count k (t ∷ ts) (s ∷ ss)

-- the first locks of a school's shards, of so many, in order, tied to the catalogue's
pub record ArePlaced (records : Lock (Unit {0})) (count : ℕ) (locks : List (Locked Placed)) : Type 0 where
  pub each : (k : ℕ) (l : Locked Placed) → slice_get locks k ≡ Some l → IsPlaced records count k l.lock

-- All shards in order: those that stood behind locks, and then the others, which were there with the last one first.
pub record ClosesBefore {K : Type 0} (faults : K → ℕ) (c : List Record) (told : List (Tale Record)) (others all : List (part.Keeping K)) : Type 0 where
  pub front : List (part.Keeping K)
  pub all_is : all ≡ front ++ reverse others
  pub closed : AreClosed faults c (length told + length others) 0 told front

-- The school that is given back: each of its lists goes on from what was told of it.
pub record Closes {K : Type 0} (faults : K → ℕ) (told : Tellings) (a : School K) : Type 0 where
  pub records : Follows told.records (tale_of a.catalog.held (faults a.catalog.keeper))
  pub parts : AreClosed faults a.catalog.held.list (length a.parts) 0 told.parts a.parts

-- ---- by how much the lists have grown

-- The list behind a lock has as many records as when the lock was made, and as the turns of this pass put.
abbrev pub HasGrown : {K : Type 0} → Locked K → Standing Record K → List Record → Type 0
HasGrown l p h = length h ≡ l.start + put_in p.turns

-- each of these shards, behind the lock at its place, by the turns of the pass there
pub record HaveGrown {K : Type 0} (locks : List (Locked Placed)) (passes : List Part) (shards : List (part.Keeping K)) : Type 0 where
  pub each : (k : ℕ) (l : Locked Placed) (p : Part) (s : part.Keeping K) → slice_get locks k ≡ Some l → slice_get passes k ≡ Some p → slice_get shards k ≡ Some s → HasGrown l p s.held.list

-- the catalogue and each shard
pub record HasGrownBy {K : Type 0} (s : Locks) (p : Seats) (a : School K) : Type 0 where
  pub records : HasGrown s.records p.records a.catalog.held.list
  pub parts : HaveGrown s.parts p.parts a.parts
