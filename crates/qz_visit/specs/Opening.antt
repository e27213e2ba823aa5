-- A school that is put behind locks, and passes that are split.
use Rattle.std.specs.Prelude.{◌≡◌, ℕ, List, [], ◌++◌, length, map, reverse, slice_get, Some}
use Rattle.qz_catalog_turns.specs.Turning.{tale_of}
use Rattle.qz_shard.specs.Keeping as part
use Rattle.qz_shard_turns.specs.Tying.{Placed}
use Rattle.qz_school.specs.Solos.{School}
use Rattle.qz_terms.specs.declared.record.Record.{Record}
use Rattle.qz_turn.specs.declared.view.Tale.{Tale}
use Rattle.qz_turn.specs.Passes.{Lock}
use Rattle.qz_turn.specs.Rule.{below}
use Rattle.qz_turn.specs.Turns.{Locked, first_pass, left_of, split_off}
use Rattle.qz_visit.specs.Closing.{AreLocked, ArePlaced}
use Rattle.qz_visit.specs.Visits.{IsPlaced, Locks, Seats, Tellings, seen_by}
use Rattle.qz_visit.specs.Ways.{Part, Seen}

-- ---- what a school tells

abbrev pub tales : {K : Type 0} → (K → ℕ) → List (part.Keeping K) → List (Tale Record)
tales faults parts = map (λ s. tale_of s.held (faults s.keeper)) parts

abbrev pub told_by : {K : Type 0} → (K → ℕ) → School K → Tellings
told_by faults a = record { records = tale_of a.catalog.held (faults a.catalog.keeper); parts = tales faults a.parts }

-- what its passes see of the first shards, and what the others tell, which stand with the last one first
abbrev pub half_told : {K : Type 0} → (K → ℕ) → Seen → List Part → List (part.Keeping K) → Tellings
half_told faults seen passes others = record { records = seen.seen; parts = seen_by passes ++ tales faults (reverse others) }

-- ---- its locks

-- the shard at this index, of so many, is behind a lock of its place, and this is the lock's first pass
pub record IsOpened {K : Type 0} (faults : K → ℕ) (records : Lock (Unit {0})) (seats count k : ℕ) (s : part.Keeping K) (l : Locked Placed) (p : Part) : Type 0 where
  pub placed : IsPlaced records count k l.lock
  pub seats_are : l.seats ≡ seats
  pub start_is : l.start ≡ length s.held.list
  pub first : p ≡ first_pass l.lock (tale_of s.held (faults s.keeper)) seats

-- each of these locks has so many seats, and its pass has every number and took no turn
pub record AreDealt (seats : ℕ) (locks : List (Locked Placed)) (passes : List Part) : Type 0 where
  pub seats_are : (k : ℕ) (l : Locked Placed) → slice_get locks k ≡ Some l → l.seats ≡ seats
  pub numbers : (k : ℕ) (p : Part) → slice_get passes k ≡ Some p → p.numbers ≡ below seats
  pub unturned : (k : ℕ) (p : Part) → slice_get passes k ≡ Some p → p.turns ≡ []

-- each of these locks was made over a list as long as that of the shard at its place
pub record StartAt {K : Type 0} (locks : List (Locked Placed)) (parts : List (part.Keeping K)) : Type 0 where
  pub each : (k : ℕ) (l : Locked Placed) (s : part.Keeping K) → slice_get locks k ≡ Some l → slice_get parts k ≡ Some s → l.start ≡ length s.held.list

-- The first shards of a school, of so many, are behind these locks, and these are their first passes, which have seen what the shards tell.
pub record AreOpened {K : Type 0} (faults : K → ℕ) (records : Lock (Unit {0})) (seats count : ℕ) (parts : List (part.Keeping K)) (locks : List (Locked Placed)) (passes : List Part) : Type 0 where
  pub placed : ArePlaced records count locks
  pub own : AreLocked locks passes
  pub dealt : AreDealt seats locks passes
  pub starts : StartAt locks parts
  pub seen : seen_by passes ≡ tales faults parts

-- The first of these shards are behind locks. The others are left, the last one first.
pub record HalfOpens {K : Type 0} (faults : K → ℕ) (records : Lock (Unit {0})) (seats : ℕ) (all left : List (part.Keeping K)) (locks : List (Locked Placed)) (passes : List Part) : Type 0 where
  pub done : List (part.Keeping K)
  pub all_is : all ≡ done ++ reverse left
  pub opened : AreOpened faults records seats (length all) done locks passes

-- A school is behind locks with so many seats each, which were made over its lists, and these are its first passes: they have every number,
-- took no turn, and have seen all of it.
pub record Opens {K : Type 0} (faults : K → ℕ) (seats : ℕ) (a : School K) (s : Locks) (p : Seats) : Type 0 where
  pub seats_are : s.records.seats ≡ seats
  pub start_is : s.records.start ≡ length a.catalog.held.list
  pub records : p.records ≡ first_pass s.records.lock (tale_of a.catalog.held (faults a.catalog.keeper)) seats
  pub parts : AreOpened faults s.records.lock seats (length a.parts) a.parts s.parts p.parts

-- ---- its passes

-- each gave its first number to a new one, which has seen the same
pub record Splits (before after given : Seats) : Type 0 where
  pub records : after.records ≡ left_of before.records
  pub records_given : given.records ≡ split_off before.records
  pub parts : after.parts ≡ map left_of before.parts
  pub parts_given : given.parts ≡ map split_off before.parts
