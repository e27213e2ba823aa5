-- Passes of a school from its opening to its closing.
use Rattle.std.specs.Prelude.{◌≡◌, ℕ, List, length, slice_get, Some}
use Rattle.qz_shard_turns.specs.Tying.{Placed, SeesMore}
use Rattle.qz_terms.specs.Catalog.{shards}
use Rattle.qz_turn.specs.Passes.{Lock, Standing}
use Rattle.qz_turn.specs.Turns.{Locked}
use Rattle.qz_terms.specs.declared.record.Record.{Record}
use Rattle.qz_visit.specs.Visits.{Locks, Seats, Visitor}
use Rattle.qz_visit.specs.Ways.{Part}

-- a pass of this lock, with these numbers
pub record HasNumbers {K : Type 0} (lock : Lock K) (numbers : List ℕ) (pass : Standing Record K) : Type 0 where
  pub own : pass.lock ≡ lock
  pub numbers_are : pass.numbers ≡ numbers

-- Passes of this school with the same numbers of each lock, which have seen its founding.
pub record Holds (s : Locks) (numbers : List ℕ) (p : Seats) : Type 0 where
  pub records : HasNumbers s.records.lock numbers p.records
  pub count : length p.parts ≡ length s.parts
  pub parts : (k : ℕ) (l : Locked Placed) (q : Part) → slice_get s.parts k ≡ Some l → slice_get p.parts k ≡ Some q → HasNumbers l.lock numbers q
  pub founded : shards p.records.seen.list ≡ Some (length s.parts)

-- so many seats at each lock
pub record HasSeats (s : Locks) (seats : ℕ) : Type 0 where
  pub records : s.records.seats ≡ seats
  pub parts : (k : ℕ) (l : Locked Placed) → slice_get s.parts k ≡ Some l → l.seats ≡ seats

-- each pass has seen at least what it had seen, and has its lock and its numbers
pub record SeeMore (old new : Seats) : Type 0 where
  pub records : SeesMore old.records new.records
  pub count : length new.parts ≡ length old.parts
  pub parts : (k : ℕ) (p q : Part) → slice_get old.parts k ≡ Some p → slice_get new.parts k ≡ Some q → SeesMore p q

-- so do those of one who asks the same school
pub record GoesOn (old new : Visitor) : Type 0 where
  pub school : new.school ≡ old.school
  pub passes : SeeMore old.passes new.passes
