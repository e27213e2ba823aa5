-- That passes hold their numbers of their locks is a proposition.
use Rattle.std.proofs.Common.{◌≡◌, ℕ, List, length, slice_get, Option, Some}
use Rattle.std.specs.Coded.{Coded, Coded-set, codes, coded_list, coded_option, coded_ℕ, le_prop}
use Rattle.qz_polling.specs.Polling.{HaveSeats}
use Rattle.qz_shard_turns.specs.Tying.{Placed}
use Rattle.qz_stations.specs.Posts.{HoldTheirs}
use Rattle.qz_turn.specs.Passes.{Lock}
use Rattle.qz_visit.specs.Holding.{Holds}
use Rattle.qz_visit.specs.Visits.{Locks, Seats, Visitor}

lock_code : Coded (Lock (Unit {0}))
lock_code = hlevel codes

part_lock_code : Coded (Lock Placed)
part_lock_code = hlevel codes

lock_set : IsSet (Lock (Unit {0}))
lock_set = Coded-set lock_code

part_lock_set : IsSet (Lock Placed)
part_lock_set = Coded-set part_lock_code

number_set : IsSet ℕ
number_set = Coded-set coded_ℕ

numbers_set : IsSet (List ℕ)
numbers_set = Coded-set (coded_list coded_ℕ)

some_set : IsSet (Option ℕ)
some_set = Coded-set (coded_option coded_ℕ)

holds_prop : (s : Locks) (ns : List ℕ) (p : Seats) → IsProp (Holds s ns p)
holds_prop s ns p = hlevel (lock_set, part_lock_set, number_set, numbers_set, some_set)

-- visitors who have their seats still: their passes are of this school, with the numbers that they had
pub record StillSeated {C : Type 0} (s : Locks) (before after : List (Visitor × C)) : Type 0 where
  pub many : length after ≡ length before
  pub holds : (k : ℕ) (q : Visitor × C) → slice_get after k ≡ Some q → HoldTheirs s q.0.passes
  pub numbers : (k : ℕ) (p q : Visitor × C) → slice_get before k ≡ Some p → slice_get after k ≡ Some q → q.0.passes.records.numbers ≡ p.0.passes.records.numbers

pub still_prop : {C : Type 0} (s : Locks) (before after : List (Visitor × C)) → IsProp (StillSeated s before after)
still_prop s before after = hlevel (holds_prop, number_set, numbers_set)
