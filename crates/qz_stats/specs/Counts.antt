-- How often each version and number was told, one slot more at a time.
use Rattle.std.specs.BTreeMap.{BTreeMap, get}
use Rattle.std.specs.List.{list_any}
use Rattle.std.specs.Prelude.{◌≡◌, ℕ, ◌+◌, ◌&&◌, ◌==◌, nat_lt, if◌then◌else◌, List, Option, Some, None, unwrap_or}
use Rattle.qz_grading.specs.Steps.{last}
use Rattle.qz_room.specs.Pairs.{pair_cmp}
use Rattle.qz_terms.specs.History.{Slot}
use Rattle.qz_terms.specs.Lists.{how_many}
use Rattle.qz_stats.specs.declared.rows.PickRow.{PickRow}
use Rattle.qz_stats.specs.Picks.{Pick, has_pick, tells, tells_pick}

abbrev pub PickMap : Type 0
PickMap = BTreeMap (ℕ × ℕ) ℕ

abbrev pub count_in : PickMap → Pick → ℕ
count_in m p = unwrap_or (get pair_cmp m p) 0

-- how many of these slots tell it, where one has it
abbrev pub count_of : List Slot → Pick → Option ℕ
count_of xs p = if list_any (has_pick p) xs then Some (how_many (tells_pick p) xs) else None

pub record AreCounts (m : PickMap) (xs : List Slot) : Type 0 where
  pub each : (p : ℕ × ℕ) → get pair_cmp m p ≡ count_of xs p

-- with the first so many numbers of one slot more
abbrev pub noted : PickMap → Slot → ℕ → Pick → Option ℕ
noted m s n p =
    if (s.bound.version == p.0) && nat_lt p.1 n
    then Some (count_in m p + (if tells p.1 (last s.steps).answer then 1 else 0))
    else get pair_cmp m p

pub record HasNoted (old new : PickMap) (s : Slot) (n : ℕ) : Type 0 where
  pub each : (p : ℕ × ℕ) → get pair_cmp new p ≡ noted old s n p

-- what is told of an entry
abbrev pub told_of : (ℕ × ℕ) × ℕ → PickRow
told_of e = record { version = e.0.0; pick = e.0.1; count = e.1 }
