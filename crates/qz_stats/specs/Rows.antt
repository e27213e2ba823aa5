-- How each slot of a quiz was answered.
use Rattle.std.specs.Prelude.{ℕ, ℤ, List, length, map, filter_map, Option, option_map}
use Rattle.qz_decimal.specs.Numbers.{fraction_of}
use Rattle.qz_terms.specs.declared.record.Record.{Record}
use Rattle.qz_terms.specs.History.{Slot, mark_in}
use Rattle.qz_terms.specs.Lists.{places_to}
use Rattle.qz_terms.specs.Rows.{sum_of}
use Rattle.qz_stats.specs.declared.rows.SlotRow.{SlotRow}
use Rattle.qz_stats.specs.Picks.{pick_rows}
use Rattle.qz_stats.specs.Samples.{most_slots, slots_at}

-- the mark of a slot, if it is there, and the max mark that is bound
abbrev pub marked : Slot → Option (ℤ × ℤ)
marked s = option_map (λ m. (m, s.bound.max)) (mark_in s)

abbrev pub mark_sum : List (ℤ × ℤ) → ℤ
mark_sum ms = sum_of (map (λ (m : ℤ × ℤ). m.0) ms)

abbrev pub max_sum : List (ℤ × ℤ) → ℤ
max_sum ms = sum_of (map (λ (m : ℤ × ℤ). m.1) ms)

-- the sum of marks over the sum of their max marks: rounded once, halves away from zero, and 0 where that sum is 0
abbrev pub facility : List (ℤ × ℤ) → ℤ
facility ms = fraction_of (mark_sum ms) (max_sum ms)

abbrev pub row_with : ℕ → List Slot → List (ℤ × ℤ) → SlotRow
row_with k xs ms = record { slot = k; tried = length ms; facility = facility ms; picks = pick_rows xs }

-- of the sampled slots with this number
abbrev pub row_of : ℕ → List Slot → SlotRow
row_of k xs = row_with k xs (filter_map marked xs)

abbrev pub slot_row : List (List Record) → ℕ → ℕ → SlotRow
slot_row hs q k = row_of k (slots_at hs q k)

-- a row for each slot that a sampled attempt has, in order
abbrev pub analysis : List (List Record) → ℕ → List SlotRow
analysis hs q = map (slot_row hs q) (places_to (most_slots hs q))
