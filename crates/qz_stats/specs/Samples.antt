-- Which attempts of a quiz are looked at, and which slots.
use Rattle.std.specs.Prelude.{ℕ, max, List, map, fold, filter, filter_map, flat_map, Option}
use Rattle.qz_grading.specs.declared.refusal.AttemptId.{AttemptId}
use Rattle.qz_terms.specs.declared.record.Record.{Record}
use Rattle.qz_terms.specs.History.{Slot, attempts, is_finished, slot, slot_count, takers}

-- the finished attempts of a quiz by a user, in order of number
abbrev pub finished_by : List Record → ℕ → ℕ → List AttemptId
finished_by h q u = filter (is_finished h) (attempts h q u)

-- the sample of a shard: the finished attempts of a quiz, in order of user and number
abbrev pub sample : List Record → ℕ → List AttemptId
sample h q = flat_map (finished_by h q) (takers h q)

abbrev pub slot_at : ℕ → List Record → AttemptId → Option Slot
slot_at k h a = slot h a k

-- the slots with this number that a shard's sampled attempts have
abbrev pub sampled_slots : ℕ → ℕ → List Record → List Slot
sampled_slots q k h = filter_map (slot_at k h) (sample h q)

-- those of all shards
abbrev pub slots_at : List (List Record) → ℕ → ℕ → List Slot
slots_at hs q k = flat_map (sampled_slots q k) hs

-- how many slots each sampled attempt of a shard has
abbrev pub slot_counts : ℕ → List Record → List ℕ
slot_counts q h = map (slot_count h) (sample h q)

-- the most slots that a sampled attempt has, over all shards, or 0
abbrev pub most_slots : List (List Record) → ℕ → ℕ
most_slots hs q = fold max 0 (flat_map (slot_counts q) hs)
