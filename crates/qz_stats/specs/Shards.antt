-- Shards that are replayed, and the slots that are read of them.
use Rattle.std.specs.Prelude.{ℕ, ◌*◌, ◌≤◌, List, [], map, filter_map, flat_map, IfSome, Result, Ok, Err, unsigned_abs, Vec}
use Rattle.qz_book.specs.declared.book.Played.{Played}
use Rattle.qz_book.specs.Held.{IsSound}
use Rattle.qz_decimal.specs.Numbers.{IsMaxMark}
use Rattle.qz_lives.specs.Attempts.{slot_of}
use Rattle.qz_terms.specs.declared.record.Record.{Record}
use Rattle.qz_terms.specs.History.{Slot, mark_in, slot_count}
use Rattle.qz_usage.specs.Runs.{IsBound}
use Rattle.qz_stats.specs.declared.replaying.Replayed.{Replayed}
use Rattle.qz_stats.specs.declared.rows.SlotRow.{SlotRow}
use Rattle.qz_stats.specs.Rows.{row_of}
use Rattle.qz_stats.specs.Samples.{sample, slot_at}

-- a shard's list with its sample
abbrev pub replayed : ℕ → List Record → Replayed
replayed q h = record { book = h; attempts = sample h q }

pub record IsSoundShard (s : Replayed) : Type 0 where
  pub sound : IsSound s.book

abbrev pub shard_slots : ℕ → Replayed → List Slot
shard_slots k s = filter_map (slot_at k s.book) s.attempts

abbrev pub shard_counts : Replayed → List ℕ
shard_counts s = map (slot_count s.book) s.attempts

abbrev pub shard_row : List Replayed → ℕ → SlotRow
shard_row ss k = row_of k (flat_map (shard_slots k) ss)

-- those that a worker gives
abbrev pub shards_in : {Z E : Type 0} → Result (Vec Replayed Z) E → List Replayed
shards_in (Ok shards) = shards.items
shards_in (Err e) = []

-- ---- slots that are read

abbrev pub slot_in : Played → Slot
slot_in p = slot_of p.run.now p.question.now

abbrev pub slots_in : List Played → List Slot
slots_in ps = map slot_in ps

-- The run is of its question. A mark is at most six max marks, since certainty multiplies by no more.
pub record IsPlayed (p : Played) : Type 0 where
  pub bound : IsBound p.run.now p.question.now
  pub max : IsMaxMark p.run.now.bound.max
  pub within : IfSome (mark_in (slot_of p.run.now p.question.now)) (λ m. unsigned_abs m ≤ 6 * unsigned_abs p.run.now.bound.max)
