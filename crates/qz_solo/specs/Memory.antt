-- A school in memory: its lists, of which no record is ever in doubt.
use Rattle.std.specs.Prelude.{◌≡◌, ℕ, Bool, true, false, List, [], length, replicate, slice_get, None, Some}
use Rattle.qz_catalog.specs.Holdings.{founded}
use Rattle.qz_grading.specs.declared.refusal.Refusal.TheVariants as refusal
use Rattle.qz_shard.specs.Keeping as part
use Rattle.qz_terms.specs.declared.reply.Reply.{Reply}
use Rattle.qz_terms.specs.declared.reply.Reply.TheVariants as reply
use Rattle.qz_terms.specs.Serial.{Held, Lists, with_list}

-- Before the first request: founded with so many shards and this token of the manager.
abbrev pub founded_lists : ℕ → List ℕ → Lists
founded_lists count token = record { records = with_list (founded count token); parts = replicate count (with_list []) }

-- These are the first n of so many shards, in order, without a record.
pub record AreFresh {K : Type 0} (count n : ℕ) (shards : List (part.Keeping K)) : Type 0 where
  pub long : length shards ≡ n
  pub placed : (k : ℕ) (s : part.Keeping K) → slice_get shards k ≡ Some s → (s.index ≡ k) × (s.count ≡ count)
  pub empty : (k : ℕ) (s : part.Keeping K) → slice_get shards k ≡ Some s → s.held ≡ with_list []

-- memory was wanting
abbrev pub is_memory : Reply → Bool
is_memory (reply.Refused refusal.Memory) = true
is_memory r = false

-- no record is in doubt
pub record AreClear (a : Lists) : Type 0 where
  pub records : a.records.doubt ≡ None
  pub parts : (k : ℕ) (h : Held) → slice_get a.parts k ≡ Some h → h.doubt ≡ None
