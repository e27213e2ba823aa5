-- A report: what reading the shards in turn, each once, comes to.
use Rattle.std.specs.Prelude.{◌≡◌, ℕ, ◌<◌, ℤ, List, length, map, slice_get, slice_set, Option, Some, Err}
use Rattle.qz_catalog_turns.specs.Turning.{Fails, held_of}
use Rattle.qz_grading.specs.declared.refusal.Refusal.{Refusal}
use Rattle.qz_grading.specs.declared.refusal.Refusal.TheVariants as refusal
use Rattle.qz_keeper.specs.Lists.{Looks, OneCall}
use Rattle.qz_serial.specs.Reports.{MendedUpTo}
use Rattle.qz_shard.specs.Keeping.{TellsRows}
use Rattle.qz_shard_turns.specs.Tying.{Placed}
use Rattle.qz_school.specs.Reports.{all_rows}
use Rattle.qz_terms.specs.declared.grades.Policy.{Policy}
use Rattle.qz_terms.specs.declared.record.Record.{Record}
use Rattle.qz_terms.specs.Legal.{IsLegal}
use Rattle.qz_terms.specs.Serial.{lists_of}
use Rattle.qz_turn.specs.declared.view.Tale.{Tale}
use Rattle.qz_turn.specs.Turns.{Locked}
use Rattle.qz_visit.specs.Visits.{AreFoundBy, IsOf, TakesTurns, TookTurn, seen_by}
use Rattle.qz_visit.specs.Ways.{Part}

-- The locks of a school's shards in order, and a pass of each, with a number.
pub record AreAt (locks : List (Locked Placed)) (passes : List Part) : Type 0 where
  pub count : length passes ≡ length locks
  pub own : (k : ℕ) (l : Locked Placed) (p : Part) → slice_get locks k ≡ Some l → slice_get passes k ≡ Some p → IsOf l.lock p
  pub placed : (k : ℕ) (l : Locked Placed) → slice_get locks k ≡ Some l → (place : Placed) × (l.lock.key ≡ Some place) × (place.index ≡ k) × (place.count ≡ length locks)

-- The first so many shards were mended and read, in order, in a turn each, and their lists are legal; of the others the passes see what they saw. All lists
-- stay as they were found, once they were mended.
pub record PartsRead (count : ℕ) (old new : List Part) (found : List (Tale Record)) : Type 0 where
  pub are : AreFoundBy old new found
  pub same : map held_of found ≡ map held_of (seen_by new)
  pub mended : MendedUpTo count (map held_of found) (map held_of (seen_by new))
  pub legal : (k : ℕ) (p : Part) → k < count → slice_get new k ≡ Some p → IsLegal k (length new) p.seen.list
  pub turned : (k : ℕ) (o n : Part) → k < count → slice_get old k ≡ Some o → slice_get new k ≡ Some n → TakesTurns o n

-- all of them, and these are their rows
pub record RowsAre (quiz : ℕ) (policy : Policy) (old new : List Part) (rows : List (ℕ × Option ℤ)) : Type 0 where
  pub found : List (Tale Record)
  pub read : PartsRead (length old) old new found
  pub rows_are : rows ≡ all_rows (lists_of (map held_of (seen_by new))) quiz policy

-- A shard didn't tell its rows, behind those that were read; or memory was wanting.
pub data RowsStop (quiz : ℕ) (policy : Policy) (old new : List Part) (r : Refusal) : Type 0 where
  untold : (i : ℕ) (mid : List Part) (found : List (Tale Record)) (po pn : Part) → PartsRead i old mid found → slice_get mid i ≡ Some po → TookTurn po pn
      → OneCall (Fails pn.found pn.seen) (λ r. Err r) (Looks (TellsRows quiz policy)) (held_of pn.found) (held_of pn.seen) (Err r) → new ≡ slice_set mid i pn → RowsStop quiz policy old new r
  short : (i : ℕ) (found : List (Tale Record)) → PartsRead i old new found → r ≡ refusal.Memory → RowsStop quiz policy old new r
