-- A report, over several shards: its rows, and what reading them does to the shards.
use Rattle.std.specs.BTreeMap.{insert_entry}
use Rattle.std.specs.Ordering.{nat_cmp}
use Rattle.std.specs.Prelude.{◌≡◌, ℕ, ◌<◌, ℤ, List, [], ◌∷◌, length, Option, Some, flat_map, map, slice_get, slice_set, unwrap_or, Err}
use Rattle.qz_catalog.specs.Keeping as records
use Rattle.qz_grading.specs.declared.refusal.Refusal.{Refusal}
use Rattle.qz_grading.specs.declared.refusal.Refusal.TheVariants as refusal
use Rattle.qz_grading.specs.Grading.{at_place}
use Rattle.qz_serial.specs.Reports.{MendedUpTo}
use Rattle.qz_looks.specs.Grades.{graded}
use Rattle.qz_shard.specs.Keeping as part
use Rattle.qz_terms.specs.declared.grades.Policy.{Policy}
use Rattle.qz_terms.specs.declared.record.Record.{Record}
use Rattle.qz_terms.specs.declared.reply.Row.{Row}
use Rattle.qz_terms.specs.History.{takers}
use Rattle.qz_terms.specs.Legal.{IsLegal}
use Rattle.qz_terms.specs.Serial.{lists_of}
use Rattle.qz_school.specs.Answering.{PartLooks}
use Rattle.qz_school.specs.Solos.{GoOn, held_of}

-- ---- rows

-- the users of a shard who have an attempt of a quiz, and their grades
abbrev pub rows_in : ℕ → Policy → List Record → List (ℕ × Option ℤ)
rows_in q policy h = map (graded h q policy) (takers h q)

-- those of all shards, one after the other
abbrev pub all_rows : List (List Record) → ℕ → Policy → List (ℕ × Option ℤ)
all_rows parts q policy = flat_map (rows_in q policy) parts

-- in order of user, with the first row of each
abbrev pub rows_in_order : List (ℕ × Option ℤ) → List (ℕ × Option ℤ)
rows_in_order [] = []
rows_in_order (r ∷ rs) = insert_entry nat_cmp (rows_in_order rs) r.0 r.1

-- by the names of the users, in order of number; one whom they don't have has the empty name
abbrev pub named_row : List (List ℕ) → ℕ × Option ℤ → Row
named_row names r = record { user = r.0; name = unwrap_or (at_place names r.0) []; grade = r.1 }

-- ---- the shards that are read

-- The first so many shards were mended and read, in order, and their lists are legal; the others are as they were.
pub record PartsRead {K : Type 0} (sound : K → Type 0) (faults : K → ℕ) (count : ℕ) (old new : List (part.Keeping K)) : Type 0 where
  pub mended : MendedUpTo count (held_of old) (held_of new)
  pub same : (k : ℕ) (s g : part.Keeping K) → slice_get old k ≡ Some s → slice_get new k ≡ Some g → part.IsSamePart s g
  pub legal : (k : ℕ) (g : part.Keeping K) → k < count → slice_get new k ≡ Some g → IsLegal g.index g.count g.held.list
  pub goes_on : (c : records.Keeping K) → GoOn sound faults (record { catalog = c; parts = old }) (record { catalog = c; parts = new })

-- all of them, and these are their rows
pub record RowsAre {K : Type 0} (sound : K → Type 0) (faults : K → ℕ) (quiz : ℕ) (policy : Policy) (old new : List (part.Keeping K)) (rows : List (ℕ × Option ℤ)) : Type 0 where
  pub read : PartsRead sound faults (length old) old new
  pub rows_are : rows ≡ all_rows (lists_of (held_of new)) quiz policy

-- A shard didn't tell its rows, behind those that were read; or memory was wanting.
pub data RowsStop {K : Type 0} (sound : K → Type 0) (faults : K → ℕ) (quiz : ℕ) (policy : Policy) (old new : List (part.Keeping K)) (r : Refusal) : Type 0 where
  untold : (i : ℕ) (mid : List (part.Keeping K)) (s g : part.Keeping K) → PartsRead sound faults i old mid → slice_get mid i ≡ Some s → PartLooks sound faults (part.TellsRows quiz policy) s g (Err r) → new ≡ slice_set mid i g → RowsStop sound faults quiz policy old new r
  short : (i : ℕ) → PartsRead sound faults i old new → r ≡ refusal.Memory → RowsStop sound faults quiz policy old new r
