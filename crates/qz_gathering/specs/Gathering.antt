-- Which places of a school's lists the notes of those who asked it speak for.
use Rattle.std.specs.List.{list_any}
use Rattle.std.specs.Prelude.{◌≡◌, ℕ, ◌+◌, ◌<◌, ◌≤◌, Bool, true, false, ◌&&◌, ◌||◌, List, length, flat_map, nat_le, slice_get, ◌==◌, Option, None, Some, Result, Ok, Err, option_map, unwrap_or}
use Rattle.qz_gather.specs.declared.note.Note.{Note}
use Rattle.qz_gather.specs.Notes.{AreTrueOf}
use Rattle.qz_grading.specs.Grading.{at_place}
use Rattle.qz_terms.specs.Serial.{Lists, held_in, is_catalog, is_part}
use Rattle.qz_visit.specs.declared.last.Last.{Last}
use Rattle.qz_visit.specs.Visits.{Tellings}
use Rattle.qz_gathering.specs.declared.gathering.GatherFault.{GatherFault}
use Rattle.qz_gathering.specs.declared.gathering.GatherFault.TheVariants as fault
use Rattle.qz_gathering.specs.Owners.{owns}

-- ---- notes

-- the notes of several who asked, one after the other
abbrev pub all_notes : List (List Note) → List Note
all_notes books = flat_map (λ (notes : List Note). notes) books

-- those of each are true of these lists
pub record EachTrueOf (t : Tellings) (books : List (List Note)) : Type 0 where
  pub each : (k : ℕ) (notes : List Note) → slice_get books k ≡ Some notes → AreTrueOf t notes

-- ---- lists and places

-- the list of this shard (none: that of the catalogue)
abbrev pub is_list : Option ℕ → Option ℕ → Bool
is_list None other = is_catalog other
is_list (Some k) other = is_part k other

-- of numbers for the catalogue and for each shard, the one for this list, and 0 where there is no such shard
abbrev pub number_for : ℕ → List ℕ → Option ℕ → ℕ
number_for catalog parts None = catalog
number_for catalog parts (Some k) = unwrap_or (slice_get parts k) 0

-- there is such a place, from 1 on
pub record IsPlace (a : Lists) (list : Option ℕ) (place : ℕ) : Type 0 where
  pub from : 1 ≤ place
  pub to : place ≤ length (held_in a list).list

-- the catalogue comes before the shards, and these come in order
abbrev pub ComesBefore : Option ℕ → Option ℕ → Type 0
ComesBefore None (Some k) = Unit {0}
ComesBefore (Some j) (Some k) = j < k
ComesBefore list None = ⊥

-- ---- covered places

-- how many records a note counts in its own list
abbrev pub counted : Note → ℕ
counted n = number_for n.catalog n.parts n.list

-- how many records of a list were there before anything was asked
abbrev pub count_before : Last → Option ℕ → ℕ
count_before base list = number_for base.catalog base.parts list

-- the record at this place of a note's list is one of its request
abbrev pub is_owned : Lists → Note → ℕ → Bool
is_owned a n place = unwrap_or (option_map (owns n.ask) (at_place (held_in a n.list).list place)) false

-- A note speaks for the place behind as many records as it counts in its own list: where it says that its record was put, or that it is in
-- doubt and the record at that place is one of its request.
abbrev pub speaks_for : Lists → Option ℕ → ℕ → Note → Bool
speaks_for a list place n = is_list list n.list && (((counted n + 1) == place) && (n.put || (n.doubt && is_owned a n place)))

-- a place is covered that was there before anything was asked, or for which a note speaks
abbrev pub is_covered : Lists → Last → List Note → Option ℕ → ℕ → Bool
is_covered a base notes list place = nat_le place (count_before base list) || list_any (speaks_for a list place) notes

-- each place of each list is
pub record AllCovered (a : Lists) (base : Last) (notes : List Note) : Type 0 where
  pub each : (list : Option ℕ) (place : ℕ) → IsPlace a list place → is_covered a base notes list place ≡ true

-- This place isn't, and it is the first one: each place before it in its list is, and each place of a list that comes before.
pub record IsFirstGap (a : Lists) (base : Last) (notes : List Note) (list : Option ℕ) (place : ℕ) : Type 0 where
  pub there : IsPlace a list place
  pub gap : is_covered a base notes list place ≡ false
  pub before : (other : ℕ) → IsPlace a list other → other < place → is_covered a base notes list other ≡ true
  pub lists_before : (other : Option ℕ) (there : ℕ) → ComesBefore other list → IsPlace a other there → is_covered a base notes other there ≡ true

-- ---- what gathering comes to

-- All notes, where each place is covered; the first gap; or memory was wanting.
abbrev pub Gathers : Lists → Last → List Note → Result (List Note) GatherFault → Type 0
Gathers a base notes (Ok all) = (all ≡ notes) × AllCovered a base notes
Gathers a base notes (Err (fault.Gap list place)) = IsFirstGap a base notes list place
Gathers a base notes (Err fault.Memory) = Unit {0}
