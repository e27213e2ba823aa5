-- A mark for each new place of a school's lists: whether a note speaks for it.
use Rattle.std.specs.List.{list_any}
use Rattle.std.specs.Prelude.{◌≡◌, ℕ, ◌+◌, ◌-◌, ◌^◌, ◌<◌, Bool, true, false, ◌&&◌, ◌||◌, List, [], length, nat_le, slice_get, slice_index_or, slice_set, if◌then◌else◌, Option, None, Some, unwrap_or}
use Rattle.qz_gather.specs.declared.note.Note.{Note}
use Rattle.qz_terms.specs.Serial.{Lists, held_in}
use Rattle.qz_visit.specs.declared.last.Last.{Last}
use Rattle.qz_gathering.specs.declared.marks.Marks.{Marks}
use Rattle.qz_gathering.specs.Gathering.{ComesBefore, count_before, counted, is_list, is_owned, speaks_for}

-- the marks of this list
abbrev pub marks_of : Marks → Option ℕ → List Bool
marks_of m None = m.catalog
marks_of m (Some k) = unwrap_or (slice_get m.parts.items k) []

-- ---- marks that tell for which places notes speak

-- a mark for each place of a list behind those that were there before, where the length of the list has 64 bits
pub record HasMarks (a : Lists) (base : Last) (list : Option ℕ) (marks : List Bool) : Type 0 where
  pub fits : length (held_in a list).list < 2 ^ 64
  pub count : length marks ≡ length (held_in a list).list - count_before base list

-- each tells whether one of these notes speaks for its place
pub record IsMarked (a : Lists) (base : Last) (notes : List Note) (list : Option ℕ) (marks : List Bool) : Type 0 where
  pub has : HasMarks a base list marks
  pub each : (j : ℕ) → j < length marks → slice_index_or marks j false ≡ list_any (speaks_for a list (count_before base list + j + 1)) notes

-- so it is of each list
pub record HaveMarks (a : Lists) (base : Last) (m : Marks) : Type 0 where
  pub each : (list : Option ℕ) → HasMarks a base list (marks_of m list)

pub record AreMarked (a : Lists) (base : Last) (notes : List Note) (m : Marks) : Type 0 where
  pub each : (list : Option ℕ) → IsMarked a base notes list (marks_of m list)

-- ---- one note more

-- the note speaks for the place behind those that it counts
abbrev pub speaks_next : Lists → Note → Bool
speaks_next a n = n.put || (n.doubt && is_owned a n (counted n + 1))

-- the marks of its list, with the one of that place, if there is one
abbrev pub marked : Lists → Last → Note → List Bool → List Bool
marked a base n marks = if nat_le (count_before base n.list) (counted n) && speaks_next a n then slice_set marks (counted n - count_before base n.list) true else marks

-- the marks of its own list change so, and no others
pub record MarksNote (a : Lists) (base : Last) (n : Note) (old new : Marks) : Type 0 where
  pub count : length new.parts.items ≡ length old.parts.items
  pub each : (list : Option ℕ) → marks_of new list ≡ (if is_list list n.list then marked a base n (marks_of old list) else marks_of old list)

-- ---- places without a mark

pub record NoneMissing (m : Marks) : Type 0 where
  pub each : (list : Option ℕ) (j : ℕ) → j < length (marks_of m list) → slice_index_or (marks_of m list) j false ≡ true

-- the first one, the catalogue's list before those of the shards
pub record IsFirstMissing (m : Marks) (list : Option ℕ) (index : ℕ) : Type 0 where
  pub there : index < length (marks_of m list)
  pub missing : slice_index_or (marks_of m list) index false ≡ false
  pub before : (j : ℕ) → j < index → slice_index_or (marks_of m list) j false ≡ true
  pub lists_before : (other : Option ℕ) (j : ℕ) → ComesBefore other list → j < length (marks_of m other) → slice_index_or (marks_of m other) j false ≡ true
