-- A bank as a list of entries: what is read of it, what is put into it, and what is refused. Entries and their versions count
-- from 1.
use Rattle.std.specs.Prelude.{ℕ, ◌+◌, ◌-◌, ◌≤◌, List, [], ◌∷◌, ◌++◌, length, map, is_none, nat_lt, Option, unwrap_or, option_map, option_and_then, slice_set, All}
use Rattle.qz_grading.specs.declared.limits.TheConstants.{MOST_TOGETHER}
use Rattle.qz_grading.specs.declared.question.Bank.{Bank}
use Rattle.qz_grading.specs.declared.question.Item.{Item}
use Rattle.qz_grading.specs.declared.question.Question.{Question}
use Rattle.qz_grading.specs.declared.refusal.Refusal.{Refusal}
use Rattle.qz_grading.specs.declared.refusal.Refusal.TheVariants as refusal
use Rattle.qz_grading.specs.declared.refusal.Thing.TheVariants as thing
use Rattle.qz_grading.specs.Behaviours.{first_some, when}
use Rattle.qz_grading.specs.Canonical.{canonical_size}
use Rattle.qz_grading.specs.Grading.{at_place}
use Rattle.qz_terms.specs.declared.limits.TheConstants.{MOST_ENTRIES, MOST_VERSIONS}
use Rattle.qz_terms.specs.declared.request.Request.{Request}
use Rattle.qz_terms.specs.Catalog.{changed_by}
use Rattle.qz_terms.specs.Cause.{too_many}
use Rattle.qz_bank.specs.declared.entry.Entry.{Entry}

-- ---- what is kept

-- an entry has a version, and not too many
pub record IsEntry (x : Entry) : Type 0 where
  pub some : 1 ≤ length x.versions
  pub few : length x.versions ≤ MOST_VERSIONS

pub record IsBank (es : List Entry) : Type 0 where
  pub few : length es ≤ MOST_ENTRIES
  pub each : All IsEntry es

-- ---- what is read

-- the number of the latest version of an entry
abbrev pub latest : List Entry → ℕ → Option ℕ
latest es e = option_map (λ (x : Entry). length x.versions) (at_place es e)

abbrev pub version : List Entry → ℕ → ℕ → Option Question
version es e n = option_and_then (λ (x : Entry). at_place x.versions n) (at_place es e)

-- the question of the latest version
abbrev pub newest : List Entry → ℕ → Option Question
newest es e = version es e (unwrap_or (latest es e) 0)

-- ---- an import

abbrev pub first_version : Item → Entry
first_version i = record { category = i.category; versions = i.question ∷ [] }

abbrev pub imported : List Entry → Bank → List Entry
imported es gift = es ++ map first_version gift.items

abbrev pub import_cause : List Entry → Bank → Option Refusal
import_cause es gift = when (nat_lt MOST_ENTRIES (length es + length gift.items)) (refusal.TooMany MOST_ENTRIES)

-- ---- a change of an entry

abbrev pub with_version : Entry → Question → Entry
with_version x q = record x { versions = x.versions ++ q ∷ [] }

-- the entry has this version more, if it is there
abbrev pub grown : List Entry → ℕ → Question → List Entry
grown es e q = unwrap_or (option_map (λ (x : Entry). slice_set es (e - 1) (with_version x q)) (at_place es e)) es

-- what an edit or a tuning makes of the latest version
abbrev pub newer_version : List Entry → ℕ → Request → Option Question
newer_version es e x = option_map (λ old. changed_by old x) (newest es e)

abbrev pub changed : List Entry → ℕ → Request → List Entry
changed es e x = unwrap_or (option_map (grown es e) (newer_version es e x)) es

-- of an entry, before the new version is there
abbrev pub entry_cause : List Entry → ℕ → Option Refusal
entry_cause es e = first_some (when (is_none (at_place es e)) (refusal.Unknown thing.Entry) ∷ too_many MOST_VERSIONS (unwrap_or (latest es e) 0) ∷ [])

-- of a new version
abbrev pub size_cause : Question → Option Refusal
size_cause q = when (nat_lt MOST_TOGETHER (canonical_size q)) (refusal.TooMany MOST_TOGETHER)

abbrev pub change_cause : List Entry → ℕ → Request → Option Refusal
change_cause es e x = first_some (entry_cause es e ∷ option_and_then size_cause (newer_version es e x) ∷ [])
