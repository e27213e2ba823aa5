-- Records as they are kept.
use Rattle.std.specs.Prelude.{◌≡◌, ℕ, Bool, true, List, [], ◌++◌, unwrap_or, option_map}
use Rattle.qz_terms.specs.declared.record.Record.{Record}
use Rattle.qz_terms.specs.Catalog.{asked}
use Rattle.qz_terms.specs.Kept.{IsKept, asks_described}
use Rattle.qz_terms.specs.Spelling.{spelling}
use Rattle.qz_record.specs.Parts.{record_field}

-- its numbers are within their types, its texts are UTF-8, no length or count passes 32 bits, and a request that it keeps is
-- one of the catalogue's
abbrev pub is_spellable : Record → Bool
is_spellable r = record_field.fits r

-- no description that a record brings has a general feedback
abbrev pub keeps_described : Record → Bool
keeps_described r = unwrap_or (option_map asks_described (asked r)) true

-- what a file may keep
pub record IsRecord (r : Record) : Type 0 where
  pub spellable : is_spellable r ≡ true
  pub kept : IsKept r
  pub described : keeps_described r ≡ true

-- no two records have one spelling, and none begins another's
pub record HasOneSpelling : Type 0 where
  pub same : (r s : Record) → is_spellable r ≡ true → is_spellable s ≡ true → spelling r ≡ spelling s → r ≡ s
  pub whole : (r s : Record) (more : List ℕ) → is_spellable r ≡ true → is_spellable s ≡ true → spelling r ++ more ≡ spelling s → more ≡ []
