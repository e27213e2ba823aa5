-- Catalogues that are read from payloads.
use Rattle.std.specs.Prelude.{◌≡◌, ℕ, ◌+◌, ◌≤◌, Bool, true, false, List, [], ◌∷◌, ◌++◌, map, length, All, Option, Some, None}
use Rattle.qz_terms.specs.declared.record.Record.{Record}
use Rattle.qz_terms.specs.Legal.{IsAllowedInCatalog, IsLegalCatalog}
use Rattle.qz_terms.specs.Spelling.{spelling}
use Rattle.qz_record.specs.declared.list_fault.ListFault.{ListFault}
use Rattle.qz_record.specs.declared.list_fault.ListFault.TheVariants as fault
use Rattle.qz_record.specs.Records.{IsRecord}
use Rattle.qz_catalog.specs.declared.book.Book.{Book}
use Rattle.qz_catalog.specs.Holdings.{IsBook}

-- the catalogue whose records these payloads spell, in order
pub record IsLoaded (payloads : List (List ℕ)) (c : List Record) : Type 0 where
  pub spelled : map spelling c ≡ payloads
  pub records : All IsRecord c
  pub legal : IsLegalCatalog c
  pub some : 1 ≤ length c

-- there is none where there are no payloads, and only there
abbrev pub IsRead : List (List ℕ) → Option (List Record) → Type 0
IsRead payloads None = payloads ≡ []
IsRead payloads (Some c) = IsLoaded payloads c

-- no record that is spelled so may stand behind these
pub record IsNoneBehind (c : List Record) (payload : List ℕ) : Type 0 where
  pub none : (r : Record) → IsRecord r → payload ≡ spelling r → IsAllowedInCatalog c r → ⊥

-- The payload at this place, from 1, is the first that doesn't spell a record that may stand behind those before it.
pub record IsFirstIllegal (payloads : List (List ℕ)) (nth : ℕ) : Type 0 where
  pub before : List Record
  pub bad : List ℕ
  pub rest : List (List ℕ)
  pub stands : payloads ≡ map spelling before ++ bad ∷ rest
  pub records : All IsRecord before
  pub legal : IsLegalCatalog before
  pub illegal : IsNoneBehind before bad
  pub place : nth ≡ length before + 1

-- what is told where no list is read
abbrev pub IsListFault : List (List ℕ) → ListFault → Type 0
IsListFault payloads (fault.Illegal nth) = IsFirstIllegal payloads nth
IsListFault payloads fault.Memory = Unit {0}

-- the record that the payload spells stands at the end
pub record IsAdded (old new : List Record) (payload : List ℕ) : Type 0 where
  pub made : Record
  pub allowed : IsAllowedInCatalog old made
  pub keeps : IsRecord made
  pub spelled : payload ≡ spelling made
  pub put : new ≡ old ++ made ∷ []

-- Where the payload is taken, its record is put. Where it isn't, it spells none that may stand there, and the list is as before.
abbrev pub IsTaken : List Record → List Record → List ℕ → Bool → Type 0
IsTaken old new payload true = IsAdded old new payload
IsTaken old new payload false = (new ≡ old) × IsNoneBehind old payload

-- The payload spells the book's only record, or none that may stand first.
abbrev pub IsBegun : List ℕ → Option Book → Type 0
IsBegun payload None = IsNoneBehind [] payload
IsBegun payload (Some b) = IsBook b × IsAdded [] b.records.items payload
