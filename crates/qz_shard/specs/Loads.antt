-- Lists of records that are read from payloads.
use Rattle.std.specs.Prelude.{◌≡◌, ℕ, ◌+◌, Bool, true, false, List, [], ◌∷◌, ◌++◌, map, length, All}
use Rattle.qz_terms.specs.declared.record.Record.{Record}
use Rattle.qz_terms.specs.Legal.{IsAllowed, IsLegal}
use Rattle.qz_terms.specs.Spelling.{spelling}
use Rattle.qz_record.specs.declared.list_fault.ListFault.{ListFault}
use Rattle.qz_record.specs.declared.list_fault.ListFault.TheVariants as fault
use Rattle.qz_record.specs.Records.{IsRecord}
use Rattle.qz_shard.specs.Holdings.{Holding}
use Rattle.qz_book.specs.Held.{IsHeld}
use Rattle.qz_book.specs.Nexts.{IsNext}

-- the shard with this index, of so many, whose records these payloads spell, in order
pub record IsLoaded (index count : ℕ) (payloads : List (List ℕ)) (s : Holding) : Type 0 where
  pub index_is : s.index ≡ index
  pub count_is : s.count ≡ count
  pub spelled : map spelling s.records ≡ payloads
  pub records : All IsRecord s.records
  pub held : IsHeld index count s.records

-- no record that is spelled so may stand behind these
pub record IsNoneBehind (index count : ℕ) (l : List Record) (payload : List ℕ) : Type 0 where
  pub none : (r : Record) → IsRecord r → payload ≡ spelling r → IsAllowed index count l r → ⊥

-- The payload at this place, from 1, is the first that doesn't spell a record that may stand behind those before it.
pub record IsFirstIllegal (index count : ℕ) (payloads : List (List ℕ)) (nth : ℕ) : Type 0 where
  pub before : List Record
  pub bad : List ℕ
  pub rest : List (List ℕ)
  pub stands : payloads ≡ map spelling before ++ bad ∷ rest
  pub records : All IsRecord before
  pub legal : IsLegal index count before
  pub illegal : IsNoneBehind index count before bad
  pub place : nth ≡ length before + 1

-- what is told where no shard is read
abbrev pub IsListFault : ℕ → ℕ → List (List ℕ) → ListFault → Type 0
IsListFault index count payloads (fault.Illegal nth) = IsFirstIllegal index count payloads nth
IsListFault index count payloads fault.Memory = Unit {0}

-- the record that the payload spells stands at the end
pub record IsAdded (old new : Holding) (payload : List ℕ) : Type 0 where
  pub made : Record
  pub next : IsNext old.index old.count old.records made
  pub keeps : IsRecord made
  pub spelled : payload ≡ spelling made
  pub put : new.records ≡ old.records ++ made ∷ []

-- Where the payload is taken, its record is put. Where it isn't, it spells none that may stand there, and the shard is as before.
abbrev pub IsTaken : Holding → Holding → List ℕ → Bool → Type 0
IsTaken old new payload true = IsAdded old new payload
IsTaken old new payload false = (new ≡ old) × IsNoneBehind old.index old.count old.records payload
