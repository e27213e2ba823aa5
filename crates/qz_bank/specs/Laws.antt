-- The bank that the records of a catalogue make.
use Rattle.std.specs.List.{enumerate_from}
use Rattle.std.specs.Prelude.{◌≡◌, ℕ, ◌<◌, Bool, true, false, List, [], ◌∷◌, ◌++◌, length, map, is_some, Some, Option, unwrap_or}
use Rattle.qz_grading.specs.declared.question.Bank.{Bank}
use Rattle.qz_grading.specs.declared.question.Item.{Item}
use Rattle.qz_grading.specs.declared.question.Question.{Question}
use Rattle.qz_grading.specs.Behaviours.{first_some}
use Rattle.qz_grading.specs.Grading.{at_place}
use Rattle.qz_terms.specs.declared.record.Record.{Record}
use Rattle.qz_terms.specs.declared.request.Request.{Request}
use Rattle.qz_terms.specs.declared.request.Request.TheVariants as request
use Rattle.qz_terms.specs.Catalog as catalog
use Rattle.qz_terms.specs.Cause as cause
use Rattle.qz_bank.specs.declared.entry.Entry.{Entry}
use Rattle.qz_bank.specs.Banks.{change_cause, changed, imported, latest, version}

-- a question and what changes made of it, one after another
abbrev pub versions_from : Question → List Request → List Question
versions_from q [] = q ∷ []
versions_from q (x ∷ xs) = q ∷ versions_from (catalog.changed_by q x) xs

abbrev pub entry_over : List Record → ℕ × Item → Entry
entry_over c i = record { category = i.1.category; versions = versions_from i.1.question (catalog.changes c i.0) }

-- each entry as it was imported, with what its changes made of it
abbrev pub entries_over : List Record → List Entry
entries_over c = map (entry_over c) (enumerate_from 1 (catalog.entries c))

-- The bank has these entries, and nothing changes an entry that isn't there yet.
pub record IsBankOf (c : List Record) (es : List Entry) : Type 0 where
  pub entries : es ≡ entries_over c
  pub none_ahead : (e : ℕ) → length (catalog.entries c) < e → catalog.changes c e ≡ []

abbrev pub changes_bank : Option Request → Bool
changes_bank (Some (request.Import gift)) = true
changes_bank (Some (request.Edit entry gift)) = true
changes_bank (Some (request.Tune entry penalty hints)) = true
changes_bank x = false

pub record FollowsTheRecords : Type 0 where
  pub empty : IsBankOf [] []
  pub import : (c : List Record) (es : List Entry) (r : Record) (gift : Bank) → IsBankOf c es → catalog.asked r ≡ Some (request.Import gift) → IsBankOf (c ++ r ∷ []) (imported es gift)
  pub change : (c : List Record) (es : List Entry) (r : Record) (e : ℕ) (x : Request) → IsBankOf c es → catalog.changes_by e (catalog.asked r) ≡ Some x → is_some (at_place es e) ≡ true → IsBankOf (c ++ r ∷ []) (changed es e x)
  pub other : (c : List Record) (es : List Entry) (r : Record) → IsBankOf c es → changes_bank (catalog.asked r) ≡ false → IsBankOf (c ++ r ∷ []) es
  pub count : (c : List Record) (es : List Entry) → IsBankOf c es → length es ≡ length (catalog.entries c)
  pub there : (c : List Record) (es : List Entry) (e : ℕ) → IsBankOf c es → is_some (at_place es e) ≡ is_some (at_place (catalog.entries c) e)
  pub latest : (c : List Record) (es : List Entry) (e : ℕ) → IsBankOf c es → unwrap_or (latest es e) 0 ≡ catalog.latest c e
  pub version : (c : List Record) (es : List Entry) (e n : ℕ) → IsBankOf c es → version es e n ≡ catalog.version c e n
  pub refused : (c : List Record) (es : List Entry) (e : ℕ) (x : Request) → IsBankOf c es → change_cause es e x ≡ first_some (cause.missing_entry c e ∷ cause.change_cause c e x ∷ [])
