-- The first record of a shard that doesn't agree with a catalogue.
use Rattle.std.specs.Prelude.{◌≡◌, ℕ, ◌+◌, List, Option, None, Some}
use Rattle.qz_terms.specs.declared.record.Record.{Record}
use Rattle.qz_terms.specs.Legal.{AllAgree, IsAltered, IsBehind, IsLegal}
use Rattle.qz_agreement.specs.declared.disagreement.Disagreement.{Disagreement}
use Rattle.qz_agreement.specs.declared.disagreement.Disagreement.TheVariants as disagreement
use Rattle.qz_agreement.specs.Tests.{first_past}

-- the records of a shard, whichever it is and of however many
pub record AreOfShard (h : List Record) : Type 0 where
  pub index : ℕ
  pub count : ℕ
  pub legal : IsLegal index count h

-- the first that doesn't agree
abbrev pub IsFirst : List Record → List Record → Disagreement → Type 0
IsFirst c h (disagreement.Behind position) = IsBehind c h position
IsFirst c h (disagreement.Altered place) = IsAltered c h place

abbrev pub IsAnswer : List Record → List Record → Option Disagreement → Type 0
IsAnswer c h None = AllAgree c h
IsAnswer c h (Some d) = IsFirst c h d

-- what is told of a record that disagrees, at this index, over a catalogue of so many records
abbrev pub IsTold : ℕ → ℕ → Record → Disagreement → Type 0
IsTold count index r (disagreement.Behind position) = first_past count r ≡ Some position
IsTold count index r (disagreement.Altered place) = (place ≡ index + 1) × (first_past count r ≡ None)
