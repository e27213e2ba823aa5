-- How a GIFT text is checked and laid out anew.
use Rattle.std.specs.Prelude.{◌≡◌, ◌⊎◌, ℕ, ◌≤◌, Bool, true, false, List, [], ◌∷◌, ◌++◌, length, Option, Some, None, Result, Ok, Err, codes, decimal}
use Rattle.std.specs.Io.KnownBytes.{Appends}
use Rattle.qz_outside.specs.Causes.{HasRisen}
use Rattle.qz_outside.specs.Sources.{AppendsFront}
use Rattle.qz_grading.specs.declared.question.Bank.{Bank}
use Rattle.qz_grading.specs.Canonical.{canonical}
use Rattle.gift_read.specs.Gift.{Fault, reading}
use Rattle.qz_ending.specs.declared.stop.Stop.{Stop}
use Rattle.qz_ending.specs.declared.stop.Stop.TheVariants as stop
use Rattle.qz_ending.specs.Endings.{Outside, Read, SourceFailed, MemoryWanted, PastLimit, text_limit}

-- what is said of a bank: how many questions it has, or its canonical text
abbrev pub bank_text : Bool → Bank → List ℕ
bank_text true bank = canonical bank
bank_text false bank = codes "questions " ++ (decimal (length bank.items) ++ 10 ∷ [])

-- the line and the rule of a fault
abbrev pub fault_text : Fault → List ℕ
fault_text fault = codes "malformed " ++ (decimal fault.line ++ (codes " " ++ (decimal fault.rule ++ 10 ∷ [])))

-- what is written for a text
abbrev pub text_for : Bool → Result Bank Fault → List ℕ
text_for writes (Ok bank) = bank_text writes bank
text_for writes (Err fault) = fault_text fault

-- what is read and written where it is done
pub record GiftDone (writes : Bool) (old new : Outside) : Type 0 where
  pub text : List ℕ
  pub bank : Bank
  pub read : Read old new text
  pub reads : reading text ≡ Ok bank
  pub written : Appends old.holds new.holds (bank_text writes bank)

-- the text has no reading, and this is its first fault
pub record GiftMalformed (old new : Outside) (fault : Fault) : Type 0 where
  pub text : List ℕ
  pub read : Read old new text
  pub reads : reading text ≡ Err fault
  pub written : Appends old.holds new.holds (fault_text fault)

-- a front of the output was written
pub record GiftCut (writes : Bool) (old new : Outside) : Type 0 where
  pub text : List ℕ
  pub read : Read old new text
  pub written : AppendsFront old.holds new.holds (text_for writes (reading text))

pub record GiftUnwritten (writes : Bool) (old new : Outside) : Type 0 where
  pub cut : GiftCut writes old new
  pub risen : HasRisen old.sink_faults new.sink_faults

abbrev pub GiftEnds : Bool → Outside → Outside → Option Stop → Type 0
GiftEnds writes old new None = GiftDone writes old new
GiftEnds writes old new (Some (stop.Unreadable line rule)) = GiftMalformed old new (record { line = line; rule = rule })
GiftEnds writes old new (Some stop.SourceFault) = SourceFailed old new
GiftEnds writes old new (Some stop.SinkFault) = GiftUnwritten writes old new
GiftEnds writes old new (Some stop.Memory) = MemoryWanted old new ⊎ GiftCut writes old new
GiftEnds writes old new (Some stop.TooLong) = PastLimit old new
GiftEnds writes old new (Some s) = ⊥

-- all of an output was written, and the command ends as this tells; or a front of it, where the sink failed or memory was wanting
abbrev pub Writes : {A : Type 0} → List ℕ → Option Stop → Option (List ℕ) → Option (List ℕ) → ℕ → ℕ → Result A Stop → Type 0
Writes out end old new before now (Ok done) = (end ≡ None) × Appends old new out
Writes out end old new before now (Err stop.SinkFault) = AppendsFront old new out × HasRisen before now
Writes out end old new before now (Err stop.Memory) = AppendsFront old new out
Writes out end old new before now (Err s) = (end ≡ Some s) × Appends old new out

-- Where no count rose and no memory was wanting, a text that has a reading and isn't too long is checked or laid out.
pub record GiftsAll (old new : Outside) (status : ℕ) : Type 0 where
  pub done : (text : List ℕ) (bank : Bank) → old.left ≡ Some text → length text ≤ text_limit → reading text ≡ Ok bank
      → ¬ HasRisen old.source_faults new.source_faults → ¬ HasRisen old.sink_faults new.sink_faults → (status ≡ 0) ⊎ (status ≡ 8)
