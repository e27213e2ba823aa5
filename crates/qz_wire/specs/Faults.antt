-- Where a line goes wrong, and why.
use Rattle.std.specs.Prelude.{◌≡◌, ℕ, Result, Ok, Err}
use Rattle.qz_grading.specs.declared.refusal.Refusal.{Refusal}
use Rattle.qz_grading.specs.declared.refusal.Refusal.TheVariants as refusal
use Rattle.gift_read.specs.Gift.{Fault as LineFault}
use Rattle.qz_wire.specs.declared.words.WordFault.{WordFault}
use Rattle.qz_wire.specs.declared.words.WordFault.TheVariants as fault

-- a word that isn't of its form, by its number and rule 0; or a line of the GIFT text in a word, and the rule that it breaks
pub record Fault : Type 0 where
  pub place : ℕ
  pub rule : ℕ

abbrev pub at_word : {A : Type 0} → Result A ℕ → Result A Fault
at_word (Ok x) = Ok x
at_word (Err number) = Err (record { place = number; rule = 0 })

abbrev pub at_line : {A : Type 0} → Result A LineFault → Result A Fault
at_line (Ok x) = Ok x
at_line (Err f) = Err (record { place = f.line; rule = f.rule })

-- ---- what a reader of the code answers

abbrev pub refusal_of : WordFault → Refusal
refusal_of (fault.Malformed place) = refusal.Malformed place 0
refusal_of fault.Memory = refusal.Memory

-- it refuses the first fault, or memory was wanting
abbrev pub Refuses : {Y : Type 0} → Refusal → Result Y Fault → Type 0
Refuses (refusal.Malformed place rule) reading = reading ≡ Err (record { place = place; rule = rule })
Refuses refusal.Memory reading = Unit {0}
Refuses r reading = ⊥

abbrev pub ReadsOr : {X Y : Type 0} → (X → Y) → Result X Refusal → Result Y Fault → Type 0
ReadsOr view (Ok x) reading = reading ≡ Ok (view x)
ReadsOr view (Err r) reading = Refuses r reading
