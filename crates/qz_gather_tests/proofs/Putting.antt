-- A file that is put on a shelf in memory isn't out.
use Rattle.std.proofs.Common.{◌≡◌, ℕ, Bool, true, false, List, Option, Some, refl, sym, ap, ◌∙◌, subst}
use Rattle.std.specs.Prelude.{bytes_eq}
use Rattle.std.proofs.lemmas.Bool.{true≢false}
use Rattle.std.proofs.lemmas.Slice.Eq.{bytes_eq-Decides}
use Rattle.qz_disks.specs.Changes.{History}
use Rattle.qz_disks.specs.Shelves.{NoneOutIn, Place, place}
use Rattle.qz_disks.specs.Slots.{Puts, is_taken, memory_files}
use Rattle.qz_disks.specs.declared.slots.Slot.{Slot}

put-by : (folder name other : List ℕ) (disk : History) (old new : List (Slot (Option History))) (b : Bool) → bytes_eq other name ≡ b → Puts (place folder name) (Some disk) old new → NoneOutIn folder (memory_files old) → (memory_files new).is_out (place folder other) ≡ false
put-by folder name other disk old new true is puts none =
    let same : other ≡ name = (bytes_eq-Decides other name).0 is in
    subst (λ (n : List ℕ). (memory_files new).is_out (place folder n) ≡ false) (sym same) (ap is_taken puts.there)
put-by folder name other disk old new false is puts none =
    let apart : other ≡ name → ⊥ = λ same. true≢false (sym ((bytes_eq-Decides other name).1 same) ∙ is) in
    ap is_taken (puts.others (place folder other) (λ at. apart (ap (λ (p : Place). p.name) at))) ∙ none.each other

pub none_out_put : (folder name : List ℕ) (disk : History) (old new : List (Slot (Option History))) → Puts (place folder name) (Some disk) old new → NoneOutIn folder (memory_files old) → NoneOutIn folder (memory_files new)
none_out_put folder name disk old new puts none = record { each = λ other. put-by folder name other disk old new (bytes_eq other name) refl puts none }
