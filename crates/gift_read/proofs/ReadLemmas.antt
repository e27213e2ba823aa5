-- The items of a text, block by block.
use Rattle.std.proofs.Common.{◌≡◌, ℕ, List, [], ◌∷◌, ◌++◌, refl, append_assoc}
use Rattle.std.specs.Prelude.{Result, Ok, Err}
use Rattle.qz_grading.specs.declared.question.Item.{Item}
use Rattle.gift_read.specs.declared.reading.Entry.{Entry}
use Rattle.gift_read.specs.declared.reading.Entry.TheVariants as entry
use Rattle.gift_read.specs.declared.reading.Gathered.{Gathered}
use Rattle.gift_read.specs.Gift.{Fault, onto, followed, taken}

-- items in front of those that follow
abbrev pub in_front : List Item → Result (List Item) Fault → Result (List Item) Fault
in_front items (Ok later) = Ok (items ++ later)
in_front items (Err fault) = Err fault

pub in_front-onto : (items : List Item) (item : Item) (later : Result (List Item) Fault) → in_front items (onto item later) ≡ in_front (items ++ item ∷ []) later
in_front-onto items item (Ok later) = rw append_assoc refl
in_front-onto items item (Err fault) = refl

-- a block is read before those that follow
pub in_front-taken : (gathered : Gathered) (e : Entry) (later : List (List ℕ) → Result (List Item) Fault)
    → in_front gathered.items (followed gathered.names (Ok e) later) ≡ in_front (taken gathered e).items (later (taken gathered e).names)
in_front-taken gathered (entry.Category path) later = refl
in_front-taken gathered (entry.Asked q) later = in_front-onto gathered.items (record { category = gathered.names; question = q }) (later gathered.names)
