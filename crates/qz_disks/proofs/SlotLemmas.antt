-- What stands in the slots of places, after one was written or added.
use Rattle.std.proofs.Common.{◌≡◌, ◌≢◌, ◌⊎◌, inl, inr, ⊎_elim, ℕ, ◌<◌, Bool, true, false, cond, List, [], ◌∷◌, ◌++◌, length, Option, Some, None, is_some, refl, sym, ◌∙◌, ap, subst, get_or, ◌≤◌, arith}
use Rattle.std.proofs.lemmas.Bool.{cases_Bool, true≢false}
use Rattle.std.proofs.lemmas.Bool.Decides.{Decides-and, nat_tests}
use Rattle.std.proofs.lemmas.Slice.Eq.{bytes_eq-Decides}
use Rattle.std.proofs.lemmas.List.Folds.{find_at, find-set, find_past, find-append}
use Rattle.std.proofs.lemmas.List.Quantifiers.{position-Some}
use Rattle.std.proofs.lemmas.Option.{slice_get-get_or, slice_get_cases}
use Rattle.std.proofs.Math.ListN.{set}
use Rattle.std.specs.Prelude.{bytes_eq, find, position, option_and_then, option_map, nat_lt, slice_get, unwrap_or, ◌&&◌}
use Rattle.std.specs.List.{position_or_len}
use Rattle.std.specs.Option.{option_or}
use Rattle.qz_disks.specs.Changes.{History}
use Rattle.qz_disks.specs.Shelves.{Place, place}
use Rattle.qz_disks.specs.Slots.{is_at, stands_at, disk_at, empty_disk, Cabinet, IsSound, Puts}
use Rattle.qz_disks.specs.declared.slots.Slot.{Slot}

at_is : {T : Type 0} (at : Place) (slot : Slot T) → is_at at slot ≡ true → place slot.folder slot.name ≡ at
at_is at slot h =
    let same = (Decides-and _ _ (bytes_eq-Decides slot.folder at.folder) (bytes_eq-Decides slot.name at.name)).0 h in
    ap (λ (f : List ℕ). place f slot.name) same.0 ∙ ap (λ (n : List ℕ). place at.folder n) same.1

own_place : {T : Type 0} (slot : Slot T) → is_at (place slot.folder slot.name) slot ≡ true
own_place slot = (Decides-and _ _ (bytes_eq-Decides slot.folder slot.folder) (bytes_eq-Decides slot.name slot.name)).1 (refl, refl)

elsewhere : {T : Type 0} (at other : Place) (slot : Slot T) → is_at at slot ≡ true → other ≢ at → is_at other slot ≡ false
elsewhere at other slot here ne = ⊎_elim
    (λ also. absurd (ne (sym (at_is other slot also) ∙ at_is at slot here)))
    (λ no. no)
    (cases_Bool (is_at other slot))

index_of : {X : Type 0} (p : X → Bool) (xs : List X) (i : ℕ) (t : Bool) → nat_lt (position_or_len p xs) (length xs) ≡ t
    → cond t (Some (position_or_len p xs)) None ≡ Some i → i ≡ position_or_len p xs
index_of p xs i true is found = cc
index_of p xs i false is found = cc

index_is : {X : Type 0} (p : X → Bool) (xs : List X) (i : ℕ) → position p xs ≡ Some i → i ≡ position_or_len p xs
index_is p xs i found = index_of p xs i (nat_lt (position_or_len p xs) (length xs)) refl found

pub found_at : {T : Type 0} (at : Place) (slots : List (Slot T)) (i : ℕ) (d : Slot T) → position (is_at at) slots ≡ Some i
    → stands_at at slots ≡ Some (get_or slots i d).holds
found_at at slots i d found =
    let here = position-Some (is_at at) slots i d found in
    let first = index_is (is_at at) slots i found in
    ap (option_map (λ (slot : Slot _). slot.holds)) (find_at (is_at at) slots ∙ ap (slice_get slots) (sym first) ∙ slice_get-get_or slots i d here.0)

past_end : {X : Type 0} (p : X → Bool) (xs : List X) (t : Bool) → nat_lt (position_or_len p xs) (length xs) ≡ t
    → cond t (Some (position_or_len p xs)) None ≡ None → nat_lt (position_or_len p xs) (length xs) ≡ false
past_end p xs true is found = absurd cc
past_end p xs false is found = is

none_found : {X : Type 0} (p : X → Bool) (xs : List X) → position p xs ≡ None → find p xs ≡ None
none_found p xs found =
    let past = past_end p xs (nat_lt (position_or_len p xs) (length xs)) refl found in
    let le : length xs ≤ position_or_len p xs = grind (arith, nat_tests, past) in
    find_at p xs ∙ ⊎_elim
    (λ inside. absurd (let lt : position_or_len p xs < length xs = inside.1 in omega arith))
    (λ outside. outside.1)
    ((slice_get_cases xs (position_or_len p xs)).1)

pub absent : {T : Type 0} (at : Place) (slots : List (Slot T)) → position (is_at at) slots ≡ None → stands_at at slots ≡ None
absent at slots found = ap (option_map (λ (slot : Slot _). slot.holds)) (none_found (is_at at) slots found)

pub not_absent : {T : Type 0} (at : Place) (slots : List (Slot T)) → is_some (stands_at at slots) ≡ true → position (is_at at) slots ≡ None → ⊥
not_absent at slots there found =
    let none = absent at slots found in
    let opposite : is_some (stands_at at slots) ≡ false = ap (λ (o : Option _). is_some o) none in
    cc

-- the slot of a place, holding something else
abbrev pub holding : {T : Type 0} → Slot T → T → Slot T
holding slot value = record { folder = slot.folder; name = slot.name; holds = value }

pub puts_set : {T : Type 0} (at : Place) (value : T) (slots : List (Slot T)) (i : ℕ) (d : Slot T) → position (is_at at) slots ≡ Some i
    → Puts at value slots (set slots i (holding (get_or slots i d) value))
puts_set at value slots i d found =
    let here = position-Some (is_at at) slots i d found in
    let first = index_is (is_at at) slots i found in
    record {
      there = ap (option_map (λ (slot : Slot _). slot.holds)) (find-set (is_at at) slots i (holding (get_or slots i d) value) first here.0 here.1);
      others = λ other ne.
          let apart = elsewhere at other (get_or slots i d) here.1 ne in
          ap (option_map (λ (slot : Slot _). slot.holds)) (find_past (is_at other) slots i (holding (get_or slots i d) value) d apart apart);
    }

added : {T : Type 0} (p : Slot T → Bool) (slot : Slot T) (o : Option (Slot T)) → p slot ≡ true → option_map (λ s. s.holds) o ≡ None
    → option_or o (find p (slot ∷ [])) ≡ Some slot
added p slot None here none = rw here refl
added p slot (Some s) here none = absurd cc

passed : {T : Type 0} (p : Slot T → Bool) (slot : Slot T) (o : Option (Slot T)) → p slot ≡ false → option_or o (find p (slot ∷ [])) ≡ o
passed p slot None apart = rw apart refl
passed p slot (Some s) apart = refl

pub puts_added : {T : Type 0} (slots : List (Slot T)) (slot : Slot T) → stands_at (place slot.folder slot.name) slots ≡ None
    → Puts (place slot.folder slot.name) slot.holds slots (slots ++ slot ∷ [])
puts_added slots slot none =
    let at = place slot.folder slot.name in
    record {
      there = ap (option_map (λ (s : Slot _). s.holds)) (find-append (is_at at) slots (slot ∷ []) ∙ added (is_at at) slot (find (is_at at) slots) (own_place slot) none);
      others = λ other ne. ap (option_map (λ (s : Slot _). s.holds))
          (find-append (is_at other) slots (slot ∷ []) ∙ passed (is_at other) slot (find (is_at other) slots) (elsewhere at other slot (own_place slot) ne));
    }

-- two places are one or two
pub apart_or_same : (at other : Place) → (at ≡ other) ⊎ (at ≢ other)
apart_or_same at other =
    let same = Decides-and _ _ (bytes_eq-Decides at.folder other.folder) (bytes_eq-Decides at.name other.name) in ⊎_elim
    (λ yes. inl (ap (λ (f : List ℕ). place f at.name) (same.0 yes).0 ∙ ap (λ (n : List ℕ). place other.folder n) (same.0 yes).1))
    (λ no. inr (λ is. absurd (true≢false (sym (same.1 (ap (λ (p : Place). p.folder) is, ap (λ (p : Place). p.name) is)) ∙ no))))
    (cases_Bool (bytes_eq at.folder other.folder && bytes_eq at.name other.name))

-- what is put has no call that is to fail, and neither has a disk that stood on the shelf
disks_put : (changed : Place) (disk : Option History) (old new : List (Slot (Option History))) → Puts changed disk old new → (unwrap_or disk empty_disk).failing ≡ []
    → ((at : Place) → (disk_at at old).failing ≡ []) → (at : Place) → (disk_at at new).failing ≡ []
disks_put changed disk old new puts here before at =
    let failing = λ (o : Option (Option History)). (unwrap_or (option_and_then (λ (d : Option History). d) o) empty_disk).failing in ⊎_elim
    (λ same. subst (λ p. (disk_at p new).failing ≡ []) (sym same) (ap failing puts.there ∙ here))
    (λ apart. ap failing (puts.others at apart) ∙ before at)
    (apart_or_same at changed)

-- so a shelf stays sound
pub put_sound : (changed : Place) (disk : Option History) (old new : Cabinet) → IsSound old → Puts changed disk old.slots new.slots → new.failing ≡ old.failing → (unwrap_or disk empty_disk).failing ≡ [] → IsSound new
put_sound changed disk old new sound puts same here = record {
  own = same ∙ sound.own;
  disks = disks_put changed disk old.slots new.slots puts here sound.disks;
}
