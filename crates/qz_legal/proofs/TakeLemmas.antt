-- What the tests of a record read: a slot that a place names, what a step is to it, and a key that no record has.
use Rattle.std.proofs.Common.{◌≡◌, ℕ, Bool, true, false, not, List, Option, Some, None, Ok, Err, Bor, length, ◌≤◌, inl, inr, refl, sym, ap, ◌∙◌, arith, option_map, ◌-◌, Result}
use Rattle.std.specs.List.{list_any}
use Rattle.std.specs.Option.{option_copied}
use Rattle.std.specs.Prelude.{filter, if◌then◌else◌, is_none, is_some, position, IfOk}
use Rattle.std.proofs.lemmas.Option.{slice_get_cases}
use Rattle.qz_grading.specs.declared.refusal.AttemptId.{AttemptId}
use Rattle.qz_grading.specs.Grading.{is_place}
use Rattle.qz_terms.specs.declared.people.Role.TheVariants as role
use Rattle.qz_terms.specs.declared.record.Record.{Record}
use Rattle.qz_terms.specs.Lists.{first_of}
use Rattle.qz_terms.specs.History.{slot, slot_count, start}
use Rattle.qz_terms.proofs.Standing.{none-passes}
use Rattle.qz_terms.proofs.Walks.{found_nowhere, found_up_to}
use Rattle.qz_book.specs.Held.{IsSound}
use Rattle.qz_legal.proofs.PutMade.{any-there, asker, begun-by, none-first, slot-there}
use Rattle.qz_book.proofs.SlotLemmas.{slot-some}

-- ---- slots

pub place-slot : (h : List Record) (a : AttemptId) (k : ℕ) → IsSound h → is_place (slot_count h a) k ≡ true → is_some (slot h a k) ≡ true
place-slot h a k sound place =
    let teacher = asker 0 role.Teacher in
    slot-some h teacher a k sound (slot-there h teacher a k (any-there h 0 role.Teacher a refl (begun-by (start h a) k place)) place)

-- ---- keys

any-at : (p : Record → Bool) (h : List Record) (n : ℕ) (any : Bool) → list_any p h ≡ any → position p h ≡ Some n → any ≡ true
any-at p h n true is at = refl
any-at p h n false is at =
    let found = found_up_to p h n at in
    let none : first_of (filter p h) ≡ None = none-first p h is in
    elim (slice_get_cases h n).1 [
      | inl w ↦ absurd (let first : first_of (filter p h) ≡ Some w.0 = found.item ∙ w.2 in cc)
      | inr w ↦ absurd (let inside = found.inside in let past : length h ≤ n = w.0 in omega arith)
    ]

none-by : (p : Record → Bool) (h : List Record) (o : Option ℕ) → o ≡ position p h → is_none o ≡ not (list_any p h)
none-by p h None at = ap not (sym (none-passes p h (found_nowhere p h (sym at))))
none-by p h (Some n) at = ap not (sym (any-at p h n (list_any p h) refl (sym at)))

none-copied : {T : Type 0} (f : T → ℕ) (o : Option (Bor T)) → is_none o ≡ is_none (option_map f (option_copied o))
none-copied f None = refl
none-copied f (Some x) = refl

pub is-none-by : {A : Type 0} (o : Option A) (none : Bool) → is_some o ≡ not none → none ≡ is_none o
is-none-by None true is = refl
is-none-by None false is = absurd cc
is-none-by (Some x) true is = absurd cc
is-none-by (Some x) false is = refl

pub new-by : {T : Type 0} (f : T → ℕ) (p : Record → Bool) (h : List Record) (o : Option (Bor T)) → option_map f (option_copied o) ≡ position p h → is_none o ≡ not (list_any p h)
new-by f p h o at = none-copied f o ∙ none-by p h (option_map f (option_copied o)) at

-- ---- answers

-- a fact of an answer that is there
pub if_ok-more : {A E : Type 0} (r : Result A E) (P Q : A → Type 0) → ((x : A) → P x → Q x) → IfOk r P → IfOk r Q
if_ok-more (Ok x) P Q more p = more x p
if_ok-more (Err e) P Q more p = tt
