-- The slots of a quiz, and since when it is ready.
use Rattle.std.proofs.Common.{◌≡◌, ℕ, ◌+◌, ◌<◌, ◌≤◌, ◌⊎◌, inl, inr, Bool, true, false, List, Option, Some, None, option_map, length, get_or, refl, sym, ap, ◌∙◌, arith, ℤ}
use Rattle.std.specs.List.{enumerate_from}
use Rattle.std.specs.Prelude.{is_some, map, option_and_then, position, slice_get, unwrap_or, nat_le, ◌&&◌, ◌==◌, ◌-◌}
use Rattle.std.proofs.Common.{suc, zero, [], ◌∷◌}
use Rattle.std.proofs.lemmas.Bool.{eqb-true, leb-true}
use Rattle.qz_lemmas.proofs.Options.{none-by}
use Rattle.qz_grading.specs.Grading.{at_place, is_place}
use Rattle.qz_terms.specs.declared.plan.Planned.{Planned}
use Rattle.qz_terms.specs.declared.record.Record.{Record}
use Rattle.qz_terms.specs.Catalog.{latest, remaxed, is_ready, readies, ready_at, slots, slots_made}
use Rattle.qz_terms.specs.Cause.{slot_entry}
use Rattle.qz_terms.proofs.Walks.{found_nowhere}
use Rattle.qz_roster.specs.declared.quizzes.Slot.{Slot}
use Rattle.qz_roster.specs.Quizzes.{AreSlotsOf, made}
use Rattle.qz_roster.proofs.QuizLemmas.{at-map}
use Rattle.qz_roster.proofs.Reading.{at-get}
use Rattle.qz_catalog.specs.Readings.{planned_by, slot_over}
use Rattle.qz_roster.proofs.Telling.{there-is, any-first, placed-length, placed-there}

-- ---- the entry of a slot

get-over : (c : List Record) (q k j : ℕ) (ss : List (ℕ × ℤ)) → option_map (λ (s : Planned). s.entry) (slice_get (map (slot_over c q) (enumerate_from k ss)) j) ≡ option_map (λ (s : ℕ × ℤ). s.0) (slice_get ss j)
get-over c q k j [] = refl
get-over c q k zero (s ∷ ss) = refl
get-over c q k (suc j) (s ∷ ss) = get-over c q (k + 1) j ss

place-by : (c : List Record) (q k : ℕ) (b : Bool) → (k == 0) ≡ b → option_map (λ (s : Planned). s.entry) (at_place (slots c q) k) ≡ option_map (λ (s : ℕ × ℤ). s.0) (at_place (slots_made c q) k)
place-by c q k true is = rw is refl
place-by c q k false is = rw is (get-over c q 1 (k - 1) (slots_made c q))

pub entry-told : (c : List Record) (q k : ℕ) → slot_entry c q k ≡ unwrap_or (option_map (λ (s : ℕ × ℤ). s.0) (at_place (slots_made c q) k)) 0
entry-told c q k = ap (λ (o : Option ℕ). unwrap_or o 0) (place-by c q k (k == 0) refl)

-- ---- ready

pub ready-nowhere : (c : List Record) (q : ℕ) → position (readies q) c ≡ None → ready_at c q ≡ None
ready-nowhere c q none = let not_ready : is_ready c q ≡ false = any-first (readies q) c ∙ ap is_some (found_nowhere (readies q) c none) in rw not_ready refl

pub ready-there : (c : List Record) (q n : ℕ) → position (readies q) c ≡ Some n → ready_at c q ≡ Some (n + 1)
ready-there c q n found =
    let ready : is_ready c q ≡ true = any-first (readies q) c ∙ placed-there (readies q) c n found in
    rw ready (ap Some (placed-length (readies q) c n found))

pub ready-told : (c : List Record) (q : ℕ) (o : Option ℕ) → position (readies q) c ≡ o → is_some o ≡ is_ready c q
ready-told c q None is = sym (any-first (readies q) c ∙ ap is_some (found_nowhere (readies q) c is))
ready-told c q (Some n) is = sym (any-first (readies q) c ∙ placed-there (readies q) c n is)

-- ---- the slots that are kept

entry-by : (c : List Record) (q k : ℕ) (ss : List Slot) (o : Option Slot) → AreSlotsOf c q ss → at_place ss k ≡ o → slot_entry c q k ≡ unwrap_or (option_map (λ (s : Slot). s.entry) o) 0
entry-by c q k ss o are at =
    entry-told c q k ∙ ap (λ (l : List (ℕ × ℤ)). unwrap_or (option_map (λ (s : ℕ × ℤ). s.0) (at_place l k)) 0) (sym are.slots)
    ∙ ap (λ (p : Option (ℕ × ℤ)). unwrap_or (option_map (λ (s : ℕ × ℤ). s.0) p) 0) (at-map made ss k ∙ ap (option_map made) at) ∙ by o
  where
    by : (o : Option Slot) → unwrap_or (option_map (λ (s : ℕ × ℤ). s.0) (option_map made o)) 0 ≡ unwrap_or (option_map (λ (s : Slot). s.entry) o) 0
    by None = refl
    by (Some s) = refl

pub entry-at : (c : List Record) (q k n : ℕ) (ss : List Slot) (d : Slot) → AreSlotsOf c q ss → n ≡ k → 1 ≤ n → n ≤ length ss → (get_or ss (n - 1) d).entry ≡ slot_entry c q k
entry-at c q k n ss d are same from inside =
    sym (ap (slot_entry c q) (sym same) ∙ entry-by c q n ss (Some (get_or ss (n - 1) d)) are (at-get ss n d from inside))

place-past-by : (count n : ℕ) (a b : Bool) → nat_le 1 n ≡ a → nat_le n count ≡ b → (n < 1) ⊎ (count < n) → a && b ≡ false
place-past-by count n true true one two past = let from = leb-true 1 n one in let inside = leb-true n count two in absurd (elim past [ inl none ↦ omega arith | inr beyond ↦ omega arith ])
place-past-by count n true false one two past = refl
place-past-by count n false b one two past = refl

pub place-past : (count n : ℕ) → (n < 1) ⊎ (count < n) → is_place count n ≡ false
place-past count n past = place-past-by count n (nat_le 1 n) (nat_le n count) refl refl past

pub entry-past : (c : List Record) (q k n : ℕ) (ss : List Slot) → AreSlotsOf c q ss → n ≡ k → is_place (length ss) n ≡ false → 0 ≡ slot_entry c q k
entry-past c q k n ss are same past =
    sym (ap (slot_entry c q) (sym same) ∙ entry-by c q n ss None are (none-by (at_place ss n) (there-is ss n ∙ past)))

-- a slot as all the records give it
abbrev planned_with : List Record → Slot → Option ℤ → Planned
planned_with c s m = record { entry = s.entry; version = latest c s.entry; max = unwrap_or m s.first }

laid-from : (c : List Record) (q n : ℕ) (ss : List Slot) → ((j : ℕ) → option_and_then (λ (s : Slot). s.anew) (slice_get ss j) ≡ remaxed c q (n + j)) → map (planned_by c) ss ≡ map (slot_over c q) (enumerate_from n (map made ss))
laid-from c q n [] anew = refl
laid-from c q n (s ∷ ss) anew =
    let here : n + 0 ≡ n = omega arith in
    let head : s.anew ≡ remaxed c q n = anew 0 ∙ ap (remaxed c q) here in
    let one : planned_by c s ≡ slot_over c q (n, made s) = ap (λ (m : Option ℤ). planned_with c s m) head in
    ap (λ (x : Planned). x ∷ map (planned_by c) ss) one
    ∙ ap (λ (xs : List Planned). slot_over c q (n, made s) ∷ xs) (laid-from c q (n + 1) ss (λ j. anew (suc j) ∙ ap (remaxed c q) (let next : n + suc j ≡ n + 1 + j = omega arith in next)))

at-next : {A : Type 0} (xs : List A) (j : ℕ) → at_place xs (1 + j) ≡ slice_get xs j
at-next xs j = by (1 + j == 0) refl
  where
    by : (b : Bool) → (1 + j == 0) ≡ b → at_place xs (1 + j) ≡ slice_get xs j
    by true is = absurd (let none = eqb-true (1 + j) 0 is in omega arith)
    by false is = rw is (ap (slice_get xs) (let same : 1 + j - 1 ≡ j = omega arith in same))

pub laid-out : (c : List Record) (q : ℕ) (ss : List Slot) → AreSlotsOf c q ss → map (planned_by c) ss ≡ slots c q
laid-out c q ss are =
    laid-from c q 1 ss (λ j. ap (option_and_then (λ (s : Slot). s.anew)) (sym (at-next ss j)) ∙ are.anew (1 + j))
    ∙ ap (λ (l : List (ℕ × ℤ)). map (slot_over c q) (enumerate_from 1 l)) are.slots
