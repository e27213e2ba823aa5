-- Sums of weights, and the first answer that passes.
use Rattle.std.proofs.Common.{◌≡◌, ℕ, suc, ◌+◌, ◌*◌, ◌/◌, ◌<◌, ◌≤◌, Bool, true, false, cond, ◌&&◌, nat_lt, nat_le, List, [], ◌∷◌, length, take, drop, get_or, map, ℤ, pos, neg_ℤ, ◌+ℤ◌, fold, Option, Some, None, refl, sym, ap, ◌∙◌, arith}
use Rattle.std.specs.Prelude.{find}
use Rattle.std.specs.List.{list_all}
use Rattle.std.specs.Option.{option_or}
use Rattle.std.proofs.Math.Nat.{div-lt_iff_lt-mul}
use Rattle.std.proofs.Math.Seq.{drop-cons}
use Rattle.std.proofs.lemmas.Bool.{ltb-true, leb-true}
use Rattle.std.proofs.lemmas.Int.{ints}
use Rattle.std.proofs.lemmas.List.{take_more, take-append-drop}
use Rattle.std.proofs.lemmas.List.Folds.{fold-map, find-append}
use Rattle.std.proofs.lemmas.List.Sums.{fold_more}
use Rattle.qz_grading.specs.declared.question.Choice.{Choice}
use Rattle.qz_decimal.specs.Numbers.{one, share, nearest_natural, IsWithin}
use Rattle.qz_grading.specs.Grading.{weight_at, ascend_from, is_place, are_places}

abbrev plus_weight : List Choice → ℤ → ℕ → ℤ
plus_weight choices sum n = sum +ℤ weight_at choices n

pub sum_more : (choices : List Choice) (ns : List ℕ) (i : ℕ) → i < length ns → fold ◌+ℤ◌ (pos 0) (map (weight_at choices) (take (i + 1) ns)) ≡ fold ◌+ℤ◌ (pos 0) (map (weight_at choices) (take i ns)) +ℤ weight_at choices (get_or ns i 0)
sum_more choices ns i inside =
    fold-map ◌+ℤ◌ (weight_at choices) (pos 0) (take (i + 1) ns)
    ∙ fold_more (plus_weight choices) (pos 0) ns i 0 inside
    ∙ ap (λ (s : ℤ). s +ℤ weight_at choices (get_or ns i 0)) (sym (fold-map ◌+ℤ◌ (weight_at choices) (pos 0) (take i ns)))

-- ---- a loop that looks for the first that passes, at x

find-one : {A : Type 0} (p : A → Bool) (x : A) (b : Bool) → p x ≡ b → find p (x ∷ []) ≡ cond b (Some x) None
find-one p x b is = rw is refl

pub find_more : {A : Type 0} (p : A → Bool) (xs : List A) (i : ℕ) (x : A) → i < length xs → x ≡ get_or xs i x → find p (take i xs) ≡ None → p x ≡ false → find p (take (i + 1) xs) ≡ None
find_more {A} p xs i x inside at none fails =
    ap (find p) (take_more xs i x inside) ∙ find-append p (take i xs) (get_or xs i x ∷ [])
    ∙ ap (λ (o : Option A). option_or o (find p (get_or xs i x ∷ []))) none
    ∙ ap (λ (y : A). find p (y ∷ [])) (sym at) ∙ find-one p x false fails

find-head : {A : Type 0} (p : A → Bool) (x : A) (xs : List A) → p x ≡ true → find p (x ∷ xs) ≡ Some x
find-head p x xs passes = rw passes refl

pub find_here : {A : Type 0} (p : A → Bool) (xs : List A) (i : ℕ) (x : A) → i < length xs → x ≡ get_or xs i x → find p (take i xs) ≡ None → p x ≡ true → find p xs ≡ Some x
find_here {A} p xs i x inside at none passes =
    ap (find p) (sym (take-append-drop i xs)) ∙ find-append p (take i xs) (drop i xs)
    ∙ ap (λ (o : Option A). option_or o (find p (drop i xs))) none
    ∙ ap (find p) (drop-cons xs i x inside) ∙ ap (λ (y : A). find p (y ∷ drop (suc i) xs)) (sym at) ∙ find-head p x (drop (suc i) xs) passes

-- ---- how many places are picked, and the share of right stems

and_left : (a b : Bool) → (a && b) ≡ true → a ≡ true
and_left true b h = refl
and_left false b h = h

and_right : (a b : Bool) → (a && b) ≡ true → b ≡ true
and_right true b h = h
and_right false b h = absurd cc

few_ascend : (low : ℕ) (ns : List ℕ) (count : ℕ) → ascend_from low ns ≡ true → list_all (is_place count) ns ≡ true → low ≤ count → low + length ns ≤ count
few_ascend low [] count up within start = omega arith
few_ascend low (n ∷ ns) count up within start =
    let above : low < n = ltb-true low n (and_left (nat_lt low n) (ascend_from n ns) up) in
    let here : is_place count n ≡ true = and_left (is_place count n) (list_all (is_place count) ns) within in
    let below : n ≤ count = leb-true n count (and_right (nat_le 1 n) (nat_le n count) here) in
    omega (arith, few_ascend n ns count (and_right (nat_lt low n) (ascend_from n ns) up) (and_right (is_place count n) (list_all (is_place count) ns) within) below)

-- places that ascend are no more than there are
pub few_places : (count : ℕ) (ns : List ℕ) → are_places count ns ≡ true → length ns ≤ count
few_places count [] some = absurd cc
few_places count (n ∷ ns) some =
    let few = few_ascend 0 (n ∷ ns) count (and_left (ascend_from 0 (n ∷ ns)) (list_all (is_place count) (n ∷ ns)) some) (and_right (ascend_from 0 (n ∷ ns)) (list_all (is_place count) (n ∷ ns)) some) (omega arith) in
    omega arith

nearest_natural-within : (n d k : ℕ) → 0 < d → n ≤ k * d → nearest_natural n d ≤ k
nearest_natural-within n d k positive most =
    let wide : 0 < 2 * d = omega arith in
    let below : 2 * n + d < (k + 1) * (2 * d) = omega arith in
    let q : (2 * n + d) / (2 * d) < k + 1 = (div-lt_iff_lt-mul {k = 2 * d} {x = 2 * n + d} {y = k + 1} wide).1 below in
    omega arith

-- a share is from 0 to 1
pub share_within : (right all : ℕ) → 0 < all → right ≤ all → IsWithin (neg_ℤ (pos one)) (pos one) (share right all)
share_within right all some part =
    let most : right * one ≤ one * all = omega arith in
    let q : nearest_natural (right * one) all ≤ one = nearest_natural-within (right * one) all one some most in
    (omega (arith, ints), omega (arith, ints))
