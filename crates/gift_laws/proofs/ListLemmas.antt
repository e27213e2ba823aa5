-- Tests that every element of a list passes, where lists are cut, joined and chosen from.
use Rattle.std.proofs.Common.{◌≡◌, ℕ, ◌+◌, Bool, true, not, ◌&&◌, List, [], ◌∷◌, refl, ap, ◌∙◌}
use Rattle.std.specs.List.{list_all, filter, slice_split, onto_first, flat_map, enumerate_from}
use Rattle.std.proofs.lemmas.Bool.{and_parts, and_from, cond_both}
use Rattle.gift_read.proofs.LimitLemmas.{list_all-flat_map}

pub list_all-implies : {X : Type 0} (p q : X → Bool) → ((x : X) → p x ≡ true → q x ≡ true) → (xs : List X) → list_all p xs ≡ true → list_all q xs ≡ true
list_all-implies p q implies [] all = refl
list_all-implies p q implies (x ∷ xs) all =
    let parts = and_parts (p x) (list_all p xs) all in
    and_from (q x) (list_all q xs) (implies x parts.0) (list_all-implies p q implies xs parts.1)

-- two tests at once
pub list_all-both : {X : Type 0} (p q : X → Bool) (xs : List X) → list_all p xs ≡ true → list_all q xs ≡ true → list_all (λ (x : X). p x && q x) xs ≡ true
list_all-both p q [] first second = refl
list_all-both p q (x ∷ xs) first second =
    let one = and_parts (p x) (list_all p xs) first in
    let other = and_parts (q x) (list_all q xs) second in
    and_from _ _ (and_from _ _ one.0 other.0) (list_all-both p q xs one.1 other.1)

pub flat_map-kept : {X Y : Type 0} (p : X → Bool) (q : Y → Bool) (f : X → List Y) → ((x : X) → p x ≡ true → list_all q (f x) ≡ true) → (xs : List X) → list_all p xs ≡ true → list_all q (flat_map f xs) ≡ true
flat_map-kept {X} p q f one xs all = list_all-flat_map q f xs ∙ list_all-implies p (λ (x : X). list_all q (f x)) one xs all

pub filter-kept : {X : Type 0} (p test : X → Bool) (xs : List X) → list_all p xs ≡ true → list_all p (filter test xs) ≡ true
filter-kept p test [] all = refl
filter-kept {X} p test (x ∷ xs) all =
    let parts = and_parts (p x) (list_all p xs) all in
    let later = filter-kept p test xs parts.1 in
    cond_both (test x) (x ∷ filter test xs) (filter test xs) (λ (t : List X). list_all p t ≡ true) (λ e. and_from _ _ parts.0 later) (λ e. later)

pub enumerate-kept : {X : Type 0} (p : X → Bool) (n : ℕ) (xs : List X) → list_all p xs ≡ true → list_all (λ (l : ℕ × X). p l.1) (enumerate_from n xs) ≡ true
enumerate-kept p n [] all = refl
enumerate-kept p n (x ∷ xs) all = let parts = and_parts (p x) (list_all p xs) all in and_from _ _ parts.0 (enumerate-kept p (n + 1) xs parts.1)

pub onto_first-kept : {X : Type 0} (p : X → Bool) (x : X) (parts : List (List X)) → p x ≡ true → list_all (list_all p) parts ≡ true → list_all (list_all p) (onto_first x parts) ≡ true
onto_first-kept p x [] first all = and_from _ _ (and_from _ _ first refl) refl
onto_first-kept p x (part ∷ parts) first all =
    let both = and_parts (list_all p part) (list_all (list_all p) parts) all in
    and_from _ _ (and_from _ _ first both.0) both.1

-- no element at which a list is cut is left
pub slice_split-kept : {X : Type 0} (p q : X → Bool) (xs : List X) → list_all q xs ≡ true → list_all (list_all (λ (x : X). q x && not (p x))) (slice_split p xs) ≡ true
slice_split-kept p q [] all = refl
slice_split-kept {X} p q (x ∷ xs) all =
    let r = λ (x : X). q x && not (p x) in
    let parts = and_parts (q x) (list_all q xs) all in
    let later = slice_split-kept p q xs parts.1 in
    cond_both (p x) ([] ∷ slice_split p xs) (onto_first x (slice_split p xs)) (λ (t : List (List X)). list_all (list_all r) t ≡ true)
    (λ e. later) (λ e. onto_first-kept r x (slice_split p xs) (and_from _ _ parts.0 (ap not e)) later)
