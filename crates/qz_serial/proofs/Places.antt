-- Places of a longer list, and of a list whose items are numbered.
use Rattle.std.proofs.Common.{◌≡◌, ℕ, zero, suc, ◌+◌, ◌-◌, Bool, true, false, List, [], ◌∷◌, ◌++◌, Option, Some, None, length, map, refl, ap, ◌∙◌}
use Rattle.std.specs.List.{enumerate_from}
use Rattle.std.specs.Prelude.{◌==◌, filter_map, is_none, is_some, slice_get}
use Rattle.std.proofs.lemmas.List.{map-append}
use Rattle.std.proofs.lemmas.List.Elements.{filter_map-append}
use Rattle.qz_grading.specs.declared.refusal.Refusal.{Refusal}
use Rattle.qz_grading.specs.Behaviours.{when}
use Rattle.qz_grading.specs.Grading.{at_place}
use Rattle.qz_lemmas.proofs.Lists.{enumerate-append}
use Rattle.qz_terms.proofs.Staying.{at-append}

-- ---- what is there

pub some-there : {A : Type 0} (o : Option A) → is_some o ≡ true → (x : A) × (o ≡ Some x)
some-there None some = absurd cc
some-there (Some x) some = (x, refl)

pub kept-there : {A : Type 0} (o : Option A) (r : Refusal) → when (is_none o) r ≡ None → (x : A) × (o ≡ Some x)
kept-there None r none = absurd cc
kept-there (Some x) r none = (x, refl)

-- it isn't missing in a longer list
pub present-append : {A : Type 0} (xs ys : List A) (n : ℕ) (r : Refusal) → when (is_none (at_place xs n)) r ≡ None → when (is_none (at_place (xs ++ ys) n)) r ≡ None
present-append xs ys n r there =
    let found = kept-there (at_place xs n) r there in
    rw (at-append xs ys n found.0 found.1) refl

-- ---- numbered items

pub numbered-append : {A B : Type 0} (f : ℕ × A → B) (n : ℕ) (xs ys : List A) → map f (enumerate_from n (xs ++ ys)) ≡ map f (enumerate_from n xs) ++ map f (enumerate_from (n + length xs) ys)
numbered-append f n xs ys = ap (map f) (enumerate-append n xs ys) ∙ map-append f (enumerate_from n xs) (enumerate_from (n + length xs) ys)

pub numbered-told-append : {A B : Type 0} (f : ℕ × A → Option B) (n : ℕ) (xs ys : List A) → filter_map f (enumerate_from n (xs ++ ys)) ≡ filter_map f (enumerate_from n xs) ++ filter_map f (enumerate_from (n + length xs) ys)
numbered-told-append f n xs ys = ap (filter_map f) (enumerate-append n xs ys) ∙ filter_map-append f (enumerate_from n xs) (enumerate_from (n + length xs) ys)

get-numbered : {A B : Type 0} (f : ℕ × A → B) (n : ℕ) (xs : List A) (i : ℕ) → is_none (slice_get (map f (enumerate_from n xs)) i) ≡ is_none (slice_get xs i)
get-numbered f n [] i = refl
get-numbered f n (x ∷ xs) zero = refl
get-numbered f n (x ∷ xs) (suc i) = get-numbered f (n + 1) xs i

numbered-by : {A B : Type 0} (f : ℕ × A → B) (n : ℕ) (xs : List A) (k : ℕ) (b : Bool) → (k == 0) ≡ b → is_none (at_place (map f (enumerate_from n xs)) k) ≡ is_none (at_place xs k)
numbered-by f n xs k true is = rw is refl
numbered-by f n xs k false is = rw is (get-numbered f n xs (k - 1))

-- numbering leaves every place
pub numbered-there : {A B : Type 0} (f : ℕ × A → B) (n : ℕ) (xs : List A) (k : ℕ) → is_none (at_place (map f (enumerate_from n xs)) k) ≡ is_none (at_place xs k)
numbered-there f n xs k = numbered-by f n xs k (k == 0) refl
