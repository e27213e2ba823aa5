-- What the records of a list tell, counted and numbered from 1.
use Rattle.std.proofs.Common.{◌≡◌, ℕ, zero, suc, ◌+◌, ◌-◌, ◌<◌, ◌≤◌, inl, inr, Bool, true, false, not, List, [], ◌∷◌, ◌++◌, Option, Some, None, option_map, length, map, refl, sym, ap, ◌∙◌, arith, length-append, append-nil}
use Rattle.std.specs.Int.{from_bool}
use Rattle.std.specs.List.{enumerate_from, list_any}
use Rattle.std.specs.Option.{option_or}
use Rattle.std.specs.Prelude.{◌==◌, filter, if◌then◌else◌, is_none, is_some, option_and_then, option_to_list, position, slice_get}
use Rattle.std.proofs.Math.Dec.{eqb-suc-suc, eqb-zero-suc}
use Rattle.std.proofs.lemmas.Bool.{eqb-true, eqb-false}
use Rattle.std.proofs.lemmas.Bool.Decides.{nat_tests}
use Rattle.std.proofs.lemmas.List.{length-take-le}
use Rattle.std.proofs.lemmas.Option.{slice_get_past, slice_get_cases}
use Rattle.qz_lemmas.proofs.Options.{or-none}
use Rattle.qz_grading.specs.Grading.{at_place, is_place}
use Rattle.qz_grading.specs.declared.refusal.Refusal.{Refusal}
use Rattle.qz_grading.specs.Behaviours.{when}
use Rattle.qz_terms.specs.Lists.{first_of, only_if, up_to_first}
use Rattle.qz_terms.proofs.Walks.{found_up_to}

-- ---- the place of the first that passes

pub placed-length : {A : Type 0} (p : A → Bool) (xs : List A) (n : ℕ) → position p xs ≡ Some n → length (up_to_first p xs) ≡ n + 1
placed-length p xs n is =
    let at = found_up_to p xs n is in
    ap (λ (l : List _). length l) at.up_to ∙ length-take-le (n + 1) xs (let inside = at.inside in omega arith)

there-by : {A : Type 0} (xs : List A) (n : ℕ) (o : Option A) → slice_get xs n ≡ o → n < length xs → is_some o ≡ true
there-by xs n None is inside = elim (slice_get_cases xs n).1 [ inl w ↦ absurd cc | inr w ↦ absurd (omega arith) ]
there-by xs n (Some x) is inside = refl

pub placed-there : {A : Type 0} (p : A → Bool) (xs : List A) (n : ℕ) → position p xs ≡ Some n → is_some (first_of (filter p xs)) ≡ true
placed-there p xs n is = let at = found_up_to p xs n is in ap is_some at.item ∙ there-by xs n (slice_get xs n) refl at.inside

any-first-step : {A : Type 0} (p : A → Bool) (x : A) (xs : List A) (b : Bool) → p x ≡ b → list_any p xs ≡ is_some (first_of (filter p xs)) → list_any p (x ∷ xs) ≡ is_some (first_of (filter p (x ∷ xs)))
any-first-step p x xs true is rest = rw is refl
any-first-step p x xs false is rest = rw is rest

-- one passes where there is a first
pub any-first : {A : Type 0} (p : A → Bool) (xs : List A) → list_any p xs ≡ is_some (first_of (filter p xs))
any-first p [] = refl
any-first p (x ∷ xs) = any-first-step p x xs (p x) refl (any-first p xs)

-- ---- the first that passes, of one more

first-alone : {A : Type 0} (p : A → Bool) (x : A) (b : Bool) → p x ≡ b → first_of (filter p (x ∷ [])) ≡ (if b then Some x else None)
first-alone p x true is = rw is refl
first-alone p x false is = rw is refl

first-more-step : {A : Type 0} (p : A → Bool) (y : A) (xs : List A) (o : Option A) (b : Bool) → p y ≡ b → first_of (filter p (xs ++ option_to_list o)) ≡ option_or (first_of (filter p xs)) (option_and_then (only_if p) o) → first_of (filter p ((y ∷ xs) ++ option_to_list o)) ≡ option_or (first_of (filter p (y ∷ xs))) (option_and_then (only_if p) o)
first-more-step p y xs o true is rest = rw is refl
first-more-step p y xs o false is rest = rw is rest

pub first-more : {A : Type 0} (p : A → Bool) (xs : List A) (o : Option A) → first_of (filter p (xs ++ option_to_list o)) ≡ option_or (first_of (filter p xs)) (option_and_then (only_if p) o)
first-more p [] None = refl
first-more p [] (Some x) = first-alone p x (p x) refl
first-more p (y ∷ xs) o = first-more-step p y xs o (p y) refl (first-more p xs o)

-- ---- by number

get-end : {A : Type 0} (xs : List A) (x : A) (n : ℕ) → slice_get (xs ++ x ∷ []) n ≡ option_or (slice_get xs n) (if length xs == n then Some x else None)
get-end [] x zero = refl
get-end [] x (suc n) = rw (eqb-zero-suc n) refl
get-end (y ∷ xs) x zero = refl
get-end (y ∷ xs) x (suc n) = get-end xs x n ∙ ap (λ (b : Bool). option_or (slice_get xs n) (if b then Some x else None)) (sym (eqb-suc-suc (length xs) n))

shifted : (m n : ℕ) (b : Bool) → (m + 1 == n) ≡ b → (n == 0) ≡ false → (m == n - 1) ≡ b
shifted m n true is some = let same = eqb-true (m + 1) n is in grind (arith, nat_tests)
shifted m n false is some = let other = eqb-false (m + 1) n is in let above = eqb-false n 0 some in grind (arith, nat_tests)

at-end-by : {A : Type 0} (xs : List A) (x : A) (n : ℕ) (b : Bool) → (n == 0) ≡ b → at_place (xs ++ x ∷ []) n ≡ option_or (at_place xs n) (if length xs + 1 == n then Some x else None)
at-end-by xs x n true is =
    let none = eqb-true n 0 is in
    let other : (length xs + 1 == n) ≡ false = grind (arith, nat_tests) in
    rw (is, other) refl
at-end-by xs x n false is = rw is (get-end xs x (n - 1) ∙ ap (λ (b : Bool). option_or (slice_get xs (n - 1)) (if b then Some x else None)) (shifted (length xs) n (length xs + 1 == n) refl is))

at-more-none : {A : Type 0} (o : Option A) (b : Bool) → o ≡ option_or o (if b then None else None)
at-more-none o true = sym (or-none o)
at-more-none o false = sym (or-none o)

pub at-more : {A : Type 0} (xs : List A) (o : Option A) (n : ℕ) → at_place (xs ++ option_to_list o) n ≡ option_or (at_place xs n) (if length xs + from_bool (is_some o) == n then o else None)
at-more xs None n = ap (λ (l : List _). at_place l n) (append-nil xs) ∙ at-more-none (at_place xs n) (length xs + 0 == n)
at-more xs (Some x) n = at-end-by xs x n (n == 0) refl

-- how many are told, of one more
pub count-more : {A : Type 0} (xs : List A) (o : Option A) → length (xs ++ option_to_list o) ≡ length xs + from_bool (is_some o)
count-more xs None = length-append xs []
count-more xs (Some x) = length-append xs (x ∷ [])

pub more-few : (count i more : ℕ) (b : Bool) → more ≡ from_bool b → count ≤ i → count + more ≤ i + 1
more-few count i more true is few = omega arith
more-few count i more false is few = omega arith

-- ---- what is there

pub at-there : {A : Type 0} (xs : List A) (n : ℕ) (b c : Bool) → (n == 0) ≡ b → is_place (length xs) n ≡ c → is_some (at_place xs n) ≡ c
at-there xs n true true zero_is inside = absurd (let none = eqb-true n 0 zero_is in let above : 1 ≤ n = grind (arith, nat_tests) in omega arith)
at-there xs n true false zero_is inside = rw zero_is refl
at-there xs n false true zero_is inside =
    let above = eqb-false n 0 zero_is in
    let within : n ≤ length xs = grind (arith, nat_tests) in
    rw zero_is (there-by xs (n - 1) (slice_get xs (n - 1)) refl (omega arith))
at-there xs n false false zero_is inside =
    let above = eqb-false n 0 zero_is in
    let past : length xs < n = grind (arith, nat_tests) in
    rw zero_is (ap is_some (slice_get_past xs (n - 1) (omega arith)))

-- a number that is there is one from 1 to the number of items
pub there-is : {A : Type 0} (xs : List A) (n : ℕ) → is_some (at_place xs n) ≡ is_place (length xs) n
there-is xs n = at-there xs n (n == 0) (is_place (length xs) n) refl refl

none-not : {A : Type 0} (o : Option A) → is_none o ≡ not (is_some o)
none-not None = refl
none-not (Some x) = refl

pub missing-by : {A : Type 0} (xs : List A) (count n : ℕ) (r : Refusal) → count ≡ length xs → when (not (is_place count n)) r ≡ when (is_none (at_place xs n)) r
missing-by xs count n r is = rw is (sym (ap (λ (b : Bool). when b r) (none-not (at_place xs n) ∙ ap not (there-is xs n))))

-- ---- items with their numbers

-- one more item, which has the next number
pub numbered-more : {A B : Type 0} (f : ℕ × A → B) (k : ℕ) (xs : List A) (o : Option A) → map f (enumerate_from k (xs ++ option_to_list o)) ≡ map f (enumerate_from k xs) ++ option_to_list (option_map (λ x. f (k + length xs, x)) o)
numbered-more f k [] None = refl
numbered-more f k [] (Some x) = let place : k ≡ k + 0 = omega arith in ap (λ n. f (n, x) ∷ []) place
numbered-more f k (y ∷ xs) o =
    let place : k + 1 + length xs ≡ k + suc (length xs) = omega arith in
    ap (λ (t : List _). f (k, y) ∷ t) (numbered-more f (k + 1) xs o ∙ ap (λ n. map f (enumerate_from (k + 1) xs) ++ option_to_list (option_map (λ x. f (n, x)) o)) place)
