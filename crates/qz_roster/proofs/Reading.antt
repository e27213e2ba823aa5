-- What is read of a list with one record more.
use Rattle.std.proofs.Common.{◌≡◌, ℕ, zero, suc, ◌+◌, ◌-◌, ◌<◌, ◌≤◌, Bool, true, false, List, [], ◌∷◌, ◌++◌, Option, Some, None, option_map, length, get_or, map, refl, sym, ap, ◌∙◌, arith}
use Rattle.std.specs.List.{enumerate_from}
use Rattle.std.specs.Option.{option_or}
use Rattle.std.specs.Prelude.{◌==◌, filter, filter_map, if◌then◌else◌, option_and_then, option_to_list, slice_get}
use Rattle.std.proofs.lemmas.List.{length-map}
use Rattle.std.proofs.lemmas.List.FromFn.{length-enumerate_from}
use Rattle.std.proofs.Math.ListN.{set}
use Rattle.std.proofs.lemmas.Bool.{eqb-false, eqb-true}
use Rattle.std.proofs.lemmas.Option.{slice_get-get_or}
use Rattle.qz_lemmas.proofs.Options.{or-none}
use Rattle.qz_grading.specs.Grading.{at_place}
use Rattle.qz_terms.specs.declared.people.User.{User}
use Rattle.qz_terms.specs.declared.record.Record.{Record}
use Rattle.qz_terms.specs.Catalog.{Person, has_token, made_user, user_of_token, user_with, users}
use Rattle.qz_terms.specs.Lists.{first_of, only_if}
use Rattle.qz_terms.proofs.Walks.{all_of-push}
use Rattle.qz_roster.proofs.Telling.{first-more, numbered-more}

-- ---- the first that passes

-- ---- what stands at a place

get-set_same : {A : Type 0} (xs : List A) (i : ℕ) (y : A) → i < length xs → slice_get (set xs i y) i ≡ Some y
get-set_same [] i y inside = absurd (omega arith)
get-set_same (x ∷ xs) zero y inside = refl
get-set_same (x ∷ xs) (suc i) y inside = get-set_same xs i y (let within : suc i < suc (length xs) = inside in omega arith)

get-set_other : {A : Type 0} (xs : List A) (i j : ℕ) (y : A) → (i ≡ j → ⊥) → slice_get (set xs i y) j ≡ slice_get xs j
get-set_other [] i j y apart = refl
get-set_other (x ∷ xs) zero zero y apart = absurd (apart refl)
get-set_other (x ∷ xs) zero (suc j) y apart = refl
get-set_other (x ∷ xs) (suc i) zero y apart = refl
get-set_other (x ∷ xs) (suc i) (suc j) y apart = get-set_other xs i j y (λ e. apart (ap suc e))

at-set-by : {A : Type 0} (xs : List A) (i n : ℕ) (y : A) (z b : Bool) → (n == 0) ≡ z → (i + 1 == n) ≡ b → i < length xs → at_place (set xs i y) n ≡ (if b then Some y else at_place xs n)
at-set-by xs i n y true true zero_is is inside = absurd (let none = eqb-true n 0 zero_is in let same = eqb-true (i + 1) n is in omega arith)
at-set-by xs i n y true false zero_is is inside = rw zero_is refl
at-set-by xs i n y false true zero_is is inside =
    let same = eqb-true (i + 1) n is in
    let here : n - 1 ≡ i = omega arith in
    rw (zero_is, here) (get-set_same xs i y inside)
at-set-by xs i n y false false zero_is is inside =
    let other = eqb-false (i + 1) n is in
    let above = eqb-false n 0 zero_is in
    rw zero_is (get-set_other xs i (n - 1) y (λ e. other (let same : i ≡ n - 1 = e in omega arith)))

pub at-set : {A : Type 0} (xs : List A) (i n : ℕ) (y : A) → i < length xs → at_place (set xs i y) n ≡ (if i + 1 == n then Some y else at_place xs n)
at-set xs i n y inside = at-set-by xs i n y (n == 0) (i + 1 == n) refl refl inside

pub at-get : {A : Type 0} (xs : List A) (n : ℕ) (d : A) → 1 ≤ n → n ≤ length xs → at_place xs n ≡ Some (get_or xs (n - 1) d)
at-get xs n d from inside = by (n == 0) refl
  where
    by : (b : Bool) → (n == 0) ≡ b → at_place xs n ≡ Some (get_or xs (n - 1) d)
    by true is = absurd (let none = eqb-true n 0 is in omega arith)
    by false is = rw is (slice_get-get_or xs (n - 1) d (omega arith))

-- what is read of an item that is put in place of another
pub set-read : {A B : Type 0} (f : A → Option B) (xs : List A) (i n : ℕ) (new : A) → i < length xs → option_and_then f (at_place (set xs i new) n) ≡ (if i + 1 == n then f new else option_and_then f (at_place xs n))
set-read f xs i n new inside = ap (option_and_then f) (at-set xs i n new inside) ∙ by f new (at_place xs n) (i + 1 == n)
  where
    by : {A B : Type 0} (f : A → Option B) (new : A) (o : Option A) (b : Bool) → option_and_then f (if b then Some new else o) ≡ (if b then f new else option_and_then f o)
    by f new o true = refl
    by f new o false = refl

pub at-item : {A : Type 0} (xs : List A) (i n : ℕ) (x : A) → i < length xs → x ≡ get_or xs i x → (i + 1 == n) ≡ true → at_place xs n ≡ Some x
at-item xs i n x inside at is =
    let same = eqb-true (i + 1) n is in
    let here : n - 1 ≡ i = omega arith in
    at-get xs n x (omega arith) (omega arith) ∙ ap (λ j. Some (get_or xs j x)) here ∙ ap Some (sym at)

set-told-by : {A B : Type 0} (f : A → Option B) (xs : List A) (i n : ℕ) (old new : A) (more : Option B) (b : Bool) → (i + 1 == n) ≡ b → i < length xs → old ≡ get_or xs i old → f new ≡ option_or (f old) more
    → (if b then f new else option_and_then f (at_place xs n)) ≡ option_or (option_and_then f (at_place xs n)) (if b then more else None)
set-told-by f xs i n old new more true is inside at told = rw (at-item xs i n old inside at is) told
set-told-by f xs i n old new more false is inside at told = sym (or-none (option_and_then f (at_place xs n)))

-- what one item tells more
pub set-told : {A B : Type 0} (f : A → Option B) (xs : List A) (i n : ℕ) (old new : A) (more : Option B) → i < length xs → old ≡ get_or xs i old → f new ≡ option_or (f old) more
    → option_and_then f (at_place (set xs i new) n) ≡ option_or (option_and_then f (at_place xs n)) (if i + 1 == n then more else None)
set-told f xs i n old new more inside at told = set-read f xs i n new inside ∙ set-told-by f xs i n old new more (i + 1 == n) refl inside at told

-- an item that looks as the one before
pub map-set : {A B : Type 0} (f : A → B) (xs : List A) (i : ℕ) (old new : A) → i < length xs → old ≡ get_or xs i old → f new ≡ f old → map f (set xs i new) ≡ map f xs
map-set f [] i old new inside at same = absurd (omega arith)
map-set f (x ∷ xs) zero old new inside at same = ap (λ y. y ∷ map f xs) (same ∙ ap f at)
map-set f (x ∷ xs) (suc i) old new inside at same = ap (λ (t : List _). f x ∷ t) (map-set f xs i old new (let within : suc i < suc (length xs) = inside in omega arith) at same)

-- ---- users

pub users-length : (c : List Record) → length (users c) ≡ length (filter_map made_user c)
users-length c = length-map (enumerate_from 1 (filter_map made_user c)) (λ (u : ℕ × Person). user_with u.0 u.1) ∙ length-enumerate_from 1 (filter_map made_user c)

pub users-push : (c : List Record) (r : Record) → users (c ++ r ∷ []) ≡ users c ++ option_to_list (option_map (user_with (1 + length (filter_map made_user c))) (made_user r))
users-push c r = ap (λ (ps : List Person). map (λ (u : ℕ × Person). user_with u.0 u.1) (enumerate_from 1 ps)) (all_of-push made_user c r) ∙ numbered-more (λ (u : ℕ × Person). user_with u.0 u.1) 1 (filter_map made_user c) (made_user r)

pub user_of_token-push : (c : List Record) (r : Record) (token : List ℕ) → user_of_token (c ++ r ∷ []) token ≡ option_or (user_of_token c token) (option_and_then (only_if (has_token token)) (option_map (user_with (1 + length (filter_map made_user c))) (made_user r)))
user_of_token-push c r token = ap (λ (us : List User). first_of (filter (has_token token) us)) (users-push c r) ∙ first-more (has_token token) (users c) (option_map (user_with (1 + length (filter_map made_user c))) (made_user r))

pub some-same : {A : Type 0} (x y : A) → (let one : Option A = Some x in one ≡ Some y) → x ≡ y
some-same x y same = cc

-- no more is told than there are items
pub length-told : {A B : Type 0} (f : A → Option B) (xs : List A) → length (filter_map f xs) ≤ length xs
length-told f [] = omega arith
length-told f (x ∷ xs) = step f x xs (f x) refl (length-told f xs)
  where
    step : {A B : Type 0} (f : A → Option B) (x : A) (xs : List A) (o : Option B) → f x ≡ o → length (filter_map f xs) ≤ length xs → length (filter_map f (x ∷ xs)) ≤ length (x ∷ xs)
    step f x xs None is rest = rw is (omega arith)
    step f x xs (Some y) is rest = rw is (omega arith)
