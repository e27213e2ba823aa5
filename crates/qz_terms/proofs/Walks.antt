-- Reading a list from the front, one item more at a time: what is first, what is last, how many there are, all of them.
use Rattle.std.proofs.Common.{◌≡◌, ℕ, zero, suc, ltb, ◌+◌, ◌<◌, ◌⊎◌, inl, inr, Bool, true, false, List, [], ◌∷◌, ◌++◌, Option, Some, None, option_map, length, take, get_or, refl, sym, ap, ◌∙◌, arith, length-append}
use Rattle.std.specs.Prelude.{filter, filter_map, if◌then◌else◌, is_some, option_to_list, position, slice_get}
use Rattle.std.specs.Option.{option_or}
use Rattle.std.specs.List.{last_or, position_or_len}
use Rattle.std.proofs.lemmas.Bool.{ltb-true, ltb-false}
use Rattle.std.proofs.lemmas.Option.{slice_get_past}
use Rattle.std.proofs.lemmas.Grind.{take_at_read}
use Rattle.std.proofs.lemmas.List.Elements.{filter_map-append, filter-append}
use Rattle.qz_grading.specs.Steps.{last_of}
use Rattle.qz_terms.specs.Lists.{first_of, how_many, up_to_first}

-- ---- one item more

pub take-one_more : {A : Type 0} (xs : List A) (i : ℕ) (x : A) → i < length xs → x ≡ get_or xs i x → take (i + 1) xs ≡ take i xs ++ x ∷ []
take-one_more xs i x inside is = (take_at_read xs i x inside).1 ∙ ap (λ (y : _). take i xs ++ y ∷ []) (sym is)

-- one item at the end is the one that stands after a part, or stands behind it
pub split-push : {A : Type 0} (l k : List A) (x y : A) (rest : List A) → l ++ x ∷ [] ≡ k ++ y ∷ rest → ((l ≡ k) × (x ≡ y)) ⊎ ((more : List A) × (l ≡ k ++ y ∷ more))
split-push [] [] x y rest e = inl (refl, cc)
split-push [] (z ∷ []) x y rest e = absurd cc
split-push [] (z ∷ w ∷ k) x y rest e = absurd cc
split-push (z ∷ l) [] x y rest e = inr (l, let same : z ≡ y = cc in ap (λ t. t ∷ l) same)
split-push (z ∷ l) (w ∷ k) x y rest e =
    let head : z ≡ w = cc in
    let tail : l ++ x ∷ [] ≡ k ++ y ∷ rest = cc in
    elim (split-push l k x y rest tail) [
      | inl same ↦ inl (let lists : l ≡ k = same.0 in cc, same.1)
      | inr behind ↦ inr (behind.0, let lists : l ≡ k ++ y ∷ behind.0 = behind.1 in cc)
    ]

-- ---- the first and the last

first_of-either : {A : Type 0} (xs ys : List A) → first_of (xs ++ ys) ≡ option_or (first_of xs) (first_of ys)
first_of-either [] ys = refl
first_of-either (x ∷ xs) ys = refl

last_or-either : {A : Type 0} (o : Option A) (xs ys : List A) → last_or o (xs ++ ys) ≡ last_or (last_or o xs) ys
last_or-either o [] ys = refl
last_or-either o (x ∷ xs) ys = last_or-either (Some x) xs ys

first_of-told : {A B : Type 0} (f : A → Option B) (x : A) (o : Option B) → f x ≡ o → first_of (filter_map f (x ∷ [])) ≡ o
first_of-told f x None is = rw is refl
first_of-told f x (Some y) is = rw is refl

last_or-told : {A B : Type 0} (f : A → Option B) (x : A) (before o : Option B) → f x ≡ o → last_or before (filter_map f (x ∷ [])) ≡ option_or o before
last_or-told f x before None is = rw is refl
last_or-told f x before (Some y) is = rw is refl

pub first_of-push : {A B : Type 0} (f : A → Option B) (xs : List A) (x : A) → first_of (filter_map f (xs ++ x ∷ [])) ≡ option_or (first_of (filter_map f xs)) (f x)
first_of-push f xs x = ap first_of (filter_map-append f xs (x ∷ [])) ∙ first_of-either (filter_map f xs) (filter_map f (x ∷ [])) ∙ ap (λ (o : Option _). option_or (first_of (filter_map f xs)) o) (first_of-told f x (f x) refl)

pub last_of-push : {A B : Type 0} (f : A → Option B) (xs : List A) (x : A) → last_of (filter_map f (xs ++ x ∷ [])) ≡ option_or (f x) (last_of (filter_map f xs))
last_of-push f xs x = ap (last_or None) (filter_map-append f xs (x ∷ [])) ∙ last_or-either None (filter_map f xs) (filter_map f (x ∷ [])) ∙ last_or-told f x (last_or None (filter_map f xs)) (f x) refl

pub first_kept : {A B : Type 0} (f : A → Option B) (xs : List A) (i : ℕ) (x : A) → i < length xs → x ≡ get_or xs i x → first_of (filter_map f (take (i + 1) xs)) ≡ option_or (first_of (filter_map f (take i xs))) (f x)
first_kept f xs i x inside is = ap (λ (ys : List _). first_of (filter_map f ys)) (take-one_more xs i x inside is) ∙ first_of-push f (take i xs) x

pub last_kept : {A B : Type 0} (f : A → Option B) (xs : List A) (i : ℕ) (x : A) → i < length xs → x ≡ get_or xs i x → last_of (filter_map f (take (i + 1) xs)) ≡ option_or (f x) (last_of (filter_map f (take i xs)))
last_kept f xs i x inside is = ap (λ (ys : List _). last_of (filter_map f ys)) (take-one_more xs i x inside is) ∙ last_of-push f (take i xs) x

-- the same of what is seen by a view
pub option_map-either : {A B : Type 0} (v : A → B) (a b : Option A) → option_map v (option_or a b) ≡ option_or (option_map v a) (option_map v b)
option_map-either v None b = refl
option_map-either v (Some x) b = refl

-- ---- up to the first that passes

up_to_first-step : {A : Type 0} (p : A → Bool) (x : A) (xs : List A) (b : Bool) → p x ≡ b → up_to_first p xs ≡ take (suc (position_or_len p xs)) xs → up_to_first p (x ∷ xs) ≡ take (suc (position_or_len p (x ∷ xs))) (x ∷ xs)
up_to_first-step p x xs true is rest = rw is refl
up_to_first-step p x xs false is rest =
    let more : 1 + position_or_len p xs ≡ suc (position_or_len p xs) = omega arith in
    rw (is, more) (ap (λ (ys : List _). x ∷ ys) rest)

up_to_first-place : {A : Type 0} (p : A → Bool) (xs : List A) → up_to_first p xs ≡ take (suc (position_or_len p xs)) xs
up_to_first-place p [] = refl
up_to_first-place p (x ∷ xs) = up_to_first-step p x xs (p x) refl (up_to_first-place p xs)

first_passing-step : {A : Type 0} (p : A → Bool) (x : A) (xs : List A) (b : Bool) → p x ≡ b → first_of (filter p xs) ≡ slice_get xs (position_or_len p xs) → first_of (filter p (x ∷ xs)) ≡ slice_get (x ∷ xs) (position_or_len p (x ∷ xs))
first_passing-step p x xs true is rest = rw is refl
first_passing-step p x xs false is rest =
    let more : 1 + position_or_len p xs ≡ suc (position_or_len p xs) = omega arith in
    rw (is, more) rest

first_passing-place : {A : Type 0} (p : A → Bool) (xs : List A) → first_of (filter p xs) ≡ slice_get xs (position_or_len p xs)
first_passing-place p [] = refl
first_passing-place p (x ∷ xs) = first_passing-step p x xs (p x) refl (first_passing-place p xs)

-- the first item that passes has this place, from 0
pub record IsFirstAt {A : Type 0} (p : A → Bool) (xs : List A) (n : ℕ) : Type 0 where
  pub inside : n < length xs
  pub up_to : up_to_first p xs ≡ take (n + 1) xs
  pub item : first_of (filter p xs) ≡ slice_get xs n

found-by : {A : Type 0} (p : A → Bool) (xs : List A) (n : ℕ) (b : Bool) → ltb (position_or_len p xs) (length xs) ≡ b → (if b then Some (position_or_len p xs) else None) ≡ Some n → IsFirstAt p xs n
found-by p xs n true inside is =
    let same : position_or_len p xs ≡ n = cc in
    let more : n + 1 ≡ suc n = omega arith in
    record {
      inside = let below = ltb-true (position_or_len p xs) (length xs) inside in omega arith;
      up_to = rw more (up_to_first-place p xs ∙ ap (λ (k : ℕ). take (suc k) xs) same);
      item = first_passing-place p xs ∙ ap (slice_get xs) same;
    }
found-by p xs n false inside is = absurd cc

pub found_up_to : {A : Type 0} (p : A → Bool) (xs : List A) (n : ℕ) → position p xs ≡ Some n → IsFirstAt p xs n
found_up_to p xs n is = found-by p xs n (ltb (position_or_len p xs) (length xs)) refl is

missing-by : {A : Type 0} (p : A → Bool) (xs : List A) (b : Bool) → ltb (position_or_len p xs) (length xs) ≡ b → (if b then Some (position_or_len p xs) else None) ≡ None → first_of (filter p xs) ≡ None
missing-by p xs true inside is = absurd cc
missing-by p xs false outside is = let past = ltb-false (position_or_len p xs) (length xs) outside in first_passing-place p xs ∙ slice_get_past xs (position_or_len p xs) past

pub found_nowhere : {A : Type 0} (p : A → Bool) (xs : List A) → position p xs ≡ None → first_of (filter p xs) ≡ None
found_nowhere p xs is = missing-by p xs (ltb (position_or_len p xs) (length xs)) refl is

-- a test of what is told, and what is told first
first_told-step : {A B : Type 0} (f : A → Option B) (x : A) (xs : List A) (o : Option B) → f x ≡ o → is_some (first_of (filter_map f xs)) ≡ is_some (first_of (filter (λ y. is_some (f y)) xs)) → is_some (first_of (filter_map f (x ∷ xs))) ≡ is_some (first_of (filter (λ y. is_some (f y)) (x ∷ xs)))
first_told-step f x xs None is rest = rw is rest
first_told-step f x xs (Some y) is rest = rw is refl

pub first_told : {A B : Type 0} (f : A → Option B) (xs : List A) → is_some (first_of (filter_map f xs)) ≡ is_some (first_of (filter (λ y. is_some (f y)) xs))
first_told f [] = refl
first_told f (x ∷ xs) = first_told-step f x xs (f x) refl (first_told f xs)

-- ---- all of them, one after another

told-alone : {A B : Type 0} (f : A → Option B) (x : A) (o : Option B) → f x ≡ o → filter_map f (x ∷ []) ≡ option_to_list o
told-alone f x None is = rw is refl
told-alone f x (Some y) is = rw is refl

pub all_of-push : {A B : Type 0} (f : A → Option B) (xs : List A) (x : A) → filter_map f (xs ++ x ∷ []) ≡ filter_map f xs ++ option_to_list (f x)
all_of-push f xs x = filter_map-append f xs (x ∷ []) ∙ ap (λ (t : List _). filter_map f xs ++ t) (told-alone f x (f x) refl)

pub all_kept : {A B : Type 0} (f : A → Option B) (xs : List A) (i : ℕ) (x : A) → i < length xs → x ≡ get_or xs i x → filter_map f (take (i + 1) xs) ≡ filter_map f (take i xs) ++ option_to_list (f x)
all_kept f xs i x inside is = ap (filter_map f) (take-one_more xs i x inside is) ∙ all_of-push f (take i xs) x

-- ---- how many

many-told : {A : Type 0} (p : A → Bool) (x : A) (b : Bool) → p x ≡ b → length (filter p (x ∷ [])) ≡ (if b then 1 else 0)
many-told p x true is = rw is refl
many-told p x false is = rw is refl

pub how_many-push : {A : Type 0} (p : A → Bool) (xs : List A) (x : A) (b : Bool) → p x ≡ b → how_many p (xs ++ x ∷ []) ≡ how_many p xs + (if b then 1 else 0)
how_many-push p xs x b is = ap (λ (t : List _). length t) (filter-append p xs (x ∷ [])) ∙ length-append (filter p xs) (filter p (x ∷ [])) ∙ ap (λ n. length (filter p xs) + n) (many-told p x b is)

-- ---- where it stands

-- an item of a list, with those before it and behind it, that tells this
pub record IsToldIn {A B : Type 0} (f : A → Option B) (xs : List A) (y : B) : Type 0 where
  pub front : List A
  pub item : A
  pub rest : List A
  pub stands : xs ≡ front ++ item ∷ rest
  pub tells : f item ≡ Some y

told_in-behind : {A B : Type 0} (f : A → Option B) (x : A) (xs : List A) (y : B) → IsToldIn f xs y → IsToldIn f (x ∷ xs) y
told_in-behind f x xs y t = record { front = x ∷ t.front; item = t.item; rest = t.rest; stands = ap (λ (l : List _). x ∷ l) t.stands; tells = t.tells }

first_told_in-step : {A B : Type 0} (f : A → Option B) (x : A) (xs : List A) (y : B) (o : Option B) → f x ≡ o → first_of (filter_map f (x ∷ xs)) ≡ Some y → (first_of (filter_map f xs) ≡ Some y → IsToldIn f xs y) → IsToldIn f (x ∷ xs) y
first_told_in-step f x xs y None is found later = told_in-behind f x xs y (later (rw is at found))
first_told_in-step f x xs y (Some z) is found later = let first : Some z ≡ Some y = rw is at found in record { front = []; item = x; rest = xs; stands = refl; tells = is ∙ first }

pub first_told_in : {A B : Type 0} (f : A → Option B) (xs : List A) (y : B) → first_of (filter_map f xs) ≡ Some y → IsToldIn f xs y
first_told_in f [] y found = absurd cc
first_told_in f (x ∷ xs) y found = first_told_in-step f x xs y (f x) refl found (λ e. first_told_in f xs y e)

last_told_in-step : {A B : Type 0} (f : A → Option B) (x : A) (xs : List A) (y : B) (before o : Option B) → f x ≡ o → last_or before (filter_map f (x ∷ xs)) ≡ Some y → ((now : Option B) → last_or now (filter_map f xs) ≡ Some y → IsToldIn f xs y ⊎ (now ≡ Some y)) → IsToldIn f (x ∷ xs) y ⊎ (before ≡ Some y)
last_told_in-step f x xs y before None is found later = elim (later before (rw is at found)) [ inl t ↦ inl (told_in-behind f x xs y t) | inr e ↦ inr e ]
last_told_in-step f x xs y before (Some z) is found later = elim (later (Some z) (rw is at found)) [ inl t ↦ inl (told_in-behind f x xs y t) | inr e ↦ inl (record { front = []; item = x; rest = xs; stands = refl; tells = is ∙ e }) ]

last_told_in-from : {A B : Type 0} (f : A → Option B) (xs : List A) (y : B) (before : Option B) → last_or before (filter_map f xs) ≡ Some y → IsToldIn f xs y ⊎ (before ≡ Some y)
last_told_in-from f [] y before found = inr found
last_told_in-from f (x ∷ xs) y before found = last_told_in-step f x xs y before (f x) refl found (λ now e. last_told_in-from f xs y now e)

pub last_told_in : {A B : Type 0} (f : A → Option B) (xs : List A) (y : B) → last_of (filter_map f xs) ≡ Some y → IsToldIn f xs y
last_told_in f xs y found = elim (last_told_in-from f xs y None found) [ inl t ↦ t | inr e ↦ absurd cc ]

-- ---- the first that passes

first_passing-alone : {A : Type 0} (p : A → Bool) (x : A) (b : Bool) → p x ≡ b → first_of (filter p (x ∷ [])) ≡ (if b then Some x else None)
first_passing-alone p x true is = rw is refl
first_passing-alone p x false is = rw is refl

pub first_passing_kept : {A : Type 0} (p : A → Bool) (xs : List A) (i : ℕ) (x : A) → i < length xs → x ≡ get_or xs i x → first_of (filter p (take (i + 1) xs)) ≡ option_or (first_of (filter p (take i xs))) (if p x then Some x else None)
first_passing_kept p xs i x inside is = ap (λ (ys : List _). first_of (filter p ys)) (take-one_more xs i x inside is) ∙ ap first_of (filter-append p (take i xs) (x ∷ [])) ∙ first_of-either (filter p (take i xs)) (filter p (x ∷ [])) ∙ ap (λ (o : Option _). option_or (first_of (filter p (take i xs))) o) (first_passing-alone p x (p x) refl)

get_or-default : {A : Type 0} (xs : List A) (i : ℕ) (d e : A) → i < length xs → get_or xs i d ≡ get_or xs i e
get_or-default [] i d e inside = absurd (omega arith)
get_or-default (x ∷ xs) zero d e inside = refl
get_or-default (x ∷ xs) (suc i) d e inside = get_or-default xs i d e (let inside' : suc i < suc (length xs) = inside in omega arith)

-- the same of an item that is read at a place
pub first_passing_at : {A : Type 0} (p : A → Bool) (xs : List A) (i : ℕ) (d : A) (found here : Option A) (b : Bool) → i < length xs → b ≡ p (get_or xs i d) → here ≡ (if b then Some (get_or xs i d) else None) → found ≡ first_of (filter p (take i xs)) → option_or found here ≡ first_of (filter p (take (i + 1) xs))
first_passing_at p xs i d found here b inside tests is so_far =
    let same : get_or xs i d ≡ get_or xs i (get_or xs i d) = get_or-default xs i d (get_or xs i d) inside in
    ap (option_or found) (is ∙ ap (λ (c : Bool). if c then Some (get_or xs i d) else None) tests) ∙ ap (λ (o : Option _). option_or o (if p (get_or xs i d) then Some (get_or xs i d) else None)) so_far ∙ sym (first_passing_kept p xs i (get_or xs i d) inside same)
