-- Places of a list that goes on, or of which one item is exchanged.
use Rattle.std.proofs.Common.{◌≡◌, ℕ, zero, suc, ◌+◌, ◌<◌, Bool, true, false, List, [], ◌∷◌, ◌++◌, Option, Some, None, length, take, refl, sym, ap, subst, ◌∙◌, arith, append-nil, append_assoc, length-append, All}
use Rattle.std.specs.List.{enumerate_from, position_from}
use Rattle.std.specs.Option.{option_or}
use Rattle.std.specs.Prelude.{if◌then◌else◌, position, slice_get, slice_set}
use Rattle.std.proofs.lemmas.Iterator.Adapters.{position_from-zero}
use Rattle.std.proofs.Math.Seq.{get_or-append_seam}

-- ---- places

pub get-append : {A : Type 0} (xs ys : List A) (k : ℕ) (x : A) → slice_get xs k ≡ Some x → slice_get (xs ++ ys) k ≡ Some x
get-append [] ys k x is = absurd cc
get-append (z ∷ xs) ys zero x is = is
get-append (z ∷ xs) ys (suc k) x is = get-append xs ys k x is

pub get-kept : {A : Type 0} (xs : List A) (x : A) (k : ℕ) → k < length xs → slice_get (xs ++ x ∷ []) k ≡ slice_get xs k
get-kept [] x k inside = absurd (omega arith)
get-kept (y ∷ xs) x zero inside = refl
get-kept (y ∷ xs) x (suc k) inside = get-kept xs x k (let within : suc k < suc (length xs) = inside in omega arith)

-- ---- one item exchanged

pub set-here : {A : Type 0} (xs : List A) (k : ℕ) (x y : A) → slice_get xs k ≡ Some x → slice_get (slice_set xs k y) k ≡ Some y
set-here [] k x y is = absurd cc
set-here (z ∷ xs) zero x y is = refl
set-here (z ∷ xs) (suc k) x y is = set-here xs k x y is

pub set-apart : {A : Type 0} (xs : List A) (k j : ℕ) (x : A) → (j ≡ k → ⊥) → slice_get (slice_set xs k x) j ≡ slice_get xs j
set-apart [] k j x apart = refl
set-apart (z ∷ xs) zero zero x apart = absurd (apart refl)
set-apart (z ∷ xs) zero (suc j) x apart = refl
set-apart (z ∷ xs) (suc k) zero x apart = refl
set-apart (z ∷ xs) (suc k) (suc j) x apart = set-apart xs k j x (λ same. apart (ap suc same))

pub take-set : {A : Type 0} (xs : List A) (k : ℕ) (x : A) → take k (slice_set xs k x) ≡ take k xs
take-set [] k x = refl
take-set (y ∷ ys) zero x = refl
take-set (y ∷ ys) (suc k) x = ap (λ (l : List _). y ∷ l) (take-set ys k x)

-- ---- what holds of each item, and of each beginning

pub All-seam : {A : Type 0} (P : A → Type 0) (xs : List A) (x : A) (rest : List A) → All P (xs ++ x ∷ rest) → P x
All-seam P xs x rest all = subst P (get_or-append_seam xs x rest x) (all (length xs) x (let long = length-append xs (x ∷ rest) in omega arith))

go-on : {A : Type 0} (P : List A → Type 0) (h : List A) → ((l : List A) (x : A) (rest : List A) → h ≡ l ++ x ∷ rest → P l → P (l ++ x ∷ [])) → (l rest : List A) → h ≡ l ++ rest → P l → P h
go-on P h step l [] e p = subst P (sym (e ∙ append-nil l)) p
go-on P h step l (x ∷ rest) e p = go-on P h step (l ++ x ∷ []) rest (e ∙ sym (append_assoc l (x ∷ []) rest)) (step l x rest e p)

-- what holds of the empty list and stays with each item holds of the whole list
pub by-prefixes : {A : Type 0} (P : List A → Type 0) (h : List A) → P [] → ((l : List A) (x : A) (rest : List A) → h ≡ l ++ x ∷ rest → P l → P (l ++ x ∷ [])) → P h
by-prefixes P h none step = go-on P h step [] h refl none

-- ---- numbered items, and the place of the first that passes

pub enumerate-append : {A : Type 0} (n : ℕ) (xs ys : List A) → enumerate_from n (xs ++ ys) ≡ enumerate_from n xs ++ enumerate_from (n + length xs) ys
enumerate-append n [] ys = ap (λ k. enumerate_from k ys) (omega arith)
enumerate-append n (x ∷ xs) ys =
    let place : n + 1 + length xs ≡ n + suc (length xs) = omega arith in
    ap (λ (l : List _). (n, x) ∷ l) (enumerate-append (n + 1) xs ys ∙ ap (λ k. enumerate_from (n + 1) xs ++ enumerate_from k ys) place)

from-step : {A : Type 0} (p : A → Bool) (n : ℕ) (y : A) (ys : List A) (x : A) (b c : Bool) → p y ≡ b → position_from p (n + 1) (ys ++ x ∷ []) ≡ option_or (position_from p (n + 1) ys) (if c then Some (n + 1 + length ys) else None)
    → position_from p n (y ∷ ys ++ x ∷ []) ≡ option_or (position_from p n (y ∷ ys)) (if c then Some (n + length (y ∷ ys)) else None)
from-step p n y ys x true c is later = rw is refl
from-step p n y ys x false c is later = let long : n + 1 + length ys ≡ n + length (y ∷ ys) = omega arith in rw is (later ∙ ap (λ m. option_or (position_from p (n + 1) ys) (if c then Some m else None)) long)

from-alone : {A : Type 0} (p : A → Bool) (n : ℕ) (x : A) (b : Bool) → p x ≡ b → position_from p n (x ∷ []) ≡ (if b then Some (n + 0) else None)
from-alone p n x true is = let same : n ≡ n + 0 = omega arith in rw is (ap (λ m. Some m) same)
from-alone p n x false is = rw is refl

from-push : {A : Type 0} (p : A → Bool) (n : ℕ) (xs : List A) (x : A) → position_from p n (xs ++ x ∷ []) ≡ option_or (position_from p n xs) (if p x then Some (n + length xs) else None)
from-push p n [] x = from-alone p n x (p x) refl
from-push p n (y ∷ ys) x = from-step p n y ys x (p y) (p x) refl (from-push p (n + 1) ys x)

pub position-push : {A : Type 0} (p : A → Bool) (xs : List A) (x : A) → position p (xs ++ x ∷ []) ≡ option_or (position p xs) (if p x then Some (length xs) else None)
position-push p xs x =
    let zero_more : 0 + length xs ≡ length xs = omega arith in
    position_from-zero p (xs ++ x ∷ []) ∙ from-push p 0 xs x ∙ ap (λ (o : Option ℕ). option_or o (if p x then Some (0 + length xs) else None)) (sym (position_from-zero p xs)) ∙ ap (λ m. option_or (position p xs) (if p x then Some m else None)) zero_more
