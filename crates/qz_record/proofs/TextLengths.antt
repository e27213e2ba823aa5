-- Lengths of the texts of parts, and questions one behind the other.
use Rattle.std.proofs.Common.{◌≡◌, ℕ, ◌+◌, ◌<◌, Bool, ◌&&◌, List, [], ◌∷◌, ◌++◌, length, get_or, take, map, Option, Some, None, refl, sym, ap, subst, ◌∙◌, flat_map, sum_by, arith}
use Rattle.std.specs.List.{All, list_all}
use Rattle.std.proofs.lemmas.List.{get_or-map, length-map, map-append, map-id, take_more}
use Rattle.std.proofs.lemmas.List.Concat.{flat_map-cons, flat_map_single}
use Rattle.std.proofs.lemmas.List.Elements.{All-append, All-cons, All-nil}
use Rattle.std.proofs.lemmas.List.Folds.{list_all-append}
use Rattle.std.proofs.lemmas.List.Sums.{sum_by-append}
use Rattle.qz_grading.specs.Room.{LeftBehind}

pub list_all_flat_map : {A B : Type 0} (p : B → Bool) (f : A → List B) (xs : List A) → list_all p (flat_map f xs) ≡ list_all (λ x. list_all p (f x)) xs
list_all_flat_map p f [] = refl
list_all_flat_map p f (x ∷ xs) = ap (list_all p) (flat_map-cons f x xs) ∙ list_all-append p (f x) (flat_map f xs) ∙ ap (λ (b : Bool). list_all p (f x) && b) (list_all_flat_map p f xs)

pub list_all_singles : {A B : Type 0} (p : B → Bool) (f : A → B) (xs : List A) → list_all (λ x. list_all p (f x ∷ [])) xs ≡ list_all p (map f xs)
list_all_singles p f xs = sym (list_all_flat_map p (λ x. f x ∷ []) xs) ∙ ap (list_all p) (flat_map_single f xs)

pub ruleset room_steps = (flat_map-cons, sum_by-append)

pub own_texts : (ts : List (List ℕ)) → flat_map (λ (t : List ℕ). t ∷ []) ts ≡ ts
own_texts ts = flat_map_single (λ (t : List ℕ). t) ts ∙ map-id ts

-- a room behind five, one behind the other
pub five_behind : (a b c d e room r1 r2 r3 r4 : ℕ) (o : Option ℕ) → LeftBehind a room (Some r1) → LeftBehind b r1 (Some r2) → LeftBehind c r2 (Some r3) → LeftBehind d r3 (Some r4) → LeftBehind e r4 o → LeftBehind (a + (b + (c + (d + e)))) room o
five_behind a b c d e room r1 r2 r3 r4 None p q r s t = λ le. t (omega (arith, p.0, p.1, q.0, q.1, r.0, r.1, s.0, s.1))
five_behind a b c d e room r1 r2 r3 r4 (Some left) p q r s t = (omega (arith, p.0, p.1, q.0, q.1, r.0, r.1, s.0, s.1, t.0), omega (arith, p.0, p.1, q.0, q.1, r.0, r.1, s.0, s.1, t.0, t.1))

pub five_texts : (a b c : List ℕ) (ds es : List (List ℕ)) → sum_by length ((a ∷ b ∷ c ∷ ds) ++ es) ≡ sum_by length (a ∷ []) + (sum_by length (b ∷ []) + (sum_by length (c ∷ []) + (sum_by length ds + sum_by length es)))
five_texts a b c ds es =
    sum_by-append length (a ∷ []) (b ∷ c ∷ (ds ++ es))
    ∙ ap (λ (n : ℕ). sum_by length (a ∷ []) + n) (sum_by-append length (b ∷ []) (c ∷ (ds ++ es))
    ∙ ap (λ (n : ℕ). sum_by length (b ∷ []) + n) (sum_by-append length (c ∷ []) (ds ++ es)
    ∙ ap (λ (n : ℕ). sum_by length (c ∷ []) + n) (sum_by-append length ds es)))

-- what holds of all holds of the one at a place
pub all_at : {A B : Type 0} (P : B → Type 0) (f : A → B) (xs : List A) (i : ℕ) (x : A) → i < length xs → x ≡ get_or xs i x → All P (map f xs) → P (f x)
all_at P f xs i x lt is all =
    let within : i < length (map f xs) = rw length-map lt in
    subst P (get_or-map f xs i x (f x) lt ∙ ap f (sym is)) (all i (f x) within)

-- one more
pub all_more : {A B : Type 0} (P : B → Type 0) (f : A → B) (xs : List A) (i : ℕ) (x : A) → i < length xs → x ≡ get_or xs i x → All P (map f (take i xs)) → P (f x) → All P (map f (take (i + 1) xs))
all_more {A} P f xs i x lt is all here =
    let longer : take (i + 1) xs ≡ take i xs ++ x ∷ [] = take_more xs i x lt ∙ ap (λ (y : A). take i xs ++ y ∷ []) (sym is) in
    let split : map f (take (i + 1) xs) ≡ map f (take i xs) ++ f x ∷ [] = ap (map f) longer ∙ map-append f (take i xs) (x ∷ []) in
    subst (All P) (sym split) (All-append P (map f (take i xs)) (f x ∷ []) all (All-cons P (f x) [] here (All-nil P)))
