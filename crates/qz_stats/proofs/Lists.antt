-- Readings of a list, one item more at a time.
use Rattle.std.proofs.Common.{◌≡◌, ℕ, zero, suc, ◌+◌, ◌<◌, ◌≤◌, Bool, true, false, List, [], ◌∷◌, ◌++◌, length, take, drop, get_or, map, refl, sym, ap, ◌∙◌, append_assoc, arith}
use Rattle.std.specs.Prelude.{filter, flat_map, fold, max, if◌then◌else◌}
use Rattle.std.proofs.lemmas.List.{drop-take, flat_map_more, map-append, take-append-drop, take-take}
use Rattle.std.proofs.lemmas.List.Elements.{filter-append}
use Rattle.std.proofs.lemmas.List.Sums.{fold-append}
use Rattle.qz_terms.proofs.Walks.{take-one_more}

pub map_kept : {A B : Type 0} (f : A → B) (xs : List A) (i : ℕ) (x : A) → i < length xs → x ≡ get_or xs i x → map f (take (i + 1) xs) ≡ map f (take i xs) ++ f x ∷ []
map_kept f xs i x inside is = ap (map f) (take-one_more xs i x inside is) ∙ map-append f (take i xs) (x ∷ [])

pub flat_kept : {A B : Type 0} (f : A → List B) (xs : List A) (i : ℕ) (x : A) → i < length xs → x ≡ get_or xs i x → flat_map f (take (i + 1) xs) ≡ flat_map f (take i xs) ++ f x
flat_kept f xs i x inside is = ap (flat_map f) (take-one_more xs i x inside is) ∙ sym (flat_map_more f [] (take i xs) x)

passed : {A : Type 0} (p : A → Bool) (x : A) (b : Bool) → p x ≡ b → filter p (x ∷ []) ≡ (if b then x ∷ [] else [])
passed p x true is = rw is refl
passed p x false is = rw is refl

pub filter_kept : {A : Type 0} (p : A → Bool) (xs : List A) (i : ℕ) (x : A) → i < length xs → x ≡ get_or xs i x → filter p (take (i + 1) xs) ≡ filter p (take i xs) ++ (if p x then x ∷ [] else [])
filter_kept p xs i x inside is =
    ap (filter p) (take-one_more xs i x inside is) ∙ filter-append p (take i xs) (x ∷ []) ∙ ap (λ (t : List _). filter p (take i xs) ++ t) (passed p x (p x) refl)

-- behind others
pub filtered_more : {A : Type 0} (p : A → Bool) (xs : List A) (i : ℕ) (x : A) (front now after : List A) → i < length xs → x ≡ get_or xs i x → now ≡ front ++ filter p (take i xs) → after ≡ now ++ (if p x then x ∷ [] else []) → after ≡ front ++ filter p (take (i + 1) xs)
filtered_more p xs i x front now after inside is so_far more =
    more ∙ (ap (λ (t : List _). t ++ (if p x then x ∷ [] else [])) so_far ∙ (append_assoc front (filter p (take i xs)) (if p x then x ∷ [] else []) ∙ ap (λ (t : List _). front ++ t) (sym (filter_kept p xs i x inside is))))

-- the greatest number so far
pub greatest_kept : {A : Type 0} (f : A → ℕ) (least : ℕ) (xs : List A) (i : ℕ) (x : A) → i < length xs → x ≡ get_or xs i x → fold max least (map f (take (i + 1) xs)) ≡ max (fold max least (map f (take i xs))) (f x)
greatest_kept f least xs i x inside is = ap (fold max least) (map_kept f xs i x inside is) ∙ fold-append max least (map f (take i xs)) (f x ∷ [])

pub greatest_flat : {A : Type 0} (f : A → List ℕ) (least : ℕ) (xs : List A) (i : ℕ) (x : A) → i < length xs → x ≡ get_or xs i x → fold max least (flat_map f (take (i + 1) xs)) ≡ fold max (fold max least (flat_map f (take i xs))) (f x)
greatest_flat f least xs i x inside is = ap (fold max least) (flat_kept f xs i x inside is) ∙ fold-append max least (flat_map f (take i xs)) (f x)

-- the first so many items, and so many behind them
pub take_both : {A : Type 0} (m n : ℕ) (xs : List A) → take m xs ++ take n (drop m xs) ≡ take (m + n) xs
take_both m n xs =
    let less : m ≤ m + n = omega arith in
    let front : take m (take (m + n) xs) ≡ take m xs = take-take m (m + n) xs less in
    let back : drop m (take (m + n) xs) ≡ take n (drop m xs) = drop-take m n xs in
    sym (ap (λ (t : List _). t ++ take n (drop m xs)) front) ∙ (sym (ap (λ (t : List _). take m (take (m + n) xs) ++ t) back) ∙ take-append-drop m (take (m + n) xs))

pub map_same : {A B : Type 0} (f g : A → B) → ((x : A) → f x ≡ g x) → (xs : List A) → map f xs ≡ map g xs
map_same f g each [] = refl
map_same f g each (x ∷ xs) = ap (λ (y : _). y ∷ map f xs) (each x) ∙ ap (λ (t : List _). g x ∷ t) (map_same f g each xs)

-- an item that is there, with any other in place of one that isn't
pub same_got : {A : Type 0} (xs : List A) (i : ℕ) (d e : A) → i < length xs → get_or xs i d ≡ get_or xs i e
same_got [] i d e inside = absurd (omega arith)
same_got (x ∷ xs) zero d e inside = refl
same_got (x ∷ xs) (suc i) d e inside = same_got xs i d e (omega arith)
