-- Readings of a list with one more item at its end.
use Rattle.std.proofs.Common.{◌≡◌, List, [], ◌∷◌, ◌++◌, Option, Some, None, refl, ap, ◌∙◌, append-nil}
use Rattle.std.specs.Prelude.{filter_map}
use Rattle.std.specs.List.{last_or}
use Rattle.std.proofs.lemmas.List.Elements.{filter_map-append}
use Rattle.qz_terms.specs.Lists.{first_of}

-- an item that tells nothing
pub filter_map-other : {A B : Type 0} (f : A → Option B) (xs : List A) (x : A) → f x ≡ None → filter_map f (xs ++ x ∷ []) ≡ filter_map f xs
filter_map-other f xs x none =
    let nothing : filter_map f (x ∷ []) ≡ [] = rw none refl in
    filter_map-append f xs (x ∷ []) ∙ ap (λ (t : List _). filter_map f xs ++ t) nothing ∙ append-nil (filter_map f xs)

-- an item that tells something
pub filter_map-push : {A B : Type 0} (f : A → Option B) (xs : List A) (x : A) (y : B) → f x ≡ Some y → filter_map f (xs ++ x ∷ []) ≡ filter_map f xs ++ y ∷ []
filter_map-push f xs x y some =
    let one : filter_map f (x ∷ []) ≡ y ∷ [] = rw some refl in
    filter_map-append f xs (x ∷ []) ∙ ap (λ (t : List _). filter_map f xs ++ t) one

pub last_or-push : {A : Type 0} (o : Option A) (xs : List A) (x : A) → last_or o (xs ++ x ∷ []) ≡ Some x
last_or-push o [] x = refl
last_or-push o (y ∷ ys) x = last_or-push (Some y) ys x

-- what is first stays first
pub first_of-append : {A : Type 0} (xs ys : List A) (x : A) → first_of xs ≡ Some x → first_of (xs ++ ys) ≡ Some x
first_of-append [] ys x none = absurd cc
first_of-append (z ∷ zs) ys x some = some
