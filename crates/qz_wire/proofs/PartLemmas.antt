-- A text is cut at the first of some bytes.
use Rattle.std.proofs.Common.{◌≡◌, ℕ, ◌+◌, ◌<◌, Bool, true, false, ◌==◌, List, [], ◌∷◌, ◌++◌, length, take, drop, Some, None, refl, sym, ap, ◌∙◌, subst, cond, arith}
use Rattle.std.specs.List.{onto_first, position_from, position_or_len}
use Rattle.std.specs.Prelude.{nat_lt}
use Rattle.std.proofs.lemmas.Bool.{eqb-true}
use Rattle.std.proofs.lemmas.Bool.Decides.{nat_tests}
use Rattle.std.proofs.lemmas.Iterator.Adapters.{position_from-zero}
use Rattle.std.proofs.lemmas.List.Splits.{slice_split_first}
use Rattle.std.proofs.lemmas.List.Sums.{split_at_first, passes_at_first}
use Rattle.qz_wire.specs.Words.{parts_at, IsCutAt}

abbrev is : ℕ → ℕ → Bool
is c b = b == c

-- the first such byte is there, and this is its place
pub record IsFirst (c : ℕ) (text : List ℕ) (k : ℕ) : Type 0 where
  pub place : position_or_len (is c) text ≡ k
  pub inside : k < length text

pub first_is : (c : ℕ) (text : List ℕ) (k : ℕ) → position_from (is c) 0 text ≡ Some k → IsFirst c text k
first_is c text k found = by (nat_lt (position_or_len (is c) text) (length text)) refl (position_from-zero (is c) text ∙ found)
  where
    by : (b : Bool) → nat_lt (position_or_len (is c) text) (length text) ≡ b → cond b (Some (position_or_len (is c) text)) None ≡ Some k → IsFirst c text k
    by true inside at_it = let same : position_or_len (is c) text ≡ k = cc in record { place = same; inside = grind (arith, nat_tests) }
    by false outside none = absurd cc

pub cut_at : (c : ℕ) (text : List ℕ) (k : ℕ) → position_from (is c) 0 text ≡ Some k → IsCutAt c text (take k text) (drop (k + 1) text)
cut_at c text k found = subst (λ (n : ℕ). IsCutAt c text (take n text) (drop (n + 1) text)) first.place (record {
  joined = split_at_first (is c) text 0 inside ∙ ap (λ (b : ℕ). take n text ++ b ∷ drop (n + 1) text) (eqb-true _ _ (passes_at_first (is c) text 0 inside));
  parts = slice_split_first (is c) text 0 inside;
})
  where
    first : IsFirst c text k
    first = first_is c text k found

    n : ℕ
    n = position_or_len (is c) text

    inside : position_or_len (is c) text < length text
    inside = subst (λ (m : ℕ). m < length text) (sym first.place) first.inside

uncut-cons : (c b : ℕ) (bs : List ℕ) (i : ℕ) (t : Bool) → is c b ≡ t → position_from (is c) i (b ∷ bs) ≡ None → (position_from (is c) (i + 1) bs ≡ None → parts_at c bs ≡ bs ∷ []) → parts_at c (b ∷ bs) ≡ (b ∷ bs) ∷ []
uncut-cons c b bs i true ends none later = let here = rw ends at none in absurd cc
uncut-cons c b bs i false goes_on none later = let there = rw goes_on at none in rw goes_on (ap (onto_first b) (later there))

uncut-from : (c : ℕ) (text : List ℕ) (i : ℕ) → position_from (is c) i text ≡ None → parts_at c text ≡ text ∷ []
uncut-from c [] i none = refl
uncut-from c (b ∷ bs) i none = uncut-cons c b bs i (is c b) refl none (uncut-from c bs (i + 1))

-- without such a byte it is one part
pub uncut : (c : ℕ) (text : List ℕ) → position_from (is c) 0 text ≡ None → parts_at c text ≡ text ∷ []
uncut c text none = uncut-from c text 0 none

some-cons : (c b : ℕ) (bs : List ℕ) (t : Bool) → is c b ≡ t → (w : List ℕ) × (ws : List (List ℕ)) × (parts_at c bs ≡ w ∷ ws) → (w : List ℕ) × (ws : List (List ℕ)) × (parts_at c (b ∷ bs) ≡ w ∷ ws)
some-cons c b bs true ends rest = ([], parts_at c bs, rw ends refl)
some-cons c b bs false goes_on rest = (b ∷ rest.0, rest.1, rw goes_on (ap (onto_first b) rest.2))

-- there is always a part
pub some_part : (c : ℕ) (text : List ℕ) → (w : List ℕ) × (ws : List (List ℕ)) × (parts_at c text ≡ w ∷ ws)
some_part c [] = ([], [], refl)
some_part c (b ∷ bs) = some-cons c b bs (is c b) refl (some_part c bs)

pub some-parts : (c : ℕ) (text : List ℕ) → 0 < length (parts_at c text)
some-parts c text = let some = some_part c text in rw some.2 (omega arith)

-- ---- two texts, one behind the other

-- the last of some parts joined with the first of others
abbrev pub glued : List (List ℕ) → List (List ℕ) → List (List ℕ)
glued [] more = more
glued (x ∷ []) [] = x ∷ []
glued (x ∷ []) (y ∷ ys) = (x ++ y) ∷ ys
glued (x ∷ y ∷ ys) more = x ∷ glued (y ∷ ys) more

glued-onto : (b : ℕ) (w : List ℕ) (ws more : List (List ℕ)) → onto_first b (glued (w ∷ ws) more) ≡ glued ((b ∷ w) ∷ ws) more
glued-onto b w [] [] = refl
glued-onto b w [] (y ∷ ys) = refl
glued-onto b w (v ∷ vs) more = refl

append-cons : (c b : ℕ) (bs ys : List ℕ) (t : Bool) → is c b ≡ t → parts_at c (bs ++ ys) ≡ glued (parts_at c bs) (parts_at c ys) → parts_at c (b ∷ (bs ++ ys)) ≡ glued (parts_at c (b ∷ bs)) (parts_at c ys)
append-cons c b bs ys true ends more =
    let some = some_part c bs in
    rw (ends, more, some.2) refl
append-cons c b bs ys false goes_on more =
    let some = some_part c bs in
    rw (goes_on, more, some.2) (glued-onto b some.0 some.1 (parts_at c ys))

pub parts-append : (c : ℕ) (xs ys : List ℕ) → parts_at c (xs ++ ys) ≡ glued (parts_at c xs) (parts_at c ys)
parts-append c [] ys = let some = some_part c ys in rw some.2 refl
parts-append c (b ∷ bs) ys = append-cons c b bs ys (is c b) refl (parts-append c bs ys)

pub glued-more : (front : List (List ℕ)) (w : List ℕ) (ws more : List (List ℕ)) → glued (front ++ w ∷ ws) more ≡ front ++ glued (w ∷ ws) more
glued-more [] w ws more = refl
glued-more (x ∷ []) w ws more = refl
glued-more (x ∷ y ∷ ys) w ws more = ap (λ (l : List (List ℕ)). x ∷ l) (glued-more (y ∷ ys) w ws more)
