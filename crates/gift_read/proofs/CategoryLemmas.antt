-- The names on a path, from the left.
use Rattle.std.proofs.Common.{◌≡◌, Bool, true, false, cond, List, [], ◌∷◌, ◌++◌, ◌&&◌, refl}
use Rattle.std.specs.List.{onto_first}
use Rattle.gift_lex.specs.declared.block.Piece.{Piece}
use Rattle.gift_read.specs.Places.{Marks}
use Rattle.gift_read.specs.Category.{is_slash, names}

-- marks before the first name
abbrev pub onto_front : Marks → List Marks → List Marks
onto_front name [] = name ∷ []
onto_front name (first ∷ later) = (name ++ first) ∷ later

onto_front-first : (m : Piece) (later : List Marks) → onto_front [] (onto_first m later) ≡ onto_first m later
onto_front-first m [] = refl
onto_front-first m (first ∷ later) = refl

pub onto_front-nil : (path : Marks) → onto_front [] (names path) ≡ names path
onto_front-nil [] = refl
onto_front-nil (m ∷ []) = go (is_slash m)
  where
    go : (b : Bool) → onto_front [] (cond b ([] ∷ [] ∷ []) ((m ∷ []) ∷ [])) ≡ cond b ([] ∷ [] ∷ []) ((m ∷ []) ∷ [])
    go true = refl
    go false = refl
onto_front-nil (m ∷ n ∷ path) = go (is_slash m) (is_slash n)
  where
    go : (first second : Bool) → onto_front [] (cond (first && second) (onto_first m (names path)) (cond first ([] ∷ names (n ∷ path)) (onto_first m (names (n ∷ path)))))
        ≡ cond (first && second) (onto_first m (names path)) (cond first ([] ∷ names (n ∷ path)) (onto_first m (names (n ∷ path))))
    go true true = onto_front-first m (names path)
    go true false = refl
    go false second = onto_front-first m (names (n ∷ path))
