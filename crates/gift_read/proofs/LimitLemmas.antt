-- Texts of a list of parts.
use Rattle.std.proofs.Common.{◌≡◌, Bool, ◌&&◌, List, [], ◌∷◌, flat_map, refl, ap, ◌∙◌}
use Rattle.std.specs.List.{list_all}
use Rattle.std.proofs.lemmas.List.Folds.{list_all-append, list_all-map}

-- all of each part pass where all of all parts do
pub list_all-flat_map : {X Y : Type 0} (p : Y → Bool) (f : X → List Y) (xs : List X) → list_all p (flat_map f xs) ≡ list_all (λ x. list_all p (f x)) xs
list_all-flat_map p f [] = refl
list_all-flat_map p f (x ∷ xs) = list_all-append p (f x) (flat_map f xs) ∙ ap (λ (b : Bool). list_all p (f x) && b) (list_all-flat_map p f xs)

pub ruleset texts_of_parts = (list_all-flat_map, list_all-map)
