-- Readings of a list, each by a function or a test of one item. The last item is `last_of` of the steps.
use Rattle.std.specs.List.{range_with_len}
use Rattle.std.specs.Prelude.{ℕ, min, max, Bool, not, List, [], ◌∷◌, length, if◌then◌else◌, Some, None, fold, filter, Option}
use Rattle.qz_grading.specs.Steps.{before}

-- the first item
abbrev pub first_of : {A : Type 0} → List A → Option A
first_of [] = None
first_of (x ∷ xs) = Some x

-- an item that passes
abbrev pub only_if : {A : Type 0} → (A → Bool) → A → Option A
only_if p x = if p x then Some x else None

-- how many items pass
abbrev pub how_many : {A : Type 0} → (A → Bool) → List A → ℕ
how_many p xs = length (filter p xs)

-- the items up to the first that passes, which is among them
abbrev pub up_to_first : {A : Type 0} → (A → Bool) → List A → List A
up_to_first p [] = []
up_to_first p (x ∷ xs) = if p x then x ∷ [] else x ∷ up_to_first p xs

-- the places of a list with so many items, from 1
abbrev pub places_to : ℕ → List ℕ
places_to count = range_with_len 1 count

-- each item once, where it first stands
abbrev pub once : {A : Type 0} → (A → A → Bool) → List A → List A
once is_same [] = []
once is_same (x ∷ xs) = x ∷ filter (λ y. not (is_same x y)) (once is_same xs)

-- ---- lists in order

-- an item put where it comes before the rest, if it isn't there
abbrev pub placed : {A : Type 0} → (A → A → Bool) → A → List A → List A
placed before x [] = x ∷ []
placed before x (y ∷ ys) = if before x y then x ∷ y ∷ ys else (if before y x then y ∷ placed before x ys else y ∷ ys)

-- each item once, in this order
abbrev pub in_order : {A : Type 0} → (A → A → Bool) → List A → List A
in_order before [] = []
in_order before (x ∷ xs) = placed before x (in_order before xs)

abbrev pub least : List ℕ → Option ℕ
least [] = None
least (n ∷ ns) = Some (fold min n ns)

abbrev pub greatest : List ℕ → Option ℕ
greatest [] = None
greatest (n ∷ ns) = Some (fold max n ns)
