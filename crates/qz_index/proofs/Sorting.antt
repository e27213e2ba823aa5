-- Lists in a strict order, and lists put in order.
use Rattle.std.proofs.Common.{◌≡◌, Bool, true, false, List, [], ◌∷◌, ◌++◌, refl, sym, ap, ◌∙◌}
use Rattle.std.specs.declared.cmp.Ordering.{Ordering}
use Rattle.std.specs.declared.cmp.Ordering.TheVariants.{Less, Equal, Greater}
use Rattle.std.specs.BTreeMap.{is_at}
use Rattle.std.specs.Cmp.{IsTotalOrder}
use Rattle.std.specs.List.{AllByRecursion, list_any}
use Rattle.std.specs.List.Sorted.{IsStrictlySortedBy}
use Rattle.std.specs.Ordering.{is_eq, is_lt, ordering_reverse}
use Rattle.std.specs.Prelude.{◌||◌}
use Rattle.std.proofs.lemmas.Map.Lookups.{CmpEqualImpliesEq, btree_set_from_contains}
use Rattle.qz_terms.specs.Lists.{in_order, placed}

-- a test of two items is their order
pub record IsOrderOf {K : Type 0} (R : K → K → Ordering) (before : K → K → Bool) : Type 0 where
  pub total : IsTotalOrder R
  pub exact : CmpEqualImpliesEq R
  pub is : (x y : K) → before x y ≡ is_lt (R x y)

pub all-weaker : {A : Type 0} (P Q : A → Type 0) → ((x : A) → P x → Q x) → (xs : List A) → AllByRecursion P xs → AllByRecursion Q xs
all-weaker P Q f [] all = tt
all-weaker P Q f (x ∷ xs) all = (f x all.0, all-weaker P Q f xs all.1)

all-placed-by : {A : Type 0} (before : A → A → Bool) (P : A → Type 0) (x y : A) (ys : List A) (b c : Bool) → before x y ≡ b → before y x ≡ c → P x → AllByRecursion P (y ∷ ys) → AllByRecursion P (placed before x ys) → AllByRecursion P (placed before x (y ∷ ys))
all-placed-by before P x y ys true c is also one all rest = rw is (one, all)
all-placed-by before P x y ys false true is also one all rest = rw (is, also) (all.0, rest)
all-placed-by before P x y ys false false is also one all rest = rw (is, also) all

all-placed : {A : Type 0} (before : A → A → Bool) (P : A → Type 0) (x : A) (ys : List A) → P x → AllByRecursion P ys → AllByRecursion P (placed before x ys)
all-placed before P x [] one all = (one, tt)
all-placed before P x (y ∷ ys) one all = all-placed-by before P x y ys (before x y) (before y x) refl refl one all (all-placed before P x ys one all.1)

or-twice : (b c d : Bool) → b ≡ c → (c || d) ≡ (b || (c || d))
or-twice true true d is = refl
or-twice false false d is = refl
or-twice true false d is = absurd cc
or-twice false true d is = absurd cc

or-turned : (b c d : Bool) → (b || (c || d)) ≡ (c || (b || d))
or-turned true true d = refl
or-turned true false d = refl
or-turned false true d = refl
or-turned false false d = refl

pub all-push : {A : Type 0} (P : A → Type 0) (xs : List A) (y : A) → AllByRecursion P xs → P y → AllByRecursion P (xs ++ y ∷ [])
all-push P [] y all one = (one, tt)
all-push P (x ∷ xs) y all one = (all.0, all-push P xs y all.1 one)

-- one more item at the end
pub sorted-push : {K : Type 0} (R : K → K → Ordering) (xs : List K) (y : K) → IsStrictlySortedBy R xs → AllByRecursion (λ x. R x y ≡ Less) xs → IsStrictlySortedBy R (xs ++ y ∷ [])
unfolding IsStrictlySortedBy
sorted-push R [] y sorted all = (tt, tt)
sorted-push R (x ∷ xs) y sorted all = (all-push (λ z. R x z ≡ Less) xs y sorted.0 all.0, sorted-push R xs y sorted.1 all.1)

module _ {K : Type 0} (R : K → K → Ordering) (before : K → K → Bool) (o : IsOrderOf R before) where
  before-is : (x y : K) (c : Ordering) → R x y ≡ c → before x y ≡ is_lt c
  before-is x y c is = o.is x y ∙ ap is_lt is

  after-is : (x y : K) (c : Ordering) → R x y ≡ c → before y x ≡ is_lt (ordering_reverse c)
  after-is x y c is = before-is y x (ordering_reverse c) (o.total.antisymm y x ∙ ap ordering_reverse is)

  turned : (x y : K) → R x y ≡ Greater → R y x ≡ Less
  turned x y is = o.total.antisymm y x ∙ ap ordering_reverse is

  sorted-placed-by : (x y : K) (ys : List K) (c : Ordering) → R x y ≡ c → IsStrictlySortedBy R (y ∷ ys) → IsStrictlySortedBy R (placed before x ys) → IsStrictlySortedBy R (placed before x (y ∷ ys))
  unfolding IsStrictlySortedBy
  sorted-placed-by x y ys Less is sorted rest = rw (before-is x y Less is) ((is, all-weaker (λ z. R y z ≡ Less) (λ z. R x z ≡ Less) (λ z more. o.total.trans x y z is more) ys sorted.0), sorted)
  sorted-placed-by x y ys Equal is sorted rest = rw (before-is x y Equal is, after-is x y Equal is) sorted
  sorted-placed-by x y ys Greater is sorted rest = rw (before-is x y Greater is, after-is x y Greater is) (all-placed before (λ z. R y z ≡ Less) x ys (turned x y is) sorted.0, rest)

  sorted-placed : (x : K) (ys : List K) → IsStrictlySortedBy R ys → IsStrictlySortedBy R (placed before x ys)
  unfolding IsStrictlySortedBy
  sorted-placed x [] sorted = (tt, tt)
  sorted-placed x (y ∷ ys) sorted = sorted-placed-by x y ys (R x y) refl sorted (sorted-placed x ys sorted.1)

  pub in_order-sorted : (xs : List K) → IsStrictlySortedBy R (in_order before xs)
  unfolding IsStrictlySortedBy
  in_order-sorted [] = tt
  in_order-sorted (x ∷ xs) = sorted-placed x (in_order before xs) (in_order-sorted xs)

  member-placed-by : (q x y : K) (ys : List K) (c : Ordering) → R x y ≡ c → list_any (is_at (R q)) (placed before x ys) ≡ list_any (is_at (R q)) (x ∷ ys) → list_any (is_at (R q)) (placed before x (y ∷ ys)) ≡ list_any (is_at (R q)) (x ∷ y ∷ ys)
  member-placed-by q x y ys Less is rest = rw (before-is x y Less is) refl
  member-placed-by q x y ys Equal is rest = rw (before-is x y Equal is, after-is x y Equal is) (or-twice (is_eq (R q x)) (is_eq (R q y)) (list_any (is_at (R q)) ys) (ap (λ z. is_eq (R q z)) (o.exact x y is)))
  member-placed-by q x y ys Greater is rest = rw (before-is x y Greater is, after-is x y Greater is) (ap (λ (b : Bool). is_eq (R q y) || b) rest ∙ or-turned (is_eq (R q y)) (is_eq (R q x)) (list_any (is_at (R q)) ys))

  member-placed : (q x : K) (ys : List K) → list_any (is_at (R q)) (placed before x ys) ≡ list_any (is_at (R q)) (x ∷ ys)
  member-placed q x [] = refl
  member-placed q x (y ∷ ys) = member-placed-by q x y ys (R x y) refl (member-placed q x ys)

  pub in_order-member : (q : K) (xs : List K) → list_any (is_at (R q)) (in_order before xs) ≡ list_any (is_at (R q)) xs
  in_order-member q [] = refl
  in_order-member q (x ∷ xs) = member-placed q x (in_order before xs) ∙ ap (λ (b : Bool). is_eq (R q x) || b) (in_order-member q xs)

  -- a list in order with the same items
  pub in_order-is : (ys xs : List K) → IsStrictlySortedBy R ys → ((q : K) → list_any (is_at (R q)) ys ≡ list_any (is_at (R q)) xs) → ys ≡ in_order before xs
  in_order-is ys xs sorted same = btree_set_from_contains o.total (record { keys = ys }) (record { keys = in_order before xs }) sorted (in_order-sorted xs) (λ q. same q ∙ sym (in_order-member q xs)) o.exact
