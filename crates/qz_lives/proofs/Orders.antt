-- Attempts in order of user and number, and the first of them that passes.
use Rattle.std.proofs.Common.{◌≡◌, ◌<◌, ◌⊎◌, inl, inr, eqb, ltb, Bool, true, false, ◌&&◌, ◌||◌, List, [], ◌∷◌, Option, Some, None, refl, sym, ap, ◌∙◌, arith, eq-eqb}
use Rattle.std.specs.Prelude.{filter, if◌then◌else◌, nat_lt, ◌==◌}
use Rattle.std.proofs.Math.Bool.{and-false}
use Rattle.std.proofs.lemmas.Bool.{eqb-true, eqb-false, lt-ltb, ltb-true, ltb-false}
use Rattle.qz_grading.specs.declared.refusal.AttemptId.{AttemptId}
use Rattle.qz_terms.specs.Lists.{first_of, in_order, placed}
use Rattle.qz_terms.specs.History.{attempt_before}

-- ---- the first so far

-- before the one that is found so far
abbrev pub comes_first : AttemptId → Option AttemptId → Bool
comes_first b None = true
comes_first b (Some c) = attempt_before b c

-- the first of what is found so far and one more, if that passes
abbrev pub sooner : (AttemptId → Bool) → Option AttemptId → Option AttemptId → Option AttemptId
sooner p found None = found
sooner p found (Some b) = if comes_first b found && p b then Some b else found

-- ---- the order

told-by : (x y : AttemptId) (less same : Bool) → nat_lt x.user y.user ≡ less → (x.user == y.user) ≡ same → (less || (same && nat_lt x.nth y.nth)) ≡ true → (x.user < y.user) ⊎ ((x.user ≡ y.user) × (x.nth < y.nth))
told-by x y true same is also told = inl (ltb-true x.user y.user is)
told-by x y false true is also told = inr (eqb-true x.user y.user also, ltb-true x.nth y.nth told)
told-by x y false false is also told = absurd cc

pub told : (x y : AttemptId) → attempt_before x y ≡ true → (x.user < y.user) ⊎ ((x.user ≡ y.user) × (x.nth < y.nth))
told x y is = told-by x y (nat_lt x.user y.user) (x.user == y.user) refl refl is

by-user : (x y : AttemptId) → x.user < y.user → attempt_before x y ≡ true
by-user x y less = rw (lt-ltb x.user y.user less) refl

pub or-right : (b c : Bool) → c ≡ true → b || c ≡ true
or-right true c is = refl
or-right false c is = is

pub by-number : (x y : AttemptId) → x.user ≡ y.user → x.nth < y.nth → attempt_before x y ≡ true
by-number x y same less =
    let user : eqb x.user y.user ≡ true = eq-eqb x.user y.user same in
    let number : ltb x.nth y.nth ≡ true = lt-ltb x.nth y.nth less in
    or-right (ltb x.user y.user) (eqb x.user y.user && ltb x.nth y.nth) (rw (user, number) refl)

pub before-after : (x y z : AttemptId) → attempt_before x y ≡ true → attempt_before y z ≡ true → attempt_before x z ≡ true
before-after x y z first second = elim (told x y first) [
  | inl less ↦ elim (told y z second) [
    | inl more ↦ by-user x z (omega arith)
    | inr same ↦ by-user x z (let is = same.0 in omega arith)
  ]
  | inr equal ↦ elim (told y z second) [
    | inl more ↦ by-user x z (let is = equal.0 in omega arith)
    | inr same ↦ by-number x z (equal.0 ∙ same.0) (let less = equal.1 in let more = same.1 in omega arith)
  ]
]

pub never-both : (x y : AttemptId) → attempt_before x y ≡ true → attempt_before y x ≡ true → ⊥
never-both x y is also = elim (told x y is) [
  | inl less ↦ elim (told y x also) [ inl more ↦ omega arith | inr same ↦ let is = same.0 in omega arith ]
  | inr equal ↦ elim (told y x also) [ inl more ↦ let is = equal.0 in omega arith | inr same ↦ let less = equal.1 in let more = same.1 in omega arith ]
]

one-by : (x y : AttemptId) (less more same : Bool) → nat_lt x.user y.user ≡ less → nat_lt y.user x.user ≡ more → (x.user == y.user) ≡ same → attempt_before x y ≡ false → attempt_before y x ≡ false → x ≡ y
one-by x y true more same is also equal first second = let less = by-user x y (ltb-true x.user y.user is) in absurd cc
one-by x y false true same is also equal first second = let less = by-user y x (ltb-true y.user x.user also) in absurd cc
one-by x y false false false is also equal first second = let below = ltb-false x.user y.user is in let above = ltb-false y.user x.user also in let apart = eqb-false x.user y.user equal in absurd (apart (omega arith))
one-by x y false false true is also equal first second =
    let user = eqb-true x.user y.user equal in
    let below = ltb-false x.nth y.nth (rw (is, equal) at first) in
    let above = ltb-false y.nth x.nth (rw (also, eq-eqb y.user x.user (sym user)) at second) in
    ap (λ u. record { user = u; nth = x.nth }) user ∙ ap (λ n. record { user = y.user; nth = n }) (let number : x.nth ≡ y.nth = omega arith in number)

-- they are one where neither comes before the other
pub one : (x y : AttemptId) → attempt_before x y ≡ false → attempt_before y x ≡ false → x ≡ y
one x y first second = one-by x y (nat_lt x.user y.user) (nat_lt y.user x.user) (x.user == y.user) refl refl refl first second

-- ---- lists in order

unfoldable pub Before : AttemptId → List AttemptId → Type 0
Before x [] = Unit {0}
Before x (y ∷ ys) = (attempt_before x y ≡ true) × Before x ys

unfoldable pub Rising : List AttemptId → Type 0
Rising [] = Unit {0}
Rising (x ∷ xs) = Before x xs × Rising xs

pub before-all : (x y : AttemptId) (ys : List AttemptId) → attempt_before x y ≡ true → Before y ys → Before x ys
unfolding Before
before-all x y [] is b = tt
before-all x y (z ∷ zs) is b = (before-after x y z is b.0, before-all x y zs is b.1)

before-placed-by : (w x y : AttemptId) (ys : List AttemptId) (b c : Bool) → attempt_before x y ≡ b → attempt_before y x ≡ c → attempt_before w x ≡ true → Before w (y ∷ ys) → Before w (placed attempt_before x ys) → Before w (placed attempt_before x (y ∷ ys))
unfolding Before
before-placed-by w x y ys true c is also first all rest = rw is (first, all)
before-placed-by w x y ys false true is also first all rest = rw (is, also) (all.0, rest)
before-placed-by w x y ys false false is also first all rest = rw (is, also) all

before-placed : (w x : AttemptId) (ys : List AttemptId) → attempt_before w x ≡ true → Before w ys → Before w (placed attempt_before x ys)
unfolding Before
before-placed w x [] first all = (first, tt)
before-placed w x (y ∷ ys) first all = before-placed-by w x y ys (attempt_before x y) (attempt_before y x) refl refl first all (before-placed w x ys first all.1)

rising-placed-by : (x y : AttemptId) (ys : List AttemptId) (b c : Bool) → attempt_before x y ≡ b → attempt_before y x ≡ c → Rising (y ∷ ys) → Rising (placed attempt_before x ys) → Rising (placed attempt_before x (y ∷ ys))
unfolding Before Rising
rising-placed-by x y ys true c is also rising rest = rw is ((is, before-all x y ys is rising.0), rising)
rising-placed-by x y ys false true is also rising rest = rw (is, also) (before-placed y x ys also rising.0, rest)
rising-placed-by x y ys false false is also rising rest = rw (is, also) rising

rising-placed : (x : AttemptId) (ys : List AttemptId) → Rising ys → Rising (placed attempt_before x ys)
unfolding Before Rising
rising-placed x [] rising = (tt, tt)
rising-placed x (y ∷ ys) rising = rising-placed-by x y ys (attempt_before x y) (attempt_before y x) refl refl rising (rising-placed x ys rising.1)

pub in_order-rises : (xs : List AttemptId) → Rising (in_order attempt_before xs)
unfolding Rising
in_order-rises [] = tt
in_order-rises (x ∷ xs) = rising-placed x (in_order attempt_before xs) (in_order-rises xs)

-- ---- the first that passes

-- of a list in order
abbrev pub first_passing : (AttemptId → Bool) → List AttemptId → Option AttemptId
first_passing p xs = first_of (filter p xs)

comes_first-by : (p : AttemptId → Bool) (x y : AttemptId) (ys : List AttemptId) (b : Bool) → p y ≡ b → attempt_before x y ≡ true → comes_first x (first_passing p ys) ≡ true → comes_first x (first_passing p (y ∷ ys)) ≡ true
comes_first-by p x y ys true is first rest = rw is first
comes_first-by p x y ys false is first rest = rw is rest

comes_first-all : (p : AttemptId → Bool) (x : AttemptId) (ys : List AttemptId) → Before x ys → comes_first x (first_passing p ys) ≡ true
unfolding Before
comes_first-all p x [] b = refl
comes_first-all p x (y ∷ ys) b = comes_first-by p x y ys (p y) refl b.0 (comes_first-all p x ys b.1)

first-ahead : (p : AttemptId → Bool) (x : AttemptId) (ys : List AttemptId) (b : Bool) → p x ≡ b → comes_first x (first_passing p ys) ≡ true → first_passing p (x ∷ ys) ≡ sooner p (first_passing p ys) (Some x)
first-ahead p x ys true is first = rw (is, first) refl
first-ahead p x ys false is first = rw (is, first) refl

first-behind : (p : AttemptId → Bool) (x y : AttemptId) (ys zs : List AttemptId) (b : Bool) → p y ≡ b → attempt_before x y ≡ false → first_passing p zs ≡ sooner p (first_passing p ys) (Some x) → first_passing p (y ∷ zs) ≡ sooner p (first_passing p (y ∷ ys)) (Some x)
first-behind p x y ys zs true is later rest = rw (is, later) refl
first-behind p x y ys zs false is later rest = rw is rest

first-again : (p : AttemptId → Bool) (x y : AttemptId) (ys : List AttemptId) (b : Bool) → p y ≡ b → x ≡ y → attempt_before x y ≡ false → first_passing p (y ∷ ys) ≡ sooner p (first_passing p (y ∷ ys)) (Some x)
first-again p x y ys true is same later = rw (is, later) refl
first-again p x y ys false is same later = let none : p x ≡ false = ap p same ∙ is in rw (is, none, and-false (comes_first x (first_passing p ys))) refl

first-placed-by : (p : AttemptId → Bool) (x y : AttemptId) (ys : List AttemptId) (b c : Bool) → attempt_before x y ≡ b → attempt_before y x ≡ c → Rising (y ∷ ys)
    → first_passing p (placed attempt_before x ys) ≡ sooner p (first_passing p ys) (Some x) → first_passing p (placed attempt_before x (y ∷ ys)) ≡ sooner p (first_passing p (y ∷ ys)) (Some x)
unfolding Before Rising
first-placed-by p x y ys true c is also rising rest = rw is (first-ahead p x (y ∷ ys) (p x) refl (comes_first-all p x (y ∷ ys) (is, before-all x y ys is rising.0)))
first-placed-by p x y ys false true is also rising rest = rw (is, also) (first-behind p x y ys (placed attempt_before x ys) (p y) refl is rest)
first-placed-by p x y ys false false is also rising rest = rw (is, also) (first-again p x y ys (p y) refl (one x y is also) is)

first-placed : (p : AttemptId → Bool) (x : AttemptId) (ys : List AttemptId) → Rising ys → first_passing p (placed attempt_before x ys) ≡ sooner p (first_passing p ys) (Some x)
unfolding Rising
first-placed p x [] rising = first-ahead p x [] (p x) refl refl
first-placed p x (y ∷ ys) rising = first-placed-by p x y ys (attempt_before x y) (attempt_before y x) refl refl rising (first-placed p x ys rising.1)

-- ---- one more

-- the first of a list in order, of one more that is met
pub first-more : (p : AttemptId → Bool) (x : AttemptId) (xs : List AttemptId) → first_passing p (in_order attempt_before (x ∷ xs)) ≡ sooner p (first_passing p (in_order attempt_before xs)) (Some x)
first-more p x xs = first-placed p x (in_order attempt_before xs) (in_order-rises xs)

-- ---- none is before one that is before it

pub never-back : (x y : AttemptId) (z : Bool) → attempt_before y x ≡ z → attempt_before x y ≡ true → z ≡ false
never-back x y true is before = absurd (never-both x y before is)
never-back x y false is before = refl

-- none comes before itself
not-before-by : (x : AttemptId) (z : Bool) → attempt_before x x ≡ z → z ≡ false
not-before-by x true is = absurd (never-both x x is is)
not-before-by x false is = refl

pub not-before : (x : AttemptId) → attempt_before x x ≡ false
not-before x = not-before-by x (attempt_before x x) refl
