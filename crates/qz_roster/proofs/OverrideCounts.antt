-- For how many quizzes and users or groups something is set otherwise, with one record more.
use Rattle.std.proofs.Common.{◌≡◌, ℕ, ◌+◌, ◌<◌, ◌≤◌, ◌⊎◌, inl, inr, Bool, true, false, not, ◌&&◌, ◌||◌, List, [], ◌∷◌, ◌++◌, Option, Some, None, length, refl, sym, ap, ◌∙◌, arith, append-nil}
use Rattle.std.specs.Int.{from_bool}
use Rattle.std.specs.List.{last_or, list_all, list_any}
use Rattle.std.specs.Prelude.{◌==◌, filter_map, if◌then◌else◌, is_some, nat_lt, option_to_list}
use Rattle.std.proofs.lemmas.Bool.{and_parts, eq-eqb, eqb-false, eqb-true, lt-ltb, ltb-false, ltb-true}
use Rattle.std.proofs.lemmas.List.Folds.{list_any-append}
use Rattle.qz_lemmas.proofs.Numbers.{number-turned}
use Rattle.qz_terms.specs.declared.access.Override.{Override}
use Rattle.qz_terms.specs.declared.record.Record.{Record}
use Rattle.qz_terms.specs.declared.request.Request.{Request}
use Rattle.qz_terms.specs.declared.request.Request.TheVariants as request
use Rattle.qz_terms.specs.declared.request.Whom.{Whom}
use Rattle.qz_terms.specs.declared.request.Whom.TheVariants as whom
use Rattle.qz_terms.specs.Catalog.{asked, override, override_by}
use Rattle.qz_terms.specs.Cause.{overridden, override_before, override_count}
use Rattle.qz_terms.specs.Lists.{in_order, placed}
use Rattle.qz_terms.proofs.Walks.{all_of-push}
use Rattle.qz_roster.specs.declared.overrides.Overrides.{Overrides}
use Rattle.qz_roster.specs.declared.told.Target.{Target as Whose}
use Rattle.qz_roster.specs.Overrides.{AreOverrides, set_otherwise}
use Rattle.qz_roster.proofs.Reading.{length-told, some-same}

-- ---- one number first, and then the rest

abbrev lex : ℕ → ℕ → Bool → Bool
lex a b rest = nat_lt a b || ((a == b) && rest)

lex-less : (a b : ℕ) (rest : Bool) → a < b → lex a b rest ≡ true
lex-less a b rest less = rw (lt-ltb a b less) refl

lex-same-by : (a b : ℕ) (rest less : Bool) → nat_lt a b ≡ less → a ≡ b → rest ≡ true → lex a b rest ≡ true
lex-same-by a b rest true is same holds = rw is refl
lex-same-by a b rest false is same holds = rw (is, eq-eqb a b same) holds

lex-told-by : (a b : ℕ) (rest less same : Bool) → nat_lt a b ≡ less → (a == b) ≡ same → (less || (same && rest)) ≡ true → (a < b) ⊎ ((a ≡ b) × (rest ≡ true))
lex-told-by a b rest true same is also told = inl (ltb-true a b is)
lex-told-by a b rest false true is also told = inr (eqb-true a b also, told)
lex-told-by a b rest false false is also told = absurd cc

lex-told : (a b : ℕ) (rest : Bool) → lex a b rest ≡ true → (a < b) ⊎ ((a ≡ b) × (rest ≡ true))
lex-told a b rest told = lex-told-by a b rest (nat_lt a b) (a == b) refl refl told

lex-after : (a b c : ℕ) (r s t : Bool) → lex a b r ≡ true → lex b c s ≡ true → (r ≡ true → s ≡ true → t ≡ true) → lex a c t ≡ true
lex-after a b c r s t first second later = elim (lex-told a b r first) [
  | inl less ↦ elim (lex-told b c s second) [
    | inl more ↦ lex-less a c t (omega arith)
    | inr same ↦ lex-less a c t (let is = same.0 in omega arith)
  ]
  | inr equal ↦ elim (lex-told b c s second) [
    | inl more ↦ lex-less a c t (let is = equal.0 in omega arith)
    | inr same ↦ lex-same-by a c t (nat_lt a c) refl (equal.0 ∙ same.0) (later equal.1 same.1)
  ]
]

lex-self-by : (a : ℕ) (rest less : Bool) → nat_lt a a ≡ less → rest ≡ false → lex a a rest ≡ false
lex-self-by a rest true is none = let less = ltb-true a a is in absurd (omega arith)
lex-self-by a rest false is none = rw (is, eq-eqb a a refl) none

lex-either-by : (a b : ℕ) (r s less more same : Bool) → nat_lt a b ≡ less → nat_lt b a ≡ more → (a == b) ≡ same → (less || (same && r)) ≡ false → lex b a s ≡ false → (a ≡ b) × ((r ≡ false) × (s ≡ false))
lex-either-by a b r s true more same is also equal first second = absurd cc
lex-either-by a b r s false true same is also equal first second = let more : true ≡ false = rw also at second in absurd cc
lex-either-by a b r s false false false is also equal first second = let below = ltb-false a b is in let above = ltb-false b a also in let apart = eqb-false a b equal in absurd (apart (omega arith))
lex-either-by a b r s false false true is also equal first second =
    let same = eqb-true a b equal in
    (same, (first, rw (also, eq-eqb b a (sym same)) at second))

lex-either : (a b : ℕ) (r s : Bool) → lex a b r ≡ false → lex b a s ≡ false → (a ≡ b) × ((r ≡ false) × (s ≡ false))
lex-either a b r s first second = lex-either-by a b r s (nat_lt a b) (nat_lt b a) (a == b) refl refl refl first second

-- ---- the order of targets

-- a quiz, and 0 and a user's number or 1 and a group's
abbrev Target : Type 0
Target = ℕ × (ℕ × ℕ)

abbrev same_target : Target → Target → Bool
same_target a b = (a.0 == b.0) && ((a.1.0 == b.1.0) && (a.1.1 == b.1.1))

last-self-by : (a : ℕ) (less : Bool) → nat_lt a a ≡ less → nat_lt a a ≡ false
last-self-by a true is = let less = ltb-true a a is in absurd (omega arith)
last-self-by a false is = is

before-self : (x : Target) → override_before x x ≡ false
before-self x = lex-self-by x.0 _ (nat_lt x.0 x.0) refl (lex-self-by x.1.0 _ (nat_lt x.1.0 x.1.0) refl (last-self-by x.1.1 (nat_lt x.1.1 x.1.1) refl))

last-after : (a b c : ℕ) → nat_lt a b ≡ true → nat_lt b c ≡ true → nat_lt a c ≡ true
last-after a b c first second = let less = ltb-true a b first in let more = ltb-true b c second in lt-ltb a c (omega arith)

before-after : (x y z : Target) → override_before x y ≡ true → override_before y z ≡ true → override_before x z ≡ true
before-after x y z first second = lex-after x.0 y.0 z.0 _ _ _ first second (λ p q. lex-after x.1.0 y.1.0 z.1.0 _ _ _ p q (λ s t. last-after x.1.1 y.1.1 z.1.1 s t))

before-either : (x y : Target) → override_before x y ≡ false → override_before y x ≡ false → same_target x y ≡ true
before-either x y first second =
    let one = lex-either x.0 y.0 _ _ first second in
    let two = lex-either x.1.0 y.1.0 _ _ one.1.0 one.1.1 in
    let below = ltb-false x.1.1 y.1.1 two.1.0 in
    let above = ltb-false y.1.1 x.1.1 two.1.1 in
    rw (eq-eqb x.0 y.0 one.0, eq-eqb x.1.0 y.1.0 two.0) (eq-eqb x.1.1 y.1.1 (omega arith))

same-is : (x y : Target) → same_target x y ≡ true → x ≡ y
same-is x y same =
    let one = and_parts (x.0 == y.0) _ same in
    let two = and_parts (x.1.0 == y.1.0) _ one.1 in
    let first : x.0 ≡ y.0 = eqb-true x.0 y.0 one.0 in
    let second : x.1.0 ≡ y.1.0 = eqb-true x.1.0 y.1.0 two.0 in
    let third : x.1.1 ≡ y.1.1 = eqb-true x.1.1 y.1.1 two.1 in
    λ i. (first i, (second i, third i))

same-self : (x : Target) → same_target x x ≡ true
same-self x = rw (eq-eqb x.0 x.0 refl, eq-eqb x.1.0 x.1.0 refl) (eq-eqb x.1.1 x.1.1 refl)

-- ---- a list in order

data IsOrdered : List Target → Type 0 where
  none : IsOrdered []
  more : {y : Target} {ys : List Target} → list_all (override_before y) ys ≡ true → IsOrdered ys → IsOrdered (y ∷ ys)

all-later : (x y : Target) (ys : List Target) → override_before x y ≡ true → list_all (override_before y) ys ≡ true → list_all (override_before x) ys ≡ true
all-later x y [] before all = refl
all-later x y (z ∷ zs) before all =
    let parts = and_parts (override_before y z) _ all in
    rw (before-after x y z before parts.0) (all-later x y zs before parts.1)

apart-by : (x y : Target) (b : Bool) → same_target x y ≡ b → override_before x y ≡ true → same_target x y ≡ false
apart-by x y true is before = let same = same-is x y is in let none : override_before x y ≡ false = ap (override_before x) (sym same) ∙ before-self x in absurd cc
apart-by x y false is before = is

apart-back : (x y : Target) (b : Bool) → same_target x y ≡ b → override_before y x ≡ true → same_target x y ≡ false
apart-back x y true is before = let same = same-is x y is in let none : override_before y x ≡ false = ap (override_before y) same ∙ before-self y in absurd cc
apart-back x y false is before = is

none-later : (x : Target) (ys : List Target) → list_all (override_before x) ys ≡ true → list_any (same_target x) ys ≡ false
none-later x [] all = refl
none-later x (y ∷ ys) all =
    let parts = and_parts (override_before x y) _ all in
    rw (apart-by x y (same_target x y) refl parts.0) (none-later x ys parts.1)

all-placed-by : (z x y : Target) (ys : List Target) (b c : Bool) → override_before x y ≡ b → override_before y x ≡ c → override_before z x ≡ true → override_before z y ≡ true → list_all (override_before z) ys ≡ true → list_all (override_before z) (placed override_before x ys) ≡ true → list_all (override_before z) (placed override_before x (y ∷ ys)) ≡ true
all-placed-by z x y ys true c is also first second all rest = rw (is, first, second) all
all-placed-by z x y ys false true is also first second all rest = rw (is, also, second) rest
all-placed-by z x y ys false false is also first second all rest = rw (is, also, second) all

all-placed : (z x : Target) (ys : List Target) → override_before z x ≡ true → list_all (override_before z) ys ≡ true → list_all (override_before z) (placed override_before x ys) ≡ true
all-placed z x [] first all = rw first refl
all-placed z x (y ∷ ys) first all =
    let parts = and_parts (override_before z y) _ all in
    all-placed-by z x y ys (override_before x y) (override_before y x) refl refl first parts.0 parts.1 (all-placed z x ys first parts.1)

ordered-placed-by : (x y : Target) (ys : List Target) (b c : Bool) → override_before x y ≡ b → override_before y x ≡ c → list_all (override_before y) ys ≡ true → IsOrdered ys → IsOrdered (placed override_before x ys) → IsOrdered (placed override_before x (y ∷ ys))
ordered-placed-by x y ys true c is also all ordered rest =
    let later : list_all (override_before x) (y ∷ ys) ≡ true = rw is (all-later x y ys is all) in
    let whole : IsOrdered (x ∷ y ∷ ys) = more later (more all ordered) in
    rw is whole
ordered-placed-by x y ys false true is also all ordered rest =
    let whole : IsOrdered (y ∷ placed override_before x ys) = more (all-placed y x ys also all) rest in
    rw (is, also) whole
ordered-placed-by x y ys false false is also all ordered rest =
    let whole : IsOrdered (y ∷ ys) = more all ordered in
    rw (is, also) whole

ordered-placed : (x : Target) (ys : List Target) → IsOrdered ys → IsOrdered (placed override_before x ys)
ordered-placed x [] none = more refl none
ordered-placed x (y ∷ ys) (more all ordered) = ordered-placed-by x y ys (override_before x y) (override_before y x) refl refl all ordered (ordered-placed x ys ordered)

in_order-ordered : (xs : List Target) → IsOrdered (in_order override_before xs)
in_order-ordered [] = none
in_order-ordered (x ∷ xs) = ordered-placed x (in_order override_before xs) (in_order-ordered xs)

-- ---- what is found in it

or-swap : (a b c : Bool) → (b || (a || c)) ≡ (a || (b || c))
or-swap true true c = refl
or-swap true false c = refl
or-swap false b c = refl

or-twice : (a c : Bool) → (a || c) ≡ (a || (a || c))
or-twice true c = refl
or-twice false c = refl

found-placed-by : (k x y : Target) (ys : List Target) (b c : Bool) → override_before x y ≡ b → override_before y x ≡ c → list_any (same_target k) (placed override_before x ys) ≡ (same_target k x || list_any (same_target k) ys) → list_any (same_target k) (placed override_before x (y ∷ ys)) ≡ (same_target k x || list_any (same_target k) (y ∷ ys))
found-placed-by k x y ys true c is also rest = rw is refl
found-placed-by k x y ys false true is also rest = rw (is, also, rest) (or-swap (same_target k x) (same_target k y) (list_any (same_target k) ys))
found-placed-by k x y ys false false is also rest =
    let same = same-is x y (before-either x y is also) in
    rw (is, also, same) (or-twice (same_target k y) (list_any (same_target k) ys))

found-placed : (k x : Target) (ys : List Target) → list_any (same_target k) (placed override_before x ys) ≡ (same_target k x || list_any (same_target k) ys)
found-placed k x [] = refl
found-placed k x (y ∷ ys) = found-placed-by k x y ys (override_before x y) (override_before y x) refl refl (found-placed k x ys)

found-in_order : (k : Target) (xs : List Target) → list_any (same_target k) (in_order override_before xs) ≡ list_any (same_target k) xs
found-in_order k [] = refl
found-in_order k (x ∷ xs) = found-placed k x (in_order override_before xs) ∙ ap (λ (b : Bool). same_target k x || b) (found-in_order k xs)

-- ---- how many

length-placed-by : (x y : Target) (ys : List Target) (b c : Bool) → override_before x y ≡ b → override_before y x ≡ c → list_all (override_before y) ys ≡ true
    → length (placed override_before x ys) ≡ length ys + from_bool (not (list_any (same_target x) ys)) → length (placed override_before x (y ∷ ys)) ≡ length (y ∷ ys) + from_bool (not (list_any (same_target x) (y ∷ ys)))
length-placed-by x y ys true c is also all rest = rw (is, apart-by x y (same_target x y) refl is, none-later x ys (all-later x y ys is all)) (omega arith)
length-placed-by x y ys false true is also all rest =
    let apart : same_target x y ≡ false = apart-back x y (same_target x y) refl also in
    rw (is, also, apart) (let l = rest in omega arith)
length-placed-by x y ys false false is also all rest = rw (is, also, before-either x y is also) (omega arith)

length-placed : (x : Target) (ys : List Target) → IsOrdered ys → length (placed override_before x ys) ≡ length ys + from_bool (not (list_any (same_target x) ys))
length-placed x [] none = refl
length-placed x (y ∷ ys) (more all ordered) = length-placed-by x y ys (override_before x y) (override_before y x) refl refl all (length-placed x ys ordered)

one-target : (x : Target) (xs : List Target) → length (in_order override_before (x ∷ xs)) ≡ length (in_order override_before xs) + from_bool (not (list_any (same_target x) xs))
one-target x xs = length-placed x (in_order override_before xs) (in_order-ordered xs) ∙ ap (λ (b : Bool). length (in_order override_before xs) + from_bool (not b)) (found-in_order x xs)

-- ---- one target more at the end

or-met : (a : Bool) → (a || (true || false)) ≡ true
or-met true = refl
or-met false = refl

or-none : (a : Bool) → (a || (false || false)) ≡ a
or-none true = refl
or-none false = refl

apart-turned : (x y : Target) (b : Bool) → same_target y x ≡ b → same_target x y ≡ false → same_target y x ≡ false
apart-turned x y true is apart =
    let same = same-is y x is in
    let none : false ≡ true = sym apart ∙ ap (same_target x) same ∙ same-self x in
    absurd cc
apart-turned x y false is apart = is

last-target-by : (x y : Target) (ys : List Target) (b : Bool) → same_target x y ≡ b → length (in_order override_before (ys ++ x ∷ [])) ≡ length (in_order override_before ys) + from_bool (not (list_any (same_target x) ys))
    → length (in_order override_before (y ∷ (ys ++ x ∷ []))) ≡ length (in_order override_before (y ∷ ys)) + from_bool (not (list_any (same_target x) (y ∷ ys)))
last-target-by x y ys true is rest =
    let same = same-is x y is in
    let met : list_any (same_target y) (ys ++ x ∷ []) ≡ true = list_any-append (same_target y) ys (x ∷ []) ∙ ap (λ (b : Bool). list_any (same_target y) ys || (b || false)) (ap (same_target y) same ∙ same-self y) ∙ or-met (list_any (same_target y) ys) in
    let front : length (in_order override_before (y ∷ (ys ++ x ∷ []))) ≡ length (in_order override_before (ys ++ x ∷ [])) + 0 = one-target y (ys ++ x ∷ []) ∙ ap (λ (b : Bool). length (in_order override_before (ys ++ x ∷ [])) + from_bool (not b)) met in
    let back = one-target y ys in
    let bit : from_bool (not (list_any (same_target x) ys)) ≡ from_bool (not (list_any (same_target y) ys)) = ap (λ (t : Target). from_bool (not (list_any (same_target t) ys))) same in
    rw is (omega (arith, front, rest, back, bit))
last-target-by x y ys false is rest =
    let apart = apart-turned x y (same_target y x) refl is in
    let met : list_any (same_target y) (ys ++ x ∷ []) ≡ list_any (same_target y) ys = list_any-append (same_target y) ys (x ∷ []) ∙ ap (λ (b : Bool). list_any (same_target y) ys || (b || false)) apart ∙ or-none (list_any (same_target y) ys) in
    let front : length (in_order override_before (y ∷ (ys ++ x ∷ []))) ≡ length (in_order override_before (ys ++ x ∷ [])) + from_bool (not (list_any (same_target y) ys)) = one-target y (ys ++ x ∷ []) ∙ ap (λ (b : Bool). length (in_order override_before (ys ++ x ∷ [])) + from_bool (not b)) met in
    let back = one-target y ys in
    rw is (omega (arith, front, rest, back))

last-target : (x : Target) (ys : List Target) → length (in_order override_before (ys ++ x ∷ [])) ≡ length (in_order override_before ys) + from_bool (not (list_any (same_target x) ys))
last-target x [] = refl
last-target x (y ∷ ys) = last-target-by x y ys (same_target x y) refl (last-target x ys)

bit-few : (b : Bool) → from_bool b ≤ 1
bit-few true = omega arith
bit-few false = omega arith

in_order-few : (xs : List Target) → length (in_order override_before xs) ≤ length xs
in_order-few [] = omega arith
in_order-few (x ∷ xs) =
    let bit = bit-few (not (list_any (same_target x) xs)) in
    omega (arith, in_order-few xs, one-target x xs, bit)

-- ---- what is set for a target

abbrev target : ℕ → Whom → ℕ → Target
target q whom.User n = (q, (0, n))
target q whom.Group n = (q, (1, n))

abbrev is_for_by : Target → Option Target → Bool
is_for_by t None = false
is_for_by t (Some u) = same_target t u

abbrev targets : List Record → List Target
targets c = filter_map (λ r. overridden (asked r)) c

some-if : {A : Type 0} (b : Bool) (x : A) → is_some (if b then Some x else None) ≡ b
some-if true x = refl
some-if false x = refl

-- with a bit that says whether both are users, or both are groups
told-parts : (quiz q number n : ℕ) (k : Bool) (set : Override) → is_some (if (quiz == q) && (k && (number == n)) then Some set else None) ≡ ((q == quiz) && (k && (n == number)))
told-parts quiz q number n k set =
    some-if ((quiz == q) && (k && (number == n))) set
    ∙ ap (λ (b : Bool). b && (k && (number == n))) (number-turned quiz q)
    ∙ ap (λ (b : Bool). (q == quiz) && (k && b)) (number-turned number n)

told-for : (o : Option Request) (q : ℕ) (w : Whom) (n : ℕ) → is_some (override_by q w n o) ≡ is_for_by (target q w n) (overridden o)
told-for (Some (request.Override quiz whom.User number opens closes limit allowed)) q whom.User n = told-parts quiz q number n true (record { opens = opens; closes = closes; limit = limit; allowed = allowed })
told-for (Some (request.Override quiz whom.User number opens closes limit allowed)) q whom.Group n = told-parts quiz q number n false (record { opens = opens; closes = closes; limit = limit; allowed = allowed })
told-for (Some (request.Override quiz whom.Group number opens closes limit allowed)) q whom.User n = told-parts quiz q number n false (record { opens = opens; closes = closes; limit = limit; allowed = allowed })
told-for (Some (request.Override quiz whom.Group number opens closes limit allowed)) q whom.Group n = told-parts quiz q number n true (record { opens = opens; closes = closes; limit = limit; allowed = allowed })
told-for (Some x) q w n = refl
told-for None q w n = refl

there-by : {A B : Type 0} (f : A → Option B) (x : A) (xs : List A) (o p : Option B) → f x ≡ p → ((b : Option B) → is_some (last_or b (filter_map f xs)) ≡ (is_some b || list_any (λ y. is_some (f y)) xs))
    → is_some (last_or o (filter_map f (x ∷ xs))) ≡ (is_some o || list_any (λ y. is_some (f y)) (x ∷ xs))
there-by f x xs o None is rest = rw is (rest o)
there-by f x xs None (Some y) is rest = rw is (rest (Some y))
there-by f x xs (Some z) (Some y) is rest = rw is (rest (Some y))

-- the last is there where one is
last-there : {A B : Type 0} (f : A → Option B) (xs : List A) (o : Option B) → is_some (last_or o (filter_map f xs)) ≡ (is_some o || list_any (λ x. is_some (f x)) xs)
last-there f [] None = refl
last-there f [] (Some y) = refl
last-there f (x ∷ xs) o = there-by f x xs o (f x) refl (last-there f xs)

met-by : (q : ℕ) (w : Whom) (n : ℕ) (r : Record) (c : List Record) (o : Option Target) → overridden (asked r) ≡ o → list_any (λ s. is_some (override_by q w n (asked s))) c ≡ list_any (same_target (target q w n)) (targets c)
    → (is_for_by (target q w n) o || list_any (λ s. is_some (override_by q w n (asked s))) c) ≡ list_any (same_target (target q w n)) (targets (r ∷ c))
met-by q w n r c None is rest = rw is rest
met-by q w n r c (Some t) is rest = rw is (ap (λ (b : Bool). same_target (target q w n) t || b) rest)

met : (q : ℕ) (w : Whom) (n : ℕ) (c : List Record) → list_any (λ s. is_some (override_by q w n (asked s))) c ≡ list_any (same_target (target q w n)) (targets c)
met q w n [] = refl
met q w n (r ∷ c) =
    ap (λ (b : Bool). b || list_any (λ s. is_some (override_by q w n (asked s))) c) (told-for (asked r) q w n)
    ∙ met-by q w n r c (overridden (asked r)) refl (met q w n c)

override-there : (c : List Record) (q : ℕ) (w : Whom) (n : ℕ) → is_some (override c q w n) ≡ list_any (same_target (target q w n)) (targets c)
override-there c q w n = last-there (λ s. override_by q w n (asked s)) c None ∙ met q w n c

-- ---- one record more

not-not : (b : Bool) → not (not b) ≡ b
not-not true = refl
not-not false = refl

overridden-told : (o : Option Request) (t : Whose) (set : Override) → set_otherwise o ≡ Some (t, set) → overridden o ≡ Some (target t.quiz t.whom t.number)
overridden-told (Some (request.Override quiz whom.User number opens closes limit allowed)) t set is =
    ap (λ (p : Whose × Override). Some (target p.0.quiz p.0.whom p.0.number)) (some-same (record { quiz = quiz; whom = whom.User; number = number }, record { opens = opens; closes = closes; limit = limit; allowed = allowed }) (t, set) is)
overridden-told (Some (request.Override quiz whom.Group number opens closes limit allowed)) t set is =
    ap (λ (p : Whose × Override). Some (target p.0.quiz p.0.whom p.0.number)) (some-same (record { quiz = quiz; whom = whom.Group; number = number }, record { opens = opens; closes = closes; limit = limit; allowed = allowed }) (t, set) is)
overridden-told (Some x) t set is = absurd cc
overridden-told None t set is = absurd cc

overridden-none : (o : Option Request) → set_otherwise o ≡ None → overridden o ≡ None
overridden-none (Some (request.Override quiz w number opens closes limit allowed)) is = absurd cc
overridden-none (Some x) is = refl
overridden-none None is = refl

count-push : (c : List Record) (r : Record) → override_count (c ++ r ∷ []) ≡ length (in_order override_before (targets c ++ option_to_list (overridden (asked r))))
count-push c r = ap (λ (ts : List Target). length (in_order override_before ts)) (all_of-push (λ s. overridden (asked s)) c r)

pub override_count-few : (c : List Record) → override_count c ≤ length c
override_count-few c = omega (arith, in_order-few (targets c), length-told (λ (s : Record). overridden (asked s)) c)

pub override_count-same : (c : List Record) (r : Record) → set_otherwise (asked r) ≡ None → override_count (c ++ r ∷ []) ≡ override_count c
override_count-same c r told =
    count-push c r
    ∙ ap (λ (o : Option Target). length (in_order override_before (targets c ++ option_to_list o))) (overridden-none (asked r) told)
    ∙ ap (λ (ts : List Target). length (in_order override_before ts)) (append-nil (targets c))

-- a target counts once, when something is set for it first
pub override_count-more : (c : List Record) (r : Record) (o : Overrides) (t : Whose) (set : Override) (first : Bool) → AreOverrides c o → set_otherwise (asked r) ≡ Some (t, set) → is_some (override c t.quiz t.whom t.number) ≡ not first
    → o.count + from_bool first ≡ override_count (c ++ r ∷ [])
override_count-more c r o t set first are told is =
    let new : not (list_any (same_target (target t.quiz t.whom t.number)) (targets c)) ≡ first = ap not (sym (override-there c t.quiz t.whom t.number) ∙ is) ∙ not-not first in
    ap (λ (n : ℕ). n + from_bool first) are.count
    ∙ ap (λ (b : Bool). override_count c + from_bool b) (sym new)
    ∙ sym (count-push c r ∙ ap (λ (p : Option Target). length (in_order override_before (targets c ++ option_to_list p))) (overridden-told (asked r) t set told) ∙ last-target (target t.quiz t.whom t.number) (targets c))
