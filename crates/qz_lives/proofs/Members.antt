-- The attempts of a quiz by a user that a list tells: they stand in order, and each is of that quiz and user.
use Rattle.std.proofs.Common.{◌≡◌, ℕ, ◌+◌, ◌<◌, Bool, true, false, ◌&&◌, ◌||◌, List, [], ◌∷◌, ◌++◌, Option, Some, None, option_map, refl, sym, ap, subst, ◌∙◌, append-nil, arith, eq-eqb, All}
use Rattle.std.specs.List.{AllPairs, list_any}
use Rattle.std.specs.Option.{option_or}
use Rattle.std.specs.Prelude.{◌==◌, filter_map, option_to_list, if◌then◌else◌}
use Rattle.std.proofs.lemmas.Bool.{eqb-true}
use Rattle.std.proofs.lemmas.List.Elements.{All-cons, All-head, All-nil, All-tail, filter_map-append}
use Rattle.std.proofs.lemmas.List.Folds.{list_any-append}
use Rattle.std.proofs.lemmas.List.Kept.{AllPairs-cons}
use Rattle.qz_grading.specs.declared.refusal.AttemptId.{AttemptId}
use Rattle.qz_terms.specs.declared.record.Event.{Event}
use Rattle.qz_terms.specs.declared.record.Event.TheVariants as event
use Rattle.qz_terms.specs.declared.record.Record.{Record}
use Rattle.qz_terms.specs.Legal.{EventIsAllowed, IsLegal}
use Rattle.qz_terms.specs.Lists.{in_order, placed}
use Rattle.qz_terms.specs.History.{Start, attempt_before, attempts, next_attempt, quiz, same_attempt, start, started, starts, starts_at}
use Rattle.qz_terms.proofs.Walks.{all_of-push, first_of-push, first_told_in}
use Rattle.qz_lives.proofs.Effects.{attempt_of, begins-first, made, one-attempt}
use Rattle.qz_lives.proofs.Following.{self-same}
use Rattle.qz_lives.proofs.Keeping.{and-left, and-right, start-record}
use Rattle.qz_lives.proofs.Legality.{by-prefixes, legal-before, started-number}
use Rattle.qz_lives.proofs.Orders.{Before, Rising, in_order-rises, one, or-right}

-- ---- a list in order

abbrev pub Earlier : AttemptId → AttemptId → Type 0
Earlier a b = attempt_before a b ≡ true

pub behind-all : (x : AttemptId) (xs : List AttemptId) → Before x xs → All (Earlier x) xs
unfolding Before
behind-all x [] b = All-nil (Earlier x)
behind-all x (y ∷ ys) b = All-cons (Earlier x) y ys b.0 (behind-all x ys b.1)

pairs-rising : (xs : List AttemptId) → Rising xs → AllPairs Earlier xs
unfolding Rising
pairs-rising [] r = λ i j d less within. absurd (omega arith)
pairs-rising (x ∷ xs) r = AllPairs-cons Earlier x xs (behind-all x xs r.0) (pairs-rising xs r.1)

pub in-order-rise : (xs : List AttemptId) → AllPairs Earlier (in_order attempt_before xs)
in-order-rise xs = pairs-rising (in_order attempt_before xs) (in_order-rises xs)

pub attempts-rise : (h : List Record) (q u : ℕ) → AllPairs Earlier (attempts h q u)
attempts-rise h q u = in-order-rise (filter_map (starts_at q u) h)

-- what holds of each holds of each in order
module _ (P : AttemptId → Type 0) where
  all-placed-by : (x y : AttemptId) (ys : List AttemptId) (b c : Bool) → attempt_before x y ≡ b → attempt_before y x ≡ c → P x → All P (y ∷ ys) → All P (placed attempt_before x ys) → All P (placed attempt_before x (y ∷ ys))
  all-placed-by x y ys true c is also first all rest = rw is (All-cons P x (y ∷ ys) first all)
  all-placed-by x y ys false true is also first all rest = rw (is, also) (All-cons P y (placed attempt_before x ys) (All-head P y ys all) rest)
  all-placed-by x y ys false false is also first all rest = rw (is, also) all

  all-placed : (x : AttemptId) (ys : List AttemptId) → P x → All P ys → All P (placed attempt_before x ys)
  all-placed x [] first all = All-cons P x [] first all
  all-placed x (y ∷ ys) first all = all-placed-by x y ys (attempt_before x y) (attempt_before y x) refl refl first all (all-placed x ys first (All-tail P y ys all))

  all-in_order : (xs : List AttemptId) → All P xs → All P (in_order attempt_before xs)
  all-in_order [] all = all
  all-in_order (x ∷ xs) all = all-placed x (in_order attempt_before xs) (All-head P x xs all) (all-in_order xs (All-tail P x xs all))

-- one is among them, whatever their order
module _ (a : AttemptId) where
  swap : (b c d : Bool) → b || (c || d) ≡ c || (b || d)
  swap true true d = refl
  swap true false d = refl
  swap false c d = refl

  twice : (b c : Bool) → b || c ≡ b || (b || c)
  twice true c = refl
  twice false c = refl

  any-placed-by : (x y : AttemptId) (ys : List AttemptId) (b c : Bool) → attempt_before x y ≡ b → attempt_before y x ≡ c → list_any (same_attempt a) (placed attempt_before x ys) ≡ same_attempt a x || list_any (same_attempt a) ys
      → list_any (same_attempt a) (placed attempt_before x (y ∷ ys)) ≡ same_attempt a x || list_any (same_attempt a) (y ∷ ys)
  any-placed-by x y ys true c is also rest = rw is refl
  any-placed-by x y ys false true is also rest = rw (is, also) (ap (λ (t : Bool). same_attempt a y || t) rest ∙ swap (same_attempt a y) (same_attempt a x) (list_any (same_attempt a) ys))
  any-placed-by x y ys false false is also rest = rw (is, also) (twice (same_attempt a y) (list_any (same_attempt a) ys) ∙ ap (λ (z : AttemptId). same_attempt a z || (same_attempt a y || list_any (same_attempt a) ys)) (sym (one x y is also)))

  any-placed : (x : AttemptId) (ys : List AttemptId) → list_any (same_attempt a) (placed attempt_before x ys) ≡ same_attempt a x || list_any (same_attempt a) ys
  any-placed x [] = refl
  any-placed x (y ∷ ys) = any-placed-by x y ys (attempt_before x y) (attempt_before y x) refl refl (any-placed x ys)

  any-in_order : (xs : List AttemptId) → list_any (same_attempt a) (in_order attempt_before xs) ≡ list_any (same_attempt a) xs
  any-in_order [] = refl
  any-in_order (x ∷ xs) = any-placed x (in_order attempt_before xs) ∙ ap (λ (t : Bool). same_attempt a x || t) (any-in_order xs)

-- ---- a start at a quiz

-- a record starts an attempt of a quiz by a user
pub record IsStartAt (r : Record) (q u : ℕ) (b : AttemptId) : Type 0 where
  pub begun : Start
  pub starts_it : started r ≡ Some begun
  pub at : begun.attempt ≡ b
  pub of_quiz : begun.quiz ≡ q
  pub user : b.user ≡ u

start-at-if : (r : Record) (q u : ℕ) (b : AttemptId) (s : Start) (z : Bool) → started r ≡ Some s → ((s.quiz == q) && (s.attempt.user == u)) ≡ z → option_map (λ (t : Start). t.attempt) (if z then Some s else None) ≡ Some b → IsStartAt r q u b
start-at-if r q u b s true starts_it is told =
    let at : s.attempt ≡ b = cc in
    record {
      begun = s;
      starts_it = starts_it;
      at = at;
      of_quiz = eqb-true s.quiz q (and-left (s.quiz == q) (s.attempt.user == u) is);
      user = ap (λ (c : AttemptId). c.user) (sym at) ∙ eqb-true s.attempt.user u (and-right (s.quiz == q) (s.attempt.user == u) is);
    }
start-at-if r q u b s false starts_it is told = absurd cc

start-at-by : (r : Record) (q u : ℕ) (b : AttemptId) (o : Option Start) → started r ≡ o → starts_at q u r ≡ Some b → IsStartAt r q u b
start-at-by r q u b None is told = let none : None ≡ Some b = rw is at told in absurd cc
start-at-by r q u b (Some s) is told = start-at-if r q u b s ((s.quiz == q) && (s.attempt.user == u)) is refl (rw is at told)

pub start-at : (r : Record) (q u : ℕ) (b : AttemptId) → starts_at q u r ≡ Some b → IsStartAt r q u b
start-at r q u b told = start-at-by r q u b (started r) refl told

users-by : (r : Record) (h : List Record) (q u : ℕ) (o : Option AttemptId) → starts_at q u r ≡ o → All (λ (a : AttemptId). a.user ≡ u) (filter_map (starts_at q u) h) → All (λ (a : AttemptId). a.user ≡ u) (filter_map (starts_at q u) (r ∷ h))
users-by r h q u None is rest = rw is rest
users-by r h q u (Some b) is rest = rw is (All-cons (λ (a : AttemptId). a.user ≡ u) b (filter_map (starts_at q u) h) (start-at r q u b is).user rest)

users : (h : List Record) (q u : ℕ) → All (λ (a : AttemptId). a.user ≡ u) (filter_map (starts_at q u) h)
users [] q u = All-nil (λ (a : AttemptId). a.user ≡ u)
users (r ∷ h) q u = users-by r h q u (starts_at q u r) refl (users h q u)

pub attempts-users : (h : List Record) (q u : ℕ) → All (λ (a : AttemptId). a.user ≡ u) (attempts h q u)
attempts-users h q u = all-in_order (λ (a : AttemptId). a.user ≡ u) (filter_map (starts_at q u) h) (users h q u)

-- ---- an attempt that was started is among those of its quiz and user

abbrev pub is_among : AttemptId → List AttemptId → Bool
is_among a xs = list_any (same_attempt a) xs

begins-if : (a : AttemptId) (r : Record) (s t : Start) (z : Bool) → same_attempt a t.attempt ≡ z → (if z then Some t else None) ≡ Some s → (t ≡ s) × (same_attempt a s.attempt ≡ true)
begins-if a r s t true is told = let same : t ≡ s = cc in (same, ap (λ (x : Start). same_attempt a x.attempt) (sym same) ∙ is)
begins-if a r s t false is told = absurd cc

begins-at : (a : AttemptId) (r : Record) (s : Start) (o : Option Start) → started r ≡ o → starts a r ≡ Some s → (starts_at s.quiz a.user r ≡ Some s.attempt) × (same_attempt a s.attempt ≡ true)
begins-at a r s None is told = let none : None ≡ Some s = rw is at told in absurd cc
begins-at a r s (Some t) is told =
    let both = begins-if a r s t (same_attempt a t.attempt) refl (rw is at told) in
    let user : a.user ≡ s.attempt.user = ap (λ (c : AttemptId). c.user) (one-attempt a s.attempt both.1) in
    let begun : started r ≡ Some s = is ∙ ap (λ (x : Start). Some x) both.0 in
    (rw (begun, eq-eqb s.quiz s.quiz refl, eq-eqb s.attempt.user a.user (sym user)) refl, both.1)

among-front : (a b : AttemptId) (xs ys : List AttemptId) → same_attempt a b ≡ true → is_among a (xs ++ b ∷ ys) ≡ true
among-front a b xs ys is = list_any-append (same_attempt a) xs (b ∷ ys) ∙ or-right (is_among a xs) (same_attempt a b || is_among a ys) (rw is refl)

pub among-own : (h : List Record) (a : AttemptId) (s : Start) → start h a ≡ Some s → is_among a (attempts h s.quiz a.user) ≡ true
among-own h a s is =
    let t = first_told_in (starts a) h s is in
    let here = begins-at a t.item s (started t.item) refl t.tells in
    let f = starts_at s.quiz a.user in
    let split : filter_map f h ≡ filter_map f t.front ++ s.attempt ∷ filter_map f t.rest = ap (filter_map f) t.stands ∙ filter_map-append f t.front (t.item ∷ t.rest) ∙ ap (λ (xs : List AttemptId). filter_map f t.front ++ xs) (rw here.0 refl) in
    any-in_order a (filter_map f h) ∙ ap (is_among a) split ∙ among-front a s.attempt (filter_map f t.front) (filter_map f t.rest) here.1

-- ---- in a legal list an attempt is of one quiz

pub record IsOf (h : List Record) (q u : ℕ) (a : AttemptId) : Type 0 where
  pub of_quiz : quiz h a ≡ Some q
  pub user : a.user ≡ u

record AreOf (q u : ℕ) (h : List Record) : Type 0 where
  each : (a : AttemptId) → is_among a (filter_map (starts_at q u) h) ≡ true → IsOf h q u a

-- a start of a legal list is the first of its attempt
first-start : (index count : ℕ) (l : List Record) (r : Record) (s : Start) (d : Event) → IsLegal index count l → r.event ≡ d → EventIsAllowed l r d → started r ≡ Some s → start l s.attempt ≡ None
first-start index count l r s (event.Started p n b bs ls) legal is allowed told =
    let number : n ≡ (next_attempt l r.owner).nth = started-number l r p n b bs ls is allowed.is_put in
    let made_it : Some (record { attempt = attempt_of r.owner n; moment = r.moment; quiz = p; behaviour = b; bounds = bs }) ≡ Some s = rw is at told in
    let at : attempt_of r.owner n ≡ s.attempt = cc in
    ap (start l) (sym at) ∙ begins-first index count l r.owner n (start l (attempt_of r.owner n)) legal number refl
first-start index count l r s d legal is allowed told = let none : None ≡ Some s = rw is at told in absurd cc

quiz-later : (o p : Option Start) (q : ℕ) → option_map (λ (s : Start). s.quiz) o ≡ Some q → option_map (λ (s : Start). s.quiz) (option_or o p) ≡ Some q
quiz-later None p q is = absurd cc
quiz-later (Some s) p q is = is

module _ (index count : ℕ) (q u : ℕ) (l : List Record) (r : Record) (legal : IsLegal index count l) (allowed : EventIsAllowed l r r.event) (so_far : AreOf q u l) where
  still-of : (a : AttemptId) → IsOf l q u a → IsOf (l ++ r ∷ []) q u a
  still-of a is = record { of_quiz = ap (option_map (λ (s : Start). s.quiz)) (first_of-push (starts a) l r) ∙ quiz-later (start l a) (starts a r) q is.of_quiz; user = is.user }

  new-of : (b : AttemptId) → starts_at q u r ≡ Some b → IsOf (l ++ r ∷ []) q u b
  new-of b told =
      let s = start-at r q u b told in
      let begun = s.begun in
      let first : start l b ≡ None = ap (start l) (sym s.at) ∙ first-start index count l r begun r.event legal refl allowed s.starts_it in
      let self : same_attempt b begun.attempt ≡ true = ap (same_attempt b) s.at ∙ self-same b in
      let here : starts b r ≡ Some begun = rw (s.starts_it, self) refl in
      let now : start (l ++ r ∷ []) b ≡ Some begun = first_of-push (starts b) l r ∙ ap (λ (o : Option Start). option_or o (starts b r)) first ∙ here in
      record { of_quiz = ap (option_map (λ (x : Start). x.quiz)) now ∙ ap (λ (n : ℕ). Some n) s.of_quiz; user = s.user }

  of-last : (a b : AttemptId) (z : Bool) → is_among a (filter_map (starts_at q u) l) ≡ z → starts_at q u r ≡ Some b → is_among a (filter_map (starts_at q u) l ++ b ∷ []) ≡ true → IsOf (l ++ r ∷ []) q u a
  of-last a b true is told member = still-of a (so_far.each a is)
  of-last a b false is told member =
      let last : same_attempt a b || false ≡ true = sym (list_any-append (same_attempt a) (filter_map (starts_at q u) l) (b ∷ []) ∙ rw is refl) ∙ member in
      let same : a ≡ b = one-attempt a b (or-false (same_attempt a b) last) in
      subst (IsOf (l ++ r ∷ []) q u) (sym same) (new-of b told)
    where
      or-false : (c : Bool) → c || false ≡ true → c ≡ true
      or-false true is = refl
      or-false false is = absurd cc

  of-more : (o : Option AttemptId) → starts_at q u r ≡ o → AreOf q u (l ++ r ∷ [])
  of-more None is = record { each = λ a member. still-of a (so_far.each a (ap (is_among a) (sym (all_of-push (starts_at q u) l r ∙ ap (λ (o : Option AttemptId). filter_map (starts_at q u) l ++ option_to_list o) is ∙ append-nil (filter_map (starts_at q u) l))) ∙ member)) }
  of-more (Some b) is = record { each = λ a member. of-last a b (is_among a (filter_map (starts_at q u) l)) refl is (ap (is_among a) (sym (all_of-push (starts_at q u) l r ∙ ap (λ (o : Option AttemptId). filter_map (starts_at q u) l ++ option_to_list o) is)) ∙ member) }

pub of-its-quiz : (index count : ℕ) (h : List Record) (q u : ℕ) (a : AttemptId) → IsLegal index count h → is_among a (attempts h q u) ≡ true → IsOf h q u a
of-its-quiz index count h q u a legal member =
    (by-prefixes (AreOf q u) h (record { each = λ b none. absurd cc }) (λ l r rest e so_far. of-more index count q u l r (legal-front index count h l r rest e legal) (legal.each l r rest e).event so_far (starts_at q u r) refl)).each a (sym (any-in_order a (filter_map (starts_at q u) h)) ∙ member)
  where
    legal-front : (index count : ℕ) (h l : List Record) (r : Record) (rest : List Record) → h ≡ l ++ r ∷ rest → IsLegal index count h → IsLegal index count l
    legal-front index count h l r rest e all = legal-before index count l (r ∷ rest) (subst (IsLegal index count) e all)

-- an attempt is numbered from 1
pub from-one : (index count : ℕ) (h : List Record) (a : AttemptId) (s : Start) → IsLegal index count h → start h a ≡ Some s → 0 < a.nth
from-one index count h a s legal is =
    let t = start-record h a s is in
    let allowed : EventIsAllowed t.front t.item (event.Started s.quiz a.nth s.behaviour s.bounds t.learned) = subst (EventIsAllowed t.front t.item) t.event (legal.each t.front t.item t.rest t.stands).event in
    let number : a.nth ≡ (next_attempt t.front t.item.owner).nth = started-number t.front t.item s.quiz a.nth s.behaviour s.bounds t.learned t.event allowed.is_put in
    let given : a.nth ≡ made t.front t.item.owner + 1 = number in
    omega arith
