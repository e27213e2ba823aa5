-- The attempts of users, one start more at a time.
use Rattle.std.proofs.Common.{◌≡◌, ℕ, ◌+◌, ◌<◌, ◌≤◌, inl, inr, Bool, true, false, ◌&&◌, List, [], ◌∷◌, ◌++◌, Option, Some, None, refl, sym, ap, subst, ◌∙◌, append_assoc, append-nil, arith, option_map, eq-eqb}
use Rattle.std.specs.declared.cmp.Ordering.{Ordering}
use Rattle.std.specs.declared.cmp.Ordering.TheVariants.{Less, Equal, Greater}
use Rattle.std.specs.BTreeMap.{get}
use Rattle.std.specs.List.{AllByRecursion}
use Rattle.std.specs.List.Sorted.{IsStrictlySortedBy}
use Rattle.std.specs.Ordering.{is_lt, nat_cmp, ordering_then}
use Rattle.std.specs.Prelude.{◌||◌, filter_map, option_to_list, is_some, if◌then◌else◌, nat_lt, unwrap_or, ◌==◌}
use Rattle.std.proofs.lemmas.Bool.{eqb-true}
use Rattle.std.proofs.lemmas.Bool.Decides.{nat_tests}
use Rattle.std.proofs.lemmas.Cmp.{nat_cmp_total, on_total, then_total}
use Rattle.std.proofs.lemmas.Map.Lookups.{CmpEqualImpliesEq, exact_unsigned}
use Rattle.qz_lemmas.proofs.Bools.{and-right}
use Rattle.qz_grading.specs.declared.refusal.AttemptId.{AttemptId}
use Rattle.qz_grading.specs.declared.outcome.Behaviour.{Behaviour}
use Rattle.qz_terms.specs.declared.plan.Bound.{Bound}
use Rattle.qz_terms.specs.declared.record.Event.{Event}
use Rattle.qz_terms.specs.declared.record.Event.TheVariants as event
use Rattle.qz_terms.specs.declared.record.Learned.{Learned}
use Rattle.qz_terms.specs.declared.record.Record.{Record}
use Rattle.qz_terms.specs.Lists.{how_many}
use Rattle.qz_terms.specs.History.{Start, attempt_before, attempts, is_owned, next_attempt, start_by, started, starts_at}
use Rattle.qz_terms.proofs.Walks.{all_of-push, how_many-push, split-push}
use Rattle.qz_index.specs.declared.attempts.Attempts.{Attempts}
use Rattle.qz_index.specs.declared.takers.Takers.{Takers}
use Rattle.qz_index.specs.Attempts.{AreAttempts, AreNumbered, IsNext, attempts_at, taken}
use Rattle.qz_index.proofs.Sorting.{IsOrderOf, all-push, all-weaker, in_order-is, sorted-push}

-- ---- the order of users, and that of attempts

pub users_order : IsOrderOf nat_cmp nat_lt
users_order = record { total = nat_cmp_total; exact = exact_unsigned; is = λ x y. grind (arith, nat_tests) }

abbrev pub id_cmp : AttemptId → AttemptId → Ordering
id_cmp a b = ordering_then (nat_cmp a.user b.user) (nat_cmp a.nth b.nth)

then-equal : (o p : Ordering) → ordering_then o p ≡ Equal → (o ≡ Equal) × (p ≡ Equal)
then-equal Less p is = absurd cc
then-equal Equal p is = (refl, is)
then-equal Greater p is = absurd cc

id-exact : CmpEqualImpliesEq id_cmp
id-exact x y is =
    let parts = then-equal (nat_cmp x.user y.user) (nat_cmp x.nth y.nth) is in
    let user : x.user ≡ y.user = exact_unsigned x.user y.user parts.0 in
    let number : x.nth ≡ y.nth = exact_unsigned x.nth y.nth parts.1 in
    ap (λ u. record { user = u; nth = x.nth }) user ∙ ap (λ n. record { user = y.user; nth = n }) number

then-less : (a b c d : ℕ) → (nat_lt a b || ((a == b) && nat_lt c d)) ≡ is_lt (ordering_then (nat_cmp a b) (nat_cmp c d))
then-less a b c d = grind (arith, nat_tests)

pub ids_order : IsOrderOf id_cmp attempt_before
ids_order = record {
  total = then_total (on_total (λ (a : AttemptId). a.user) nat_cmp_total) (on_total (λ (a : AttemptId). a.nth) nat_cmp_total);
  exact = id-exact;
  is = λ x y. then-less x.user y.user x.nth y.nth;
}

nat-less : (x y : ℕ) → x < y → nat_cmp x y ≡ Less
nat-less x y less = grind (arith, nat_tests)

nat-same : (x y : ℕ) → x ≡ y → nat_cmp x y ≡ Equal
nat-same x y same = grind (arith, nat_tests)

-- ---- lists whose starts are numbered

never-split : (l : List Record) (r : Record) (rest : List Record) → [] ≡ l ++ r ∷ rest → ⊥
never-split [] r rest e = absurd cc
never-split (x ∷ l) r rest e = absurd cc

pub numbered-none : AreNumbered []
numbered-none = record { each = λ l r rest e. absurd (never-split l r rest e) }

pub numbered-push : (h : List Record) (r : Record) → AreNumbered h → IsNext h r → AreNumbered (h ++ r ∷ [])
numbered-push h r are next = record {
  each = λ k s rest e. elim (split-push h k r s rest e) [
    | inl same ↦ subst (λ (t : List Record). IsNext t s) same.0 (subst (λ (t : Record). IsNext h t) same.1 next)
    | inr behind ↦ are.each k s behind.0 behind.1
  ];
}

go-on : (P : List Record → Type 0) (h : List Record) → ((l : List Record) (x : Record) (rest : List Record) → h ≡ l ++ x ∷ rest → P l → P (l ++ x ∷ [])) → (l rest : List Record) → h ≡ l ++ rest → P l → P h
go-on P h step l [] e p = subst P (sym (e ∙ append-nil l)) p
go-on P h step l (x ∷ rest) e p = go-on P h step (l ++ x ∷ []) rest (e ∙ sym (append_assoc l (x ∷ []) rest)) (step l x rest e p)

-- ---- the attempts of a user

abbrev starts_one : ℕ → Record → Bool
starts_one u r = is_owned u r && is_some (started r)

abbrev made : List Record → ℕ → ℕ
made l u = how_many (starts_one u) l

-- a start of a user's attempt is numbered, and counts
record IsNumbered (l : List Record) (r : Record) (u : ℕ) (a : AttemptId) : Type 0 where
  user : a.user ≡ u
  number : a.nth ≡ made l u + 1
  counts : starts_one u r ≡ true

numbered-by : (l : List Record) (r : Record) (u : ℕ) (a : AttemptId) (s : Start) (b : Bool) → started r ≡ Some s → s.attempt ≡ next_attempt l r.owner → (b ≡ true → s.attempt.user ≡ u) → option_map (λ (t : Start). t.attempt) (if b then Some s else None) ≡ Some a → IsNumbered l r u a
numbered-by l r u a s true is next test told =
    let same : s.attempt ≡ a = cc in
    let user : s.attempt.user ≡ u = test refl in
    let owner : r.owner ≡ u = sym (ap (λ (t : AttemptId). t.user) next) ∙ user in
    record {
      user = ap (λ (t : AttemptId). t.user) (sym same) ∙ user;
      number = ap (λ (t : AttemptId). t.nth) (sym same) ∙ ap (λ (t : AttemptId). t.nth) next ∙ ap (λ v. (next_attempt l v).nth) owner;
      counts = rw (eq-eqb r.owner u owner, is) refl;
    }
numbered-by l r u a s false is next test told = absurd cc

numbered : (l : List Record) (r : Record) (q u : ℕ) (a : AttemptId) (o : Option Start) → started r ≡ o → IsNext l r → starts_at q u r ≡ Some a → IsNumbered l r u a
numbered l r q u a None is next told = let none : None ≡ Some a = rw is at told in absurd cc
numbered l r q u a (Some s) is next told = numbered-by l r u a s ((s.quiz == q) && (s.attempt.user == u)) is (next.numbered s is) (λ t. eqb-true s.attempt.user u (and-right (s.quiz == q) (s.attempt.user == u) t)) (rw is at told)

-- of the user, and numbered up to this
abbrev IsUpTo : ℕ → ℕ → AttemptId → Type 0
IsUpTo u n a = (a.user ≡ u) × (a.nth ≤ n)

record IsRising (q u : ℕ) (l : List Record) : Type 0 where
  sorted : IsStrictlySortedBy id_cmp (filter_map (starts_at q u) l)
  up_to : AllByRecursion (IsUpTo u (made l u)) (filter_map (starts_at q u) l)

made-more : (l : List Record) (r : Record) (u : ℕ) (b : Bool) → starts_one u r ≡ b → made l u ≤ made (l ++ r ∷ []) u
made-more l r u true is = let more = how_many-push (starts_one u) l r true is in omega arith
made-more l r u false is = let more = how_many-push (starts_one u) l r false is in omega arith

up_to-more : (u n m : ℕ) (a : AttemptId) → n ≤ m → IsUpTo u n a → IsUpTo u m a
up_to-more u n m a less is = (is.0, let few : a.nth ≤ n = is.1 in omega arith)

less-than : (u n : ℕ) (y x : AttemptId) → y.user ≡ u → n < y.nth → IsUpTo u n x → id_cmp x y ≡ Less
less-than u n y x same more is =
    let user : nat_cmp x.user y.user ≡ Equal = nat-same x.user y.user (is.0 ∙ sym same) in
    let number : nat_cmp x.nth y.nth ≡ Less = nat-less x.nth y.nth (let few : x.nth ≤ n = is.1 in omega arith) in
    rw (user, number) refl

rising-by : (l : List Record) (r : Record) (q u : ℕ) (o : Option AttemptId) → starts_at q u r ≡ o → ((a : AttemptId) → starts_at q u r ≡ Some a → IsNumbered l r u a) → IsRising q u l → IsRising q u (l ++ r ∷ [])
rising-by l r q u None is numbered_it so_far =
    let same : filter_map (starts_at q u) (l ++ r ∷ []) ≡ filter_map (starts_at q u) l = all_of-push (starts_at q u) l r ∙ ap (λ (o : Option AttemptId). filter_map (starts_at q u) l ++ option_to_list o) is ∙ append-nil (filter_map (starts_at q u) l) in
    record {
      sorted = subst (IsStrictlySortedBy id_cmp) (sym same) so_far.sorted;
      up_to = subst (AllByRecursion (IsUpTo u (made (l ++ r ∷ []) u))) (sym same) (all-weaker (IsUpTo u (made l u)) (IsUpTo u (made (l ++ r ∷ []) u)) (λ a. up_to-more u (made l u) (made (l ++ r ∷ []) u) a (made-more l r u (starts_one u r) refl)) _ so_far.up_to);
    }
rising-by l r q u (Some a) is numbered_it so_far =
    let n = numbered_it a is in
    let number : a.nth ≡ made l u + 1 = n.number in
    let same : filter_map (starts_at q u) (l ++ r ∷ []) ≡ filter_map (starts_at q u) l ++ a ∷ [] = all_of-push (starts_at q u) l r ∙ ap (λ (o : Option AttemptId). filter_map (starts_at q u) l ++ option_to_list o) is in
    let more : made (l ++ r ∷ []) u ≡ made l u + 1 = how_many-push (starts_one u) l r true n.counts in
    record {
      sorted = subst (IsStrictlySortedBy id_cmp) (sym same) (sorted-push id_cmp _ a so_far.sorted (all-weaker (IsUpTo u (made l u)) (λ x. id_cmp x a ≡ Less) (λ x. less-than u (made l u) a x n.user (omega arith)) _ so_far.up_to));
      up_to = subst (AllByRecursion (IsUpTo u (made (l ++ r ∷ []) u))) (sym same) (all-push (IsUpTo u (made (l ++ r ∷ []) u)) _ a (all-weaker (IsUpTo u (made l u)) (IsUpTo u (made (l ++ r ∷ []) u)) (λ x. up_to-more u (made l u) (made (l ++ r ∷ []) u) x (omega arith)) _ so_far.up_to) (n.user, omega arith));
    }

rising-none : (q u : ℕ) → IsRising q u []
unfolding IsStrictlySortedBy
rising-none q u = record { sorted = tt; up_to = tt }

rising : (h : List Record) (q u : ℕ) → AreNumbered h → IsRising q u h
rising h q u are = go-on (IsRising q u) h (λ l r rest e so_far. rising-by l r q u (starts_at q u r) refl (λ a is. numbered l r q u a (started r) refl (are.each l r rest e) is) so_far) [] h refl (rising-none q u)

pub starts-sorted : (h : List Record) (q u : ℕ) → AreNumbered h → IsStrictlySortedBy id_cmp (filter_map (starts_at q u) h)
starts-sorted h q u are = (rising h q u are).sorted

pub attempts-as_put : (h : List Record) (q u : ℕ) → AreNumbered h → attempts h q u ≡ filter_map (starts_at q u) h
attempts-as_put h q u are = sym (in_order-is id_cmp attempt_before ids_order (filter_map (starts_at q u) h) (filter_map (starts_at q u) h) (starts-sorted h q u are) (λ a. refl))

-- ---- one record more

attempts-push : (h : List Record) (r : Record) (q u : ℕ) → AreNumbered h → IsNext h r → attempts (h ++ r ∷ []) q u ≡ attempts h q u ++ option_to_list (starts_at q u r)
attempts-push h r q u are next = attempts-as_put (h ++ r ∷ []) q u (numbered-push h r are next) ∙ all_of-push (starts_at q u) h r ∙ ap (λ (l : List AttemptId). l ++ option_to_list (starts_at q u r)) (sym (attempts-as_put h q u are))

pub attempts-none : (m : Attempts) → ((q u : ℕ) → attempts_at m q u ≡ []) → AreAttempts m []
attempts-none m none = record { each = none; numbered = numbered-none }

pub attempts-other : (m : Attempts) (h : List Record) (r : Record) → AreAttempts m h → IsNext h r → started r ≡ None → AreAttempts m (h ++ r ∷ [])
attempts-other m h r are next none = record {
  each = λ q u.
      let nothing : starts_at q u r ≡ None = rw none refl in
      are.each q u ∙ sym (attempts-push h r q u are.numbered next ∙ ap (λ (o : Option AttemptId). attempts h q u ++ option_to_list o) nothing ∙ append-nil (attempts h q u));
  numbered = numbered-push h r are.numbered next;
}

listed : (b : Bool) (a : AttemptId) (s : Start) → s.attempt ≡ a → (if b then a ∷ [] else []) ≡ option_to_list (option_map (λ (t : Start). t.attempt) (if b then Some s else None))
listed true a s is = ap (λ (t : AttemptId). t ∷ []) (sym is)
listed false a s is = refl

pub attempts-put : (m n : Attempts) (h : List Record) (r : Record) (s : Start) → AreAttempts m h → IsNext h r → started r ≡ Some s
    → ((q u : ℕ) → attempts_at n q u ≡ attempts_at m q u ++ (if (s.quiz == q) && (s.attempt.user == u) then s.attempt ∷ [] else [])) → AreAttempts n (h ++ r ∷ [])
attempts-put m n h r s are next is new = record {
  each = λ q u.
      let told : starts_at q u r ≡ option_map (λ (t : Start). t.attempt) (if (s.quiz == q) && (s.attempt.user == u) then Some s else None) = rw is refl in
      new q u ∙ ap (λ (l : List AttemptId). l ++ (if (s.quiz == q) && (s.attempt.user == u) then s.attempt ∷ [] else [])) (are.each q u)
      ∙ ap (λ (l : List AttemptId). attempts h q u ++ l) (listed ((s.quiz == q) && (s.attempt.user == u)) s.attempt s refl ∙ sym (ap option_to_list told))
      ∙ sym (attempts-push h r q u are.numbered next);
  numbered = numbered-push h r are.numbered next;
}

pub no_start : (r : Record) (e : Event) → ((q n : ℕ) (b : Behaviour) (bs : List Bound) (ls : List Learned) → e ≡ event.Started q n b bs ls → ⊥) → start_by r e ≡ None
no_start r (event.Started q n b bs ls) never = absurd (never q n b bs ls refl)
no_start r e never = refl

-- ---- the attempts of one quiz

pub of_quiz : (m : Attempts) (h : List Record) (q : ℕ) (t : Takers) → AreAttempts m h → Some t ≡ get nat_cmp m.quizzes q → (u : ℕ) → taken t u ≡ filter_map (starts_at q u) h
of_quiz m h q t are is u = ap (λ (o : Option Takers). unwrap_or (option_map (λ (s : Takers). taken s u) o) []) is ∙ are.each q u ∙ attempts-as_put h q u are.numbered

pub of_no_quiz : (m : Attempts) (h : List Record) (q : ℕ) → AreAttempts m h → None ≡ get nat_cmp m.quizzes q → (u : ℕ) → [] ≡ filter_map (starts_at q u) h
of_no_quiz m h q are is u = ap (λ (o : Option Takers). unwrap_or (option_map (λ (s : Takers). taken s u) o) []) is ∙ are.each q u ∙ attempts-as_put h q u are.numbered
