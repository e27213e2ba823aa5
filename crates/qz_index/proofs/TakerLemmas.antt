-- The users of a quiz in order.
use Rattle.std.proofs.Common.{◌≡◌, ℕ, Bool, true, false, List, [], ◌∷◌, Option, Some, None, option_map, refl, sym, ap, ◌∙◌, Vec, Global}
use Rattle.std.specs.declared.cmp.Ordering.{Ordering}
use Rattle.std.specs.declared.cmp.Ordering.TheVariants.{Less}
use Rattle.std.specs.BTreeMap.{IsOrdered, is_at}
use Rattle.std.specs.List.{AllByRecursion, list_any}
use Rattle.std.specs.List.Sorted.{IsStrictlySortedBy}
use Rattle.std.specs.Map.{keys_of, lookup}
use Rattle.std.specs.Ordering.{eq_by_cmp, is_eq, nat_cmp}
use Rattle.std.specs.Prelude.{filter, filter_map, is_some, nat_lt, unwrap_or, ◌==◌}
use Rattle.std.proofs.lemmas.Bool.{eqb-true}
use Rattle.std.proofs.lemmas.Cmp.{eq_by_cmp_equiv, nat_cmp_total}
use Rattle.std.proofs.lemmas.Map.Entries.{lookup-filter-values, option_filter}
use Rattle.std.proofs.lemmas.Map.Keys.{IsDistinct-from_sorted}
use Rattle.std.proofs.lemmas.Map.Made.{is_some-lookup}
use Rattle.qz_lemmas.proofs.Numbers.{number-same, number-tie, number-turned}
use Rattle.qz_grading.specs.declared.refusal.AttemptId.{AttemptId}
use Rattle.qz_terms.specs.declared.record.Record.{Record}
use Rattle.qz_terms.specs.History.{Start, started, starts_at, taker_at, takers}
use Rattle.qz_index.specs.declared.takers.Takers.{Takers}
use Rattle.qz_index.specs.Attempts.{has_any, taken, takers_in}
use Rattle.qz_index.proofs.Sorting.{in_order-is}
use Rattle.qz_index.proofs.StartLemmas.{users_order}

-- ---- the takers of a list

any-step : (q u : ℕ) (r : Record) (h : List Record) (s : Start) (b c : Bool) → started r ≡ Some s → (s.quiz == q) ≡ b → (s.attempt.user == u) ≡ c → list_any (is_at (nat_cmp u)) (filter_map (taker_at q) h) ≡ has_any (filter_map (starts_at q u) h)
    → list_any (is_at (nat_cmp u)) (filter_map (taker_at q) (r ∷ h)) ≡ has_any (filter_map (starts_at q u) (r ∷ h))
any-step q u r h s false c is quiz user rest = rw (is, quiz) rest
any-step q u r h s true true is quiz user rest =
    let one : is_eq (nat_cmp u s.attempt.user) ≡ true = ap (λ n. is_eq (nat_cmp u n)) (eqb-true s.attempt.user u user) ∙ number-tie u u ∙ number-same u in
    rw (is, quiz, user, one) refl
any-step q u r h s true false is quiz user rest =
    let other : is_eq (nat_cmp u s.attempt.user) ≡ false = number-tie u s.attempt.user ∙ number-turned u s.attempt.user ∙ user in
    rw (is, quiz, user, other) rest

any-none : (q u : ℕ) (r : Record) (h : List Record) → started r ≡ None → list_any (is_at (nat_cmp u)) (filter_map (taker_at q) h) ≡ has_any (filter_map (starts_at q u) h)
    → list_any (is_at (nat_cmp u)) (filter_map (taker_at q) (r ∷ h)) ≡ has_any (filter_map (starts_at q u) (r ∷ h))
any-none q u r h is rest = rw is rest

any-by : (q u : ℕ) (r : Record) (h : List Record) (o : Option Start) → started r ≡ o → list_any (is_at (nat_cmp u)) (filter_map (taker_at q) h) ≡ has_any (filter_map (starts_at q u) h)
    → list_any (is_at (nat_cmp u)) (filter_map (taker_at q) (r ∷ h)) ≡ has_any (filter_map (starts_at q u) (r ∷ h))
any-by q u r h None is rest = any-none q u r h is rest
any-by q u r h (Some s) is rest = any-step q u r h s (s.quiz == q) (s.attempt.user == u) is refl refl rest

any-taken : (q u : ℕ) (h : List Record) → list_any (is_at (nat_cmp u)) (filter_map (taker_at q) h) ≡ has_any (filter_map (starts_at q u) h)
any-taken q u [] = refl
any-taken q u (r ∷ h) = any-by q u r h (started r) refl (any-taken q u h)

takers-from : (h : List Record) (q : ℕ) (us : List ℕ) → IsStrictlySortedBy nat_cmp us → ((u : ℕ) → list_any (is_at (nat_cmp u)) us ≡ has_any (filter_map (starts_at q u) h)) → us ≡ takers h q
takers-from h q us sorted same_users = in_order-is nat_cmp nat_lt users_order us (filter_map (taker_at q) h) sorted (λ u. same_users u ∙ sym (any-taken q u h))

-- ---- keys of the entries that pass

after-kept-by : {K X : Type 0} (P : K → Type 0) (p : X → Bool) (e : K × X) (es : List (K × X)) (b : Bool) → p e.1 ≡ b → P e.0 → AllByRecursion P (keys_of (filter (λ (f : K × X). p f.1) es)) → AllByRecursion P (keys_of (filter (λ (f : K × X). p f.1) (e ∷ es)))
after-kept-by P p e es true is one rest = rw is (one, rest)
after-kept-by P p e es false is one rest = rw is rest

after-kept : {K X : Type 0} (P : K → Type 0) (p : X → Bool) (es : List (K × X)) → AllByRecursion P (keys_of es) → AllByRecursion P (keys_of (filter (λ (f : K × X). p f.1) es))
after-kept P p [] all = tt
after-kept P p (e ∷ es) all = after-kept-by P p e es (p e.1) refl all.0 (after-kept P p es all.1)

sorted-kept-by : {K X : Type 0} (R : K → K → Ordering) (p : X → Bool) (e : K × X) (es : List (K × X)) (b : Bool) → p e.1 ≡ b → AllByRecursion (λ k. R e.0 k ≡ Less) (keys_of es) → IsStrictlySortedBy R (keys_of (filter (λ (f : K × X). p f.1) es)) → IsStrictlySortedBy R (keys_of (filter (λ (f : K × X). p f.1) (e ∷ es)))
unfolding IsStrictlySortedBy
sorted-kept-by R p e es true is all rest = rw is (after-kept (λ k. R e.0 k ≡ Less) p es all, rest)
sorted-kept-by R p e es false is all rest = rw is rest

pub sorted-kept : {K X : Type 0} (R : K → K → Ordering) (p : X → Bool) (es : List (K × X)) → IsStrictlySortedBy R (keys_of es) → IsStrictlySortedBy R (keys_of (filter (λ (f : K × X). p f.1) es))
unfolding IsStrictlySortedBy
sorted-kept R p [] sorted = tt
sorted-kept R p (e ∷ es) sorted = sorted-kept-by R p e es (p e.1) refl sorted.0 (sorted-kept R p es sorted.1)

passes-by : (v : Vec AttemptId Global) (b : Bool) → has_any v.items ≡ b → is_some (option_filter (λ (w : Vec AttemptId Global). has_any w.items) (Some v)) ≡ b
passes-by v true is = rw is refl
passes-by v false is = rw is refl

passes : (o : Option (Vec AttemptId Global)) → is_some (option_filter (λ (v : Vec AttemptId Global). has_any v.items) o) ≡ has_any (unwrap_or (option_map (λ (v : Vec AttemptId Global). v.items) o) [])
passes None = refl
passes (Some v) = passes-by v (has_any v.items) refl

pub takers_are : (t : Takers) (h : List Record) (q : ℕ) → IsOrdered nat_cmp t.attempts → ((u : ℕ) → taken t u ≡ filter_map (starts_at q u) h) → takers_in t ≡ takers h q
takers_are t h q ordered of_users =
    let es = t.attempts.entries in
    let p : Vec AttemptId Global → Bool = λ v. has_any v.items in
    takers-from h q (takers_in t) (sorted-kept nat_cmp p es ordered) (λ u.
    sym (is_some-lookup (is_at (nat_cmp u)) (filter (λ e. p e.1) es))
    ∙ ap (λ (o : Option (Vec AttemptId Global)). is_some o) (lookup-filter-values {eq = eq_by_cmp nat_cmp} (eq_by_cmp_equiv nat_cmp_total) p u es (IsDistinct-from_sorted nat_cmp (keys_of es) ordered))
    ∙ passes (lookup (is_at (nat_cmp u)) es) ∙ ap has_any (of_users u))

pub no_takers : (h : List Record) (q : ℕ) → ((u : ℕ) → [] ≡ filter_map (starts_at q u) h) → [] ≡ takers h q
unfolding IsStrictlySortedBy
no_takers h q none = takers-from h q [] tt (λ u. ap has_any (none u))
