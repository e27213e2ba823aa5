-- The attempts of a quiz in order, one start more at a time, and the first of them after one.
use Rattle.std.proofs.Common.{◌≡◌, ℕ, Bool, true, false, ◌&&◌, ◌||◌, List, [], ◌∷◌, ◌++◌, Option, Some, None, map, option_map, refl, sym, ap, ◌∙◌, arith}
use Rattle.std.specs.declared.cmp.Ordering.TheVariants.{Less}
use Rattle.std.specs.BTreeMap.{IsOrdered, Updates, get, is_at}
use Rattle.std.specs.List.{AllByRecursion, list_any}
use Rattle.std.specs.List.Sorted.{IsStrictlySortedBy}
use Rattle.std.specs.Map.{keys_of, lookup}
use Rattle.std.specs.Ordering.{eq_by_cmp, is_lt, nat_cmp}
use Rattle.std.specs.Prelude.{◌==◌, filter, filter_map, if◌then◌else◌, is_some, option_to_list, unwrap_or}
use Rattle.std.specs.Cmp.{IsTotalOrder}
use Rattle.std.proofs.lemmas.Bool.Decides.{nat_tests}
use Rattle.std.proofs.lemmas.Cmp.{eq_by_cmp_equiv, nat_cmp_total, on_total, then_total}
use Rattle.std.proofs.lemmas.List.Folds.{list_any-append}
use Rattle.std.proofs.lemmas.Map.Entries.{lookup-filter-values, option_filter}
use Rattle.std.proofs.lemmas.Map.Keys.{IsDistinct-from_sorted}
use Rattle.std.proofs.lemmas.Map.Made.{is_some-lookup}
use Rattle.qz_grading.specs.declared.refusal.AttemptId.{AttemptId}
use Rattle.qz_terms.specs.declared.record.Record.{Record}
use Rattle.qz_terms.specs.Lists.{first_of, in_order}
use Rattle.qz_terms.specs.History.{Start, attempt_at, attempt_before, same_attempt, started}
use Rattle.qz_terms.proofs.Walks.{all_of-push}
use Rattle.qz_index.specs.declared.order.Order.{Order}
use Rattle.qz_index.specs.declared.orders.Orders.{Orders}
use Rattle.qz_index.specs.Orders.{AreOrdered, all_ordered, attempt_after, attempt_of, is_ordered, is_ordered_at, key_of}
use Rattle.qz_room.specs.Pairs.{pair_cmp}
use Rattle.qz_room.proofs.Filled.{filled_by, pair_at}
use Rattle.qz_index.proofs.Sorting.{in_order-is}
use Rattle.qz_index.proofs.StartLemmas.{id_cmp, ids_order}
use Rattle.qz_index.proofs.TakerLemmas.{sorted-kept}

abbrev pub Entries : Type 0
Entries = List ((ℕ × ℕ) × Bool)

-- ---- one attempt more

if-or : (b c : Bool) → (if b then true else c) ≡ (c || b)
if-or true true = refl
if-or true false = refl
if-or false true = refl
if-or false false = refl

turned : (a b : AttemptId) → same_attempt a b ≡ same_attempt b a
turned a b = grind (arith, nat_tests)

pub ordered-put : (m n : Order) (b a : AttemptId) → Updates pair_cmp m.attempts n.attempts (key_of b) (Some true) → is_ordered n a ≡ (is_ordered m a || same_attempt a b)
ordered-put m n b a u =
    filled_by pair_cmp m.attempts n.attempts (key_of b) true false (key_of a) (same_attempt a b) (pair_at (key_of b) (key_of a) ∙ turned b a) u
    ∙ if-or (same_attempt a b) (is_ordered m a)

or-none : (b : Bool) → b ≡ (b || false)
or-none true = refl
or-none false = refl

same-there : (a : AttemptId) (s : Start) (b : Bool) → list_any (same_attempt a) (option_to_list (option_map (λ (t : Start). t.attempt) (if b then Some s else None))) ≡ (b && same_attempt a s.attempt)
same-there a s true = sym (or-none (same_attempt a s.attempt))
same-there a s false = refl

there-push : (h : List Record) (r : Record) (q : ℕ) (a : AttemptId) → list_any (same_attempt a) (filter_map (attempt_at q) (h ++ r ∷ [])) ≡ (list_any (same_attempt a) (filter_map (attempt_at q) h) || list_any (same_attempt a) (option_to_list (attempt_at q r)))
there-push h r q a = ap (list_any (same_attempt a)) (all_of-push (attempt_at q) h r) ∙ list_any-append (same_attempt a) (filter_map (attempt_at q) h) (option_to_list (attempt_at q r))

pub orders-other : (m : Orders) (h : List Record) (r : Record) → AreOrdered m h → started r ≡ None → AreOrdered m (h ++ r ∷ [])
orders-other m h r are none = record {
  each = λ q a.
      let nothing : attempt_at q r ≡ None = rw none refl in
      are.each q a ∙ or-none (list_any (same_attempt a) (filter_map (attempt_at q) h))
      ∙ sym (there-push h r q a ∙ ap (λ (o : Option AttemptId). list_any (same_attempt a) (filter_map (attempt_at q) h) || list_any (same_attempt a) (option_to_list o)) nothing);
}

pub orders-put : (m n : Orders) (h : List Record) (r : Record) (s : Start) → AreOrdered m h → started r ≡ Some s
    → ((q : ℕ) (a : AttemptId) → is_ordered_at n q a ≡ (is_ordered_at m q a || ((s.quiz == q) && same_attempt a s.attempt))) → AreOrdered n (h ++ r ∷ [])
orders-put m n h r s are is new = record {
  each = λ q a.
      let told : attempt_at q r ≡ option_map (λ (t : Start). t.attempt) (if s.quiz == q then Some s else None) = rw is refl in
      new q a ∙ ap (λ (b : Bool). b || ((s.quiz == q) && same_attempt a s.attempt)) (are.each q a)
      ∙ ap (λ (b : Bool). list_any (same_attempt a) (filter_map (attempt_at q) h) || b) (sym (ap (λ (o : Option AttemptId). list_any (same_attempt a) (option_to_list o)) told ∙ same-there a s (s.quiz == q)))
      ∙ sym (there-push h r q a);
}

-- ---- the attempts that are there, in order

all-of : (P : AttemptId → Type 0) (ks : List (ℕ × ℕ)) → AllByRecursion (λ k. P (attempt_of k)) ks → AllByRecursion P (map attempt_of ks)
all-of P [] all = tt
all-of P (k ∷ ks) all = (all.0, all-of P ks all.1)

sorted-of : (ks : List (ℕ × ℕ)) → IsStrictlySortedBy pair_cmp ks → IsStrictlySortedBy id_cmp (map attempt_of ks)
unfolding IsStrictlySortedBy
sorted-of [] sorted = tt
sorted-of (k ∷ ks) sorted = (all-of (λ b. id_cmp (attempt_of k) b ≡ Less) ks sorted.0, sorted-of ks sorted.1)

member-of : (a : AttemptId) (ks : List (ℕ × ℕ)) → list_any (is_at (id_cmp a)) (map attempt_of ks) ≡ list_any (is_at (pair_cmp (key_of a))) ks
member-of a [] = refl
member-of a (k ∷ ks) = ap (λ (b : Bool). is_at (pair_cmp (key_of a)) k || b) (member-of a ks)

pairs_total : IsTotalOrder pair_cmp
pairs_total = then_total (on_total (λ (p : ℕ × ℕ). p.0) nat_cmp_total) (on_total (λ (p : ℕ × ℕ). p.1) nat_cmp_total)

holds : (o : Option Bool) → is_some (option_filter (λ (b : Bool). b) o) ≡ unwrap_or o false
holds None = refl
holds (Some true) = refl
holds (Some false) = refl

ordered-member : (o : Order) (a : AttemptId) → IsOrdered pair_cmp o.attempts → list_any (is_at (id_cmp a)) (all_ordered o) ≡ is_ordered o a
ordered-member o a ordered =
    let es = o.attempts.entries in
    member-of a (keys_of (filter (λ e. e.1) es))
    ∙ sym (is_some-lookup (is_at (pair_cmp (key_of a))) (filter (λ e. e.1) es))
    ∙ ap (λ (p : Option Bool). is_some p) (lookup-filter-values {eq = eq_by_cmp pair_cmp} (eq_by_cmp_equiv pairs_total) (λ (b : Bool). b) (key_of a) es (IsDistinct-from_sorted pair_cmp (keys_of es) ordered))
    ∙ holds (lookup (is_at (pair_cmp (key_of a))) es)

pub same-id : (a : AttemptId) (xs : List AttemptId) → list_any (is_at (id_cmp a)) xs ≡ list_any (same_attempt a) xs
same-id a [] = refl
same-id a (x ∷ xs) = ap (λ (b : Bool). b || list_any (is_at (id_cmp a)) xs) (pair_at (key_of a) (key_of x)) ∙ ap (λ (b : Bool). same_attempt a x || b) (same-id a xs)

pub all-are : (o : Order) (h : List Record) (q : ℕ) → IsOrdered pair_cmp o.attempts → ((a : AttemptId) → is_ordered o a ≡ list_any (same_attempt a) (filter_map (attempt_at q) h)) → all_ordered o ≡ in_order attempt_before (filter_map (attempt_at q) h)
all-are o h q ordered there =
    in_order-is id_cmp attempt_before ids_order (all_ordered o) (filter_map (attempt_at q) h) (sorted-of _ (sorted-kept pair_cmp (λ (b : Bool). b) o.attempts.entries ordered))
    (λ a. ordered-member o a ordered ∙ there a ∙ sym (same-id a (filter_map (attempt_at q) h)))

-- ---- the first one after a key

abbrev pub first_true : Entries → Option ((ℕ × ℕ) × Bool)
first_true es = first_of (filter (λ e. e.1) es)

abbrev pub after_key : ℕ × ℕ → Entries → Entries
after_key k es = filter (λ e. is_lt (pair_cmp k e.0) && true) es

abbrev pub attempt_in : (ℕ × ℕ) × Bool → AttemptId
attempt_in e = attempt_of e.0

first-step : (a : AttemptId) (e : (ℕ × ℕ) × Bool) (es : Entries) (b c : Bool) → e.1 ≡ b → is_lt (pair_cmp (key_of a) e.0) ≡ c
    → option_map attempt_in (first_true (after_key (key_of a) es)) ≡ first_of (filter (attempt_before a) (map attempt_of (keys_of (filter (λ f. f.1) es))))
    → option_map attempt_in (first_true (after_key (key_of a) (e ∷ es))) ≡ first_of (filter (attempt_before a) (map attempt_of (keys_of (filter (λ f. f.1) (e ∷ es)))))
first-step a e es true true is less rest = let before : attempt_before a (attempt_of e.0) ≡ true = ids_order.is a (attempt_of e.0) ∙ less in rw (less, is, before) refl
first-step a e es true false is less rest = let before : attempt_before a (attempt_of e.0) ≡ false = ids_order.is a (attempt_of e.0) ∙ less in rw (less, is, before) rest
first-step a e es false true is less rest = rw (less, is) rest
first-step a e es false false is less rest = rw (less, is) rest

first-after : (a : AttemptId) (es : Entries) → option_map attempt_in (first_true (after_key (key_of a) es)) ≡ first_of (filter (attempt_before a) (map attempt_of (keys_of (filter (λ f. f.1) es))))
first-after a [] = refl
first-after a (e ∷ es) = first-step a e es e.1 (is_lt (pair_cmp (key_of a) e.0)) refl refl (first-after a es)

pub found-after : (o : Order) (a : AttemptId) (f : Option ((ℕ × ℕ) × Bool)) → first_true (after_key (key_of a) o.attempts.entries) ≡ f → option_map attempt_in f ≡ first_of (filter (attempt_before a) (all_ordered o))
found-after o a f is = ap (option_map attempt_in) (sym is) ∙ first-after a o.attempts.entries

-- ---- of all quizzes

pub of_quiz : (m : Orders) (h : List Record) (q : ℕ) (o : Order) → AreOrdered m h → Some o ≡ get nat_cmp m.quizzes q → (a : AttemptId) → is_ordered o a ≡ list_any (same_attempt a) (filter_map (attempt_at q) h)
of_quiz m h q o are is a = ap (λ (p : Option Order). unwrap_or (option_map (λ (d : Order). is_ordered d a) p) false) is ∙ are.each q a

never-any : (xs : List AttemptId) → ((a : AttemptId) → false ≡ list_any (same_attempt a) xs) → xs ≡ []
never-any [] none = refl
never-any (x ∷ xs) none = absurd (let here : false ≡ (same_attempt x x || list_any (same_attempt x) xs) = none x in let same : same_attempt x x ≡ true = grind (arith, nat_tests) in cc)

pub of_no_quiz : (m : Orders) (h : List Record) (q : ℕ) (after : AttemptId) → AreOrdered m h → None ≡ get nat_cmp m.quizzes q → None ≡ attempt_after h q after
of_no_quiz m h q after are is =
    let none : filter_map (attempt_at q) h ≡ [] = never-any (filter_map (attempt_at q) h) (λ a. ap (λ (p : Option Order). unwrap_or (option_map (λ (d : Order). is_ordered d a) p) false) is ∙ are.each q a) in
    sym (ap (λ (l : List AttemptId). first_of (filter (attempt_before after) (in_order attempt_before l))) none)
