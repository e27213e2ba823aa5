-- Counts of versions and numbers, with one number and with one slot more; and their rows.
use Rattle.std.proofs.Common.{◌≡◌, ℕ, zero, suc, ◌+◌, ◌≤◌, Bool, true, false, ◌&&◌, ◌||◌, cond, List, [], ◌∷◌, ◌++◌, Option, Some, None, length, map, refl, sym, ap, subst, ◌∙◌, arith}
use Rattle.std.specs.BTreeMap.{IsOrdered, Updates, get, is_at}
use Rattle.std.specs.List.{list_any, range_with_len}
use Rattle.std.specs.List.Sorted.{IsStrictlySortedBy}
use Rattle.std.specs.Map.{keys_of, lookup}
use Rattle.std.specs.Ordering.{is_eq, is_lt, nat_cmp, ordering_then}
use Rattle.std.specs.Cmp.{IsTotalOrder}
use Rattle.std.specs.Prelude.{◌==◌, filter, flat_map, if◌then◌else◌, is_some, nat_le, nat_lt, unwrap_or}
use Rattle.std.proofs.lemmas.Bool.{eqb-true}
use Rattle.std.proofs.lemmas.Bool.Decides.{nat_tests}
use Rattle.std.proofs.lemmas.Cmp.{eq_by_cmp_equiv, nat_cmp_total, on_total, then_total, tied_itself}
use Rattle.std.proofs.lemmas.List.Folds.{list_any-append}
use Rattle.std.proofs.lemmas.Map.{lookup-none}
use Rattle.std.proofs.lemmas.Map.Entries.{lookup_head, lookup_tail, none_past_head}
use Rattle.std.proofs.lemmas.Map.Keys.{IsDistinct-from_sorted, sorted_tail}
use Rattle.std.proofs.lemmas.Map.Lookups.{CmpEqualImpliesEq, exact_pairs, exact_unsigned}
use Rattle.std.proofs.lemmas.Map.Made.{is_some-lookup}
use Rattle.qz_grading.specs.Steps.{last}
use Rattle.qz_index.proofs.Sorting.{IsOrderOf, in_order-is}
use Rattle.qz_lemmas.proofs.Bools.{and-false}
use Rattle.qz_lemmas.proofs.Numbers.{number-same, number-turned}
use Rattle.qz_room.specs.Pairs.{pair_cmp}
use Rattle.qz_room.proofs.Filled.{pair_at}
use Rattle.qz_terms.specs.History.{Slot}
use Rattle.qz_terms.specs.Lists.{how_many, in_order}
use Rattle.qz_terms.proofs.Walks.{how_many-push}
use Rattle.qz_stats.specs.declared.rows.PickRow.{PickRow}
use Rattle.qz_stats.specs.Counts.{AreCounts, HasNoted, PickMap, count_in, count_of, noted, told_of}
use Rattle.qz_stats.specs.Picks.{Pick, has_pick, number_count, pick_before, pick_rows, picks_of, tells, tells_pick}

-- ---- one number more

next-same : (i r : ℕ) → (i == r) ≡ true → nat_lt r (i + 1) ≡ true
next-same i r is = grind (arith, nat_tests)

next-less : (i r : ℕ) → nat_lt r i ≡ true → nat_lt r (i + 1) ≡ true
next-less i r less = grind (arith, nat_tests)

next-not : (i r : ℕ) → (i == r) ≡ false → nat_lt r i ≡ false → nat_lt r (i + 1) ≡ false
next-not i r other less = grind (arith, nat_tests)

noted-by : (m : PickMap) (s : Slot) (i : ℕ) (q : Pick) (w : ℕ) (old : Option ℕ) (a b c : Bool) → (s.bound.version == q.0) ≡ a → (i == q.1) ≡ b → nat_lt q.1 i ≡ c → old ≡ noted m s i q
    → (a ≡ true → b ≡ true → w ≡ count_in m q + (if tells q.1 (last s.steps).answer then 1 else 0)) → cond (a && b) (Some w) old ≡ noted m s (i + 1) q
noted-by m s i q w old true true c first second less before new = rw (first, next-same i q.1 second) (ap (λ (k : ℕ). Some k) (new refl refl))
noted-by m s i q w old true false true first second less before new = before ∙ rw (first, less, next-less i q.1 less) refl
noted-by m s i q w old true false false first second less before new = before ∙ rw (first, less, next-not i q.1 second less) refl
noted-by m s i q w old false b c first second less before new = before ∙ rw first refl

-- what stood there before
pub unnoted : (m n : PickMap) (s : Slot) (i : ℕ) → HasNoted m n s i → count_in n (s.bound.version, i) ≡ count_in m (s.bound.version, i)
unnoted m n s i noted_so =
    let none : nat_lt i i ≡ false = grind (arith, nat_tests) in
    let stays : noted m s i (s.bound.version, i) ≡ get pair_cmp m (s.bound.version, i) = rw (number-same s.bound.version, none) refl in
    ap (λ (o : Option ℕ). unwrap_or o 0) (noted_so.each (s.bound.version, i) ∙ stays)

pub noted-more : (m n k : PickMap) (s : Slot) (i : ℕ) (told : Bool) → HasNoted m n s i → told ≡ tells i (last s.steps).answer → Updates pair_cmp n k (s.bound.version, i) (Some (count_in n (s.bound.version, i) + (if told then 1 else 0))) → HasNoted m k s (i + 1)
noted-more m n k s i told so_far is u = record {
  each = λ q.
      u.0 q ∙ (ap (λ (b : Bool). cond b (Some (count_in n (s.bound.version, i) + (if told then 1 else 0))) (get pair_cmp n q)) (pair_at (s.bound.version, i) q)
      ∙ noted-by m s i q (count_in n (s.bound.version, i) + (if told then 1 else 0)) (get pair_cmp n q) (s.bound.version == q.0) (i == q.1) (nat_lt q.1 i) refl refl refl (so_far.each q)
      (λ first second. same q (eqb-true s.bound.version q.0 first) (eqb-true i q.1 second)));
}
  where
    same : (q : Pick) → s.bound.version ≡ q.0 → i ≡ q.1 → count_in n (s.bound.version, i) + (if told then 1 else 0) ≡ count_in m q + (if tells q.1 (last s.steps).answer then 1 else 0)
    same q first second =
        let here : ◌≡◌ {A = Pick} (s.bound.version, i) q = ap (λ (v : ℕ). (v, i)) first ∙ ap (λ (c : ℕ). (q.0, c)) second in
        let front : count_in n (s.bound.version, i) ≡ count_in m q = unnoted m n s i so_far ∙ ap (count_in m) here in
        let back : told ≡ tells q.1 (last s.steps).answer = is ∙ ap (λ (c : ℕ). tells c (last s.steps).answer) second in
        ap (λ (c : ℕ). c + (if told then 1 else 0)) front ∙ ap (λ (b : Bool). count_in m q + (if b then 1 else 0)) back

pub noted-none : (m : PickMap) (s : Slot) → HasNoted m m s 0
noted-none m s = record { each = λ q. sym (by q (s.bound.version == q.0) refl) }
  where
    by : (q : Pick) (a : Bool) → (s.bound.version == q.0) ≡ a → noted m s 0 q ≡ get pair_cmp m q
    by q true is = let none : nat_lt q.1 0 ≡ false = grind (arith, nat_tests) in rw (is, none) refl
    by q false is = rw is refl

-- ---- one slot more

-- a number that no slot has is told by none
untold-by : (p : Pick) (x : Slot) (xs : List Slot) (b : Bool) → has_pick p x ≡ b → (has_pick p x || list_any (has_pick p) xs) ≡ false → (list_any (has_pick p) xs ≡ false → how_many (tells_pick p) xs ≡ 0) → how_many (tells_pick p) (x ∷ xs) ≡ 0
untold-by p x xs true is none rest = let no : true ≡ false = rw is at none in absurd cc
untold-by p x xs false is none rest = let others : list_any (has_pick p) xs ≡ false = rw is at none in rw is (rest others)

untold : (p : Pick) (xs : List Slot) → list_any (has_pick p) xs ≡ false → how_many (tells_pick p) xs ≡ 0
untold p [] none = refl
untold p (x ∷ xs) none = untold-by p x xs (has_pick p x) refl none (untold p xs)

is-there : (p : Pick) (xs : List Slot) → list_any (has_pick p) xs ≡ true → count_of xs p ≡ Some (how_many (tells_pick p) xs)
is-there p xs among = rw among refl

not-there : (p : Pick) (xs : List Slot) → list_any (has_pick p) xs ≡ false → count_of xs p ≡ None
not-there p xs among = rw among refl

counted-by : (p : Pick) (xs : List Slot) (s : Slot) (old : Option ℕ) (any has told : Bool) → list_any (has_pick p) xs ≡ any → has_pick p s ≡ has → tells p.1 (last s.steps).answer ≡ told → old ≡ count_of xs p
    → (if has then Some (unwrap_or old 0 + (if told then 1 else 0)) else old) ≡ (if any || has then Some (how_many (tells_pick p) xs + (if has && told then 1 else 0)) else None)
counted-by p xs s old true true told among here tells_it before = ap (λ (o : Option ℕ). Some (unwrap_or o 0 + (if told then 1 else 0))) (before ∙ is-there p xs among)
counted-by p xs s old true false told among here tells_it before =
    let same : how_many (tells_pick p) xs + 0 ≡ how_many (tells_pick p) xs = omega arith in
    before ∙ (is-there p xs among ∙ ap (λ (k : ℕ). Some k) (sym same))
counted-by p xs s old false true told among here tells_it before =
    let none : how_many (tells_pick p) xs ≡ 0 = untold p xs among in
    ap (λ (o : Option ℕ). Some (unwrap_or o 0 + (if told then 1 else 0))) (before ∙ not-there p xs among) ∙ ap (λ (k : ℕ). Some (k + (if told then 1 else 0))) (sym none)
counted-by p xs s old false false told among here tells_it before = before ∙ not-there p xs among

or-alone : (a b : Bool) → (a || (b || false)) ≡ (a || b)
or-alone true b = refl
or-alone false true = refl
or-alone false false = refl

count-push : (p : Pick) (xs : List Slot) (s : Slot) → count_of (xs ++ s ∷ []) p ≡ (if list_any (has_pick p) xs || has_pick p s then Some (how_many (tells_pick p) xs + (if has_pick p s && tells p.1 (last s.steps).answer then 1 else 0)) else None)
count-push p xs s =
    let among : list_any (has_pick p) (xs ++ s ∷ []) ≡ (list_any (has_pick p) xs || has_pick p s) = list_any-append (has_pick p) xs (s ∷ []) ∙ or-alone (list_any (has_pick p) xs) (has_pick p s) in
    let many = how_many-push (tells_pick p) xs s (tells_pick p s) refl in
    ap (λ (b : Bool). if b then Some (how_many (tells_pick p) (xs ++ s ∷ [])) else None) among
    ∙ ap (λ (n : ℕ). if list_any (has_pick p) xs || has_pick p s then Some n else None) many

pub counts-more : (m n : PickMap) (xs : List Slot) (s : Slot) → AreCounts m xs → HasNoted m n s (number_count s.question.kind) → AreCounts n (xs ++ s ∷ [])
counts-more m n xs s counts so = record {
  each = λ p.
      so.each p ∙ (counted-by p xs s (get pair_cmp m p) (list_any (has_pick p) xs) (has_pick p s) (tells p.1 (last s.steps).answer) refl refl refl (counts.each p) ∙ sym (count-push p xs s));
}

pub counts-none : (m : PickMap) → ((p : ℕ × ℕ) → get pair_cmp m p ≡ None) → AreCounts m []
counts-none m none = record { each = none }

-- ---- no count is above the number of slots

filter-few-by : {A : Type 0} (p : A → Bool) (x : A) (xs : List A) (b : Bool) → p x ≡ b → length (filter p xs) ≤ length xs → length (filter p (x ∷ xs)) ≤ suc (length xs)
filter-few-by p x xs true is rest = rw is (omega arith)
filter-few-by p x xs false is rest = rw is (omega arith)

filter-few : {A : Type 0} (p : A → Bool) (xs : List A) → length (filter p xs) ≤ length xs
filter-few p [] = omega arith
filter-few p (x ∷ xs) = filter-few-by p x xs (p x) refl (filter-few p xs)

few-by : (a : Bool) (n k : ℕ) → n ≤ k → unwrap_or (if a then Some n else None) 0 ≤ k
few-by true n k few = few
few-by false n k few = omega arith

pub counts-few : (m : PickMap) (xs : List Slot) (p : ℕ × ℕ) → AreCounts m xs → count_in m p ≤ length xs
counts-few m xs p counts =
    subst (λ (o : Option ℕ). unwrap_or o 0 ≤ length xs) (sym (counts.each p)) (few-by (list_any (has_pick p) xs) (how_many (tells_pick p) xs) (length xs) (filter-few (tells_pick p) xs))

-- ---- the rows of counts

pairs-total : IsTotalOrder pair_cmp
pairs-total = then_total (on_total (λ (p : ℕ × ℕ). p.0) nat_cmp_total) (on_total (λ (p : ℕ × ℕ). p.1) nat_cmp_total)

pairs-exact : CmpEqualImpliesEq pair_cmp
pairs-exact = exact_pairs nat_cmp nat_cmp exact_unsigned exact_unsigned

then-less : (a b c d : ℕ) → (nat_lt a b || ((a == b) && nat_lt c d)) ≡ is_lt (ordering_then (nat_cmp a b) (nat_cmp c d))
then-less a b c d = grind (arith, nat_tests)

picks-order : IsOrderOf pair_cmp pick_before
picks-order = record { total = pairs-total; exact = pairs-exact; is = λ x y. then-less x.0 y.0 x.1 y.1 }

-- a version and number stands among those from one number on
number-step : (r a n : ℕ) → ((r == a) || (nat_le (a + 1) r && nat_lt r (a + 1 + n))) ≡ (nat_le a r && nat_lt r (a + suc n))
number-step r a n = grind (arith, nat_tests)

number-none : (r a : ℕ) → (nat_le a r && nat_lt r (a + 0)) ≡ false
number-none r a = grind (arith, nat_tests)

among-step : (q : Pick) (v a n : ℕ) (b : Bool) → (v == q.0) ≡ b → (((q.0 == v) && (q.1 == a)) || ((v == q.0) && (nat_le (a + 1) q.1 && nat_lt q.1 (a + 1 + n)))) ≡ ((v == q.0) && (nat_le a q.1 && nat_lt q.1 (a + suc n)))
among-step q v a n true is = rw (number-turned q.0 v ∙ is, is) (number-step q.1 a n)
among-step q v a n false is = rw (number-turned q.0 v ∙ is, is) refl

among-none : (q : Pick) (v a : ℕ) → false ≡ ((v == q.0) && (nat_le a q.1 && nat_lt q.1 (a + 0)))
among-none q v a = sym (ap (λ (b : Bool). (v == q.0) && b) (number-none q.1 a) ∙ and-false (v == q.0))

among : (q : Pick) (v a n : ℕ) → list_any (is_at (pair_cmp q)) (map (λ (c : ℕ). (v, c)) (range_with_len a n)) ≡ ((v == q.0) && (nat_le a q.1 && nat_lt q.1 (a + n)))
among q v a zero = among-none q v a
among q v a (suc n) =
    ap (λ (b : Bool). b || list_any (is_at (pair_cmp q)) (map (λ (c : ℕ). (v, c)) (range_with_len (a + 1) n))) (pair_at q (v, a))
    ∙ (ap (λ (b : Bool). ((q.0 == v) && (q.1 == a)) || b) (among q v (a + 1) n) ∙ among-step q v a n (v == q.0) refl)

from-none : (v q r n : ℕ) → ((v == q) && (nat_le 0 r && nat_lt r (0 + n))) ≡ ((v == q) && nat_lt r n)
from-none v q r n =
    let least : nat_le 0 r ≡ true = grind (arith, nat_tests) in
    let same : 0 + n ≡ n = omega arith in
    ap (λ (b : Bool). (v == q) && (b && nat_lt r (0 + n))) least ∙ ap (λ (k : ℕ). (v == q) && nat_lt r k) same

has-among : (q : Pick) (s : Slot) → list_any (is_at (pair_cmp q)) (picks_of s) ≡ has_pick q s
has-among q s = among q s.bound.version 0 (number_count s.question.kind) ∙ from-none s.bound.version q.0 q.1 (number_count s.question.kind)

pub all-among : (q : Pick) (xs : List Slot) → list_any (is_at (pair_cmp q)) (flat_map picks_of xs) ≡ list_any (has_pick q) xs
all-among q [] = refl
all-among q (x ∷ xs) = list_any-append (is_at (pair_cmp q)) (picks_of x) (flat_map picks_of xs) ∙ (ap (λ (b : Bool). b || list_any (is_at (pair_cmp q)) (flat_map picks_of xs)) (has-among q x) ∙ ap (λ (b : Bool). has_pick q x || b) (all-among q xs))

-- entries that a function of their keys gives
abbrev entry_by : (Pick → ℕ) → Pick → Pick × ℕ
entry_by f p = (p, f p)

abbrev told_by : (Pick → ℕ) → List Pick → Pick → Option ℕ
told_by f ks q = if list_any (is_at (pair_cmp q)) ks then Some (f q) else None

some-if : (b : Bool) (n : ℕ) → is_some (if b then Some n else None) ≡ b
some-if true n = refl
some-if false n = refl

head-value : (f : Pick → ℕ) (e : Pick × ℕ) (es : List (Pick × ℕ)) → lookup (is_at (pair_cmp e.0)) (e ∷ es) ≡ told_by f (keys_of (e ∷ es)) e.0 → e.1 ≡ f e.0
head-value f e es each =
    let self : is_at (pair_cmp e.0) e.0 ≡ true = ap is_eq (tied_itself pairs-total e.0) in
    let told : told_by f (keys_of (e ∷ es)) e.0 ≡ Some (f e.0) = rw self refl in
    ap (λ (o : Option ℕ). unwrap_or o 0) (sym (lookup_head (is_at (pair_cmp e.0)) e es self) ∙ (each ∙ told))

tail-value : (f : Pick → ℕ) (e : Pick × ℕ) (es : List (Pick × ℕ)) (q : Pick) (b : Bool) → IsStrictlySortedBy pair_cmp (keys_of (e ∷ es)) → is_at (pair_cmp q) e.0 ≡ b → lookup (is_at (pair_cmp q)) (e ∷ es) ≡ told_by f (keys_of (e ∷ es)) q
    → lookup (is_at (pair_cmp q)) es ≡ told_by f (keys_of es) q
tail-value f e es q true sorted is each =
    let none : lookup (is_at (pair_cmp q)) es ≡ None = lookup-none (is_at (pair_cmp q)) es (none_past_head (eq_by_cmp_equiv pairs-total) q e es (IsDistinct-from_sorted pair_cmp (keys_of (e ∷ es)) sorted) is) in
    let out : list_any (is_at (pair_cmp q)) (keys_of es) ≡ false = sym (is_some-lookup (is_at (pair_cmp q)) es) ∙ ap (λ (o : Option ℕ). is_some o) none in
    none ∙ sym (ap (λ (b : Bool). if b then Some (f q) else None) out)
tail-value f e es q false sorted is each =
    let same : told_by f (keys_of (e ∷ es)) q ≡ told_by f (keys_of es) q = rw is refl in
    sym (lookup_tail (is_at (pair_cmp q)) e es is) ∙ (each ∙ same)

values-are : (f : Pick → ℕ) (es : List (Pick × ℕ)) → IsStrictlySortedBy pair_cmp (keys_of es) → ((q : Pick) → lookup (is_at (pair_cmp q)) es ≡ told_by f (keys_of es) q) → es ≡ map (entry_by f) (keys_of es)
values-are f [] sorted each = refl
values-are f (e ∷ es) sorted each =
    let rest = values-are f es (sorted_tail pair_cmp e.0 (keys_of es) sorted) (λ q. tail-value f e es q (is_at (pair_cmp q) e.0) sorted refl (each q)) in
    ap (λ (v : ℕ). (e.0, v) ∷ es) (head-value f e es (each e.0)) ∙ ap (λ (t : List (Pick × ℕ)). entry_by f e.0 ∷ t) rest

rows-by : (f : Pick → ℕ) (ks : List Pick) → map told_of (map (entry_by f) ks) ≡ map (λ (p : Pick). told_of (p, f p)) ks
rows-by f [] = refl
rows-by f (k ∷ ks) = ap (λ (t : List PickRow). told_of (k, f k) ∷ t) (rows-by f ks)

-- they are those that the slots tell
pub rows-told : (m : PickMap) (xs : List Slot) → IsOrdered pair_cmp m → AreCounts m xs → map told_of m.entries ≡ pick_rows xs
rows-told m xs ordered counts =
    let f : Pick → ℕ = λ p. how_many (tells_pick p) xs in
    let there : (q : Pick) → list_any (is_at (pair_cmp q)) (keys_of m.entries) ≡ list_any (has_pick q) xs =
    λ q. sym (is_some-lookup (is_at (pair_cmp q)) m.entries) ∙ (ap (λ (o : Option ℕ). is_some o) (counts.each q) ∙ some-if (list_any (has_pick q) xs) (how_many (tells_pick q) xs)) in
    let keys : keys_of m.entries ≡ in_order pick_before (flat_map picks_of xs) =
    in_order-is pair_cmp pick_before picks-order (keys_of m.entries) (flat_map picks_of xs) ordered (λ q. there q ∙ sym (all-among q xs)) in
    let entries : m.entries ≡ map (entry_by f) (keys_of m.entries) =
    values-are f m.entries ordered (λ q. counts.each q ∙ ap (λ (b : Bool). if b then Some (f q) else None) (sym (there q))) in
    ap (map told_of) (entries ∙ ap (map (entry_by f)) keys) ∙ rows-by f (in_order pick_before (flat_map picks_of xs))
