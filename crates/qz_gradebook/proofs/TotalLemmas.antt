-- A total that is put among attempts in order, and the totals of a user.
use Rattle.std.proofs.Common.{◌≡◌, ℕ, ◌+◌, ◌^◌, ◌<◌, ◌≤◌, Bool, true, false, not, List, [], ◌∷◌, ◌++◌, Option, Some, None, length, take, drop, set, map, append-nil, refl, sym, ap, subst, ◌∙◌, arith, All}
use Rattle.std.specs.List.{AllPairs, insert}
use Rattle.std.specs.List.Sorted.{IsPartitionPoint, IsPartitionedBy}
use Rattle.std.specs.Prelude.{ℤ, filter, option_and_then, option_map, slice_get, unwrap_or}
use Rattle.std.proofs.lemmas.Bool.{ltb-true, not-true}
use Rattle.std.proofs.lemmas.List.{length-map, take-append-drop}
use Rattle.std.proofs.lemmas.List.Elements.{All-append, All-cons, All-filter, All-head, All-nil, All-tail, All-weaker, filter-append, filter_passes}
use Rattle.std.proofs.lemmas.List.Folds.{list_any_none}
use Rattle.std.proofs.lemmas.List.Kept.{AllPairs-filter}
use Rattle.qz_grading.specs.declared.refusal.AttemptId.{AttemptId}
use Rattle.qz_terms.specs.Lists.{first_of, in_order, placed}
use Rattle.qz_gradebook.specs.declared.finished.Finished.{Finished}
use Rattle.qz_gradebook.specs.Orders.{IsFinished, IsGradebook, IsPlace, comes_before_user}
use Rattle.qz_gradebook.specs.Totals.{comes_before, is_attempt, is_by, is_there, numbered_before, total, total_at, totals_of, with_total}
use Rattle.qz_gradebook.proofs.OrderLemmas.{all-between, earlier, earlier-other, filter-all, filter-none, greater-apart, in_order-same, lesser-apart, lesser-equal, lesser-never, lesser-other, lesser-trans, not_earlier, numbered, pairs-between, pairs-drop, pairs-first, pairs-rest, parted-behind, parted-filter, parted-front, parted_by, placed-between, set-split, slice_get-first}

abbrev pub Ordered : Finished → Finished → Type 0
Ordered a b = comes_before a b ≡ true

-- ---- the place of an attempt

module _ (fs : List Finished) (new : Finished) where
  pub place-parted : IsGradebook fs → IsPartitionedBy (λ f. comes_before f new) fs
  place-parted kept = parted_by (λ f. comes_before f new) Ordered (λ x y h more. lesser-trans x.quiz x.attempt.user x.attempt.nth y.quiz y.attempt.user y.attempt.nth new.quiz new.attempt.user new.attempt.nth h more) fs kept.order

  pub place-found : (i : ℕ) → i ≤ length fs → IsPartitionPoint (λ f. comes_before f new ≡ true) (λ f. comes_before f new ≡ false) fs i → IsPlace fs new i
  place-found i inside point = record { inside = inside; front = parted-front (λ f. comes_before f new) fs i inside point; behind = parted-behind (λ f. comes_before f new) fs i inside point }

-- ---- a total that is put

-- this list has the total of an attempt put, and is kept in order
pub record IsPut (q : ℕ) (a : AttemptId) (t : Option ℤ) (fs gs : List Finished) : Type 0 where
  pub is : gs ≡ with_total q a t fs
  pub kept : IsGradebook gs

module _ (q : ℕ) (a : AttemptId) (t : Option ℤ) where
  abbrev new : Finished
  new = record { quiz = q; attempt = a; total = t }

  abbrev is_other : Finished → Bool
  is_other f = not (is_attempt q a f)

  others-before : (xs : List Finished) → All (λ f. Ordered f new) xs → All (λ f. is_other f ≡ true) xs
  others-before xs front = All-weaker (λ f. Ordered f new) (λ f. is_other f ≡ true) (λ f h. rw (lesser-apart f.quiz f.attempt.user f.attempt.nth q a.user a.nth h) refl) xs front

  others-behind : (xs : List Finished) → All (Ordered new) xs → All (λ f. is_other f ≡ true) xs
  others-behind xs behind = All-weaker (Ordered new) (λ f. is_other f ≡ true) (λ f h. rw (greater-apart f.quiz f.attempt.user f.attempt.nth q a.user a.nth h) refl) xs behind

  never-behind : (xs : List Finished) → All (λ f. Ordered f new) xs → All (λ f. comes_before new f ≡ false) xs
  never-behind xs front = All-weaker (λ f. Ordered f new) (λ f. comes_before new f ≡ false) (λ f h. lesser-never f.quiz f.attempt.user f.attempt.nth q a.user a.nth h) xs front

  -- behind all others
  pub put-last : (fs : List Finished) → AllPairs Ordered fs → All (λ f. Ordered f new) fs → with_total q a t fs ≡ fs ++ new ∷ []
  put-last fs order front =
      ap (placed comes_before new) (ap (in_order comes_before) (filter-all is_other fs (others-before fs front)) ∙ in_order-same comes_before fs order ∙ sym (append-nil fs))
      ∙ placed-between comes_before new fs [] front (never-behind fs front) (All-nil (Ordered new))

  module _ (fs : List Finished) (i : ℕ) (kept : IsGradebook fs) where
    -- it stands between those before its place and the others
    put-between : (behind : List Finished) → IsFinished new → IsPlace fs new i → filter is_other (drop i fs) ≡ behind → All (Ordered new) behind → IsPut q a t fs (take i fs ++ new ∷ behind)
    put-between behind ok place rest after =
        let others : filter is_other fs ≡ take i fs ++ behind = ap (filter is_other) (sym (take-append-drop i fs)) ∙ filter-append is_other (take i fs) (drop i fs) ∙ rw (filter-all is_other (take i fs) (others-before (take i fs) place.front), rest) refl in
        let order : AllPairs Ordered (filter is_other fs) = AllPairs-filter Ordered is_other fs kept.order in
        record {
          is = sym (ap (placed comes_before new) (in_order-same comes_before (filter is_other fs) order ∙ others) ∙ placed-between comes_before new (take i fs) behind place.front (never-behind (take i fs) place.front) after);
          kept = record {
            order = pairs-between Ordered new (take i fs) behind (subst (AllPairs Ordered) others order) place.front after;
            each = all-between IsFinished new (take i fs) behind (subst (All IsFinished) others (All-filter is_other IsFinished fs kept.each)) ok;
          };
        }

    -- where it stands already
    put-again-by : (ds : List Finished) → IsFinished new → IsPlace fs new i → drop i fs ≡ ds → unwrap_or (option_map (is_attempt q a) (first_of ds)) false ≡ true → IsPut q a t fs (set fs i new)
    put-again-by [] ok place is same = absurd cc
    put-again-by (x ∷ rest) ok place is same =
        let pairs : AllPairs Ordered (x ∷ rest) = subst (AllPairs Ordered) is (pairs-drop Ordered i fs kept.order) in
        let after : All (Ordered new) rest = All-weaker (Ordered x) (Ordered new) (λ f h. lesser-equal x.quiz x.attempt.user x.attempt.nth q a.user a.nth f.quiz f.attempt.user f.attempt.nth same h) rest (pairs-first Ordered x rest pairs) in
        let others : filter is_other (drop i fs) ≡ rest = rw (is, same) (filter-all is_other rest (others-behind rest after)) in
        rw (set-split fs i x new rest is) (put-between rest ok place others after)

    pub put-again : IsFinished new → IsPlace fs new i → unwrap_or (option_map (is_attempt q a) (slice_get fs i)) false ≡ true → IsPut q a t fs (set fs i new)
    put-again ok place same = put-again-by (drop i fs) ok place refl (rw slice_get-first at same)

    -- where it doesn't
    after-by : (ds : List Finished) → AllPairs Ordered ds → All (λ f. comes_before f new ≡ false) ds → unwrap_or (option_map (is_attempt q a) (first_of ds)) false ≡ false → All (Ordered new) ds
    after-by [] pairs behind apart = All-nil (Ordered new)
    after-by (x ∷ rest) pairs behind apart =
        let first : Ordered new x = lesser-other x.quiz x.attempt.user x.attempt.nth q a.user a.nth (All-head (λ f. comes_before f new ≡ false) x rest behind) apart in
        All-cons (Ordered new) x rest first (All-weaker (Ordered x) (Ordered new) (λ f h. lesser-trans q a.user a.nth x.quiz x.attempt.user x.attempt.nth f.quiz f.attempt.user f.attempt.nth first h) rest (pairs-first Ordered x rest pairs))

    after-place : IsPlace fs new i → unwrap_or (option_map (is_attempt q a) (slice_get fs i)) false ≡ false → All (Ordered new) (drop i fs)
    after-place place apart = after-by (drop i fs) (pairs-drop Ordered i fs kept.order) place.behind (rw slice_get-first at apart)

    pub put-new : IsFinished new → IsPlace fs new i → unwrap_or (option_map (is_attempt q a) (slice_get fs i)) false ≡ false → IsPut q a t fs (insert fs i new)
    put-new ok place apart =
        let after = after-place place apart in
        put-between (drop i fs) ok place (filter-all is_other (drop i fs) (others-behind (drop i fs) after)) after

    not-there : (f : Finished) → is_other f ≡ true → is_attempt q a f ≡ false
    not-there f is = not-true (is_attempt q a f) is

    pub nowhere : IsPlace fs new i → unwrap_or (option_map (is_attempt q a) (slice_get fs i)) false ≡ false → is_there q a fs ≡ false
    nowhere place apart =
        let others : All (λ f. is_other f ≡ true) (take i fs ++ drop i fs) = All-append (λ f. is_other f ≡ true) (take i fs) (drop i fs) (others-before (take i fs) place.front) (others-behind (drop i fs) (after-place place apart)) in
        list_any_none (is_attempt q a) fs (All-weaker (λ f. is_other f ≡ true) (λ f. is_attempt q a f ≡ false) not-there fs (subst (All (λ f. is_other f ≡ true)) (take-append-drop i fs) others))

-- ---- the total of an attempt

module _ (q : ℕ) (a : AttemptId) (fs : List Finished) (i : ℕ) (kept : IsGradebook fs) (place : IsPlace fs (record { quiz = q; attempt = a; total = None }) i) where
  none-before : All (λ f. is_attempt q a f ≡ false) (take i fs)
  none-before = All-weaker (λ f. Ordered f (record { quiz = q; attempt = a; total = None })) (λ f. is_attempt q a f ≡ false) (λ f h. lesser-apart f.quiz f.attempt.user f.attempt.nth q a.user a.nth h) (take i fs) place.front

  from-place : total_at q a fs ≡ total_at q a (drop i fs)
  from-place =
      let rest : filter (is_attempt q a) fs ≡ filter (is_attempt q a) (drop i fs) = ap (filter (is_attempt q a)) (sym (take-append-drop i fs)) ∙ filter-append (is_attempt q a) (take i fs) (drop i fs) ∙ rw (filter-none (is_attempt q a) (take i fs) none-before) refl in
      ap (λ (gs : List Finished). option_and_then total (first_of gs)) rest

  found-by : (ds : List Finished) (x : Finished) → first_of ds ≡ Some x → is_attempt q a x ≡ true → total_at q a ds ≡ x.total
  found-by [] x is same = absurd cc
  found-by (y ∷ ds) x is same = let one : y ≡ x = cc in rw (one, same) refl

  -- where it stands
  pub total-there : (x : Finished) → slice_get fs i ≡ Some x → is_attempt q a x ≡ true → total_at q a fs ≡ x.total
  total-there x is same = from-place ∙ found-by (drop i fs) x (sym (slice_get-first fs i) ∙ is) same

  -- where it doesn't
  pub total-nowhere : unwrap_or (option_map (is_attempt q a) (slice_get fs i)) false ≡ false → total_at q a fs ≡ None
  total-nowhere apart =
      let after = after-place q a None fs i kept place apart in
      let none : filter (is_attempt q a) (drop i fs) ≡ [] = filter-none (is_attempt q a) (drop i fs) (All-weaker (Ordered (record { quiz = q; attempt = a; total = None })) (λ f. is_attempt q a f ≡ false) (λ f h. greater-apart f.quiz f.attempt.user f.attempt.nth q a.user a.nth h) (drop i fs) after) in
      from-place ∙ ap (λ (gs : List Finished). option_and_then total (first_of gs)) none

-- ---- the totals of a user

numbers-few : (n : ℕ) (xs : List Finished) → n < 2 ^ 32 → All (λ f. n < f.attempt.nth) xs → All IsFinished xs → AllPairs (λ a b. numbered_before a b ≡ true) xs → n + length xs < 2 ^ 32
numbers-few n [] small above each order = omega arith
numbers-few n (x ∷ xs) small above each order =
    let first : n < x.attempt.nth = All-head (λ f. n < f.attempt.nth) x xs above in
    let one = All-head IsFinished x xs each in
    let more : All (λ f. x.attempt.nth < f.attempt.nth) xs = All-weaker (λ f. numbered_before x f ≡ true) (λ f. x.attempt.nth < f.attempt.nth) (λ f h. ltb-true x.attempt.nth f.attempt.nth h) xs (pairs-first (λ a b. numbered_before a b ≡ true) x xs order) in
    let rest = numbers-few x.attempt.nth xs one.width more (All-tail IsFinished x xs each) (pairs-rest (λ a b. numbered_before a b ≡ true) x xs order) in
    omega arith

module _ (fs : List Finished) (q u : ℕ) (kept : IsGradebook fs) where
  pub user-parted : IsPartitionedBy (comes_before_user q u) fs
  user-parted = parted_by (comes_before_user q u) Ordered (λ x y h more. earlier q u x.quiz x.attempt.user x.attempt.nth y.quiz y.attempt.user y.attempt.nth h more) fs kept.order

  by-order : AllPairs (λ a b. numbered_before a b ≡ true) (filter (is_by q u) fs)
  by-order i j d less within =
      numbered q u _ _ _ _ _ _ (AllPairs-filter Ordered (is_by q u) fs kept.order i j d less within) (filter_passes (is_by q u) fs i d (omega arith)) (filter_passes (is_by q u) fs j d within)

  pub totals-few : length (totals_of fs q u) < 2 ^ 32
  totals-few =
      let each = All-filter (is_by q u) IsFinished fs kept.each in
      let numbers : All (λ f. 0 < f.attempt.nth) (filter (is_by q u) fs) = All-weaker IsFinished (λ f. 0 < f.attempt.nth) (λ f one. one.number) (filter (is_by q u) fs) each in
      let few = numbers-few 0 (filter (is_by q u) fs) (omega arith) numbers each by-order in
      rw (in_order-same numbered_before (filter (is_by q u) fs) by-order, length-map (filter (is_by q u) fs) total) (omega arith)

  module _ (first : ℕ) (inside : first ≤ length fs) (point : IsPartitionPoint (λ f. comes_before_user q u f ≡ true) (λ f. comes_before_user q u f ≡ false) fs first) where
    late : All (λ f. comes_before_user q u f ≡ false) (drop first fs)
    late = parted-behind (comes_before_user q u) fs first inside point

    pub by-parted : IsPartitionedBy (is_by q u) (drop first fs)
    by-parted = parted_by (is_by q u) (λ x y. Ordered x y × (comes_before_user q u x ≡ false)) (λ x y h same. not_earlier q u x.quiz x.attempt.user x.attempt.nth y.quiz y.attempt.user y.attempt.nth h.0 h.1 same) (drop first fs) (λ i j d less within. (pairs-drop Ordered first fs kept.order i j d less within, late i d (omega arith)))

    module _ (count : ℕ) (few : count ≤ length (drop first fs)) (end : IsPartitionPoint (λ f. is_by q u f ≡ true) (λ f. is_by q u f ≡ false) (drop first fs) count) where
      by-user : filter (is_by q u) fs ≡ take count (drop first fs)
      by-user =
          let others : All (λ f. is_by q u f ≡ false) (take first fs) = All-weaker (λ f. comes_before_user q u f ≡ true) (λ f. is_by q u f ≡ false) (λ f h. earlier-other q u f.quiz f.attempt.user h) (take first fs) (parted-front (comes_before_user q u) fs first inside point) in
          ap (filter (is_by q u)) (sym (take-append-drop first fs)) ∙ filter-append (is_by q u) (take first fs) (drop first fs) ∙ rw (filter-none (is_by q u) (take first fs) others) (parted-filter (is_by q u) (drop first fs) count few end)

      pub totals-read : map total (take count (drop first fs)) ≡ totals_of fs q u
      totals-read = ap (map total) (sym (in_order-same numbered_before (filter (is_by q u) fs) by-order ∙ by-user))
