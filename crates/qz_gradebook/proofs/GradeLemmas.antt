-- Totals that are taken for a grade, one attempt more at a time.
use Rattle.std.proofs.Common.{◌≡◌, ℕ, ◌+◌, ◌-◌, ◌*◌, ◌^◌, ◌<◌, ◌≤◌, Bool, true, false, List, [], ◌∷◌, ◌++◌, Option, Some, None, length, take, get_or, map, append-nil, length-append, refl, sym, ap, ◌∙◌, arith, to_z, of_z}
use Rattle.std.specs.Prelude.{ℤ, pos, negsuc, neg_ℤ, ◌+ℤ◌, ◌≤ℤ◌, filter_map, fold, if◌then◌else◌, IfSome, is_some, option_map, option_to_list, slice_get, unsigned_abs, unwrap_or}
use Rattle.std.specs.Int.{from_bool, int_max, w128}
use Rattle.std.specs.List.{last_or}
use Rattle.std.proofs.lemmas.Grind.{fold-append}
use Rattle.std.proofs.lemmas.Int.{ints, to_z-of_z, fits_signed_from_abs}
use Rattle.qz_decimal.specs.Numbers.{one}
use Rattle.qz_grading.specs.Steps.{last_of}
use Rattle.qz_grading.proofs.StepLemmas.{last_read}
use Rattle.qz_terms.specs.Rows.{IsTotal, greatest_total, sum_of}
use Rattle.qz_terms.proofs.Walks.{all_kept}
use Rattle.qz_gradebook.specs.declared.finished.Finished.{Finished}
use Rattle.qz_gradebook.specs.Grades.{IsAdded, greater}
use Rattle.qz_gradebook.specs.Totals.{total}

-- the totals that are there, of the attempts themselves or of the list of their totals
there-by : (x : Finished) (xs : List Finished) (o : Option ℤ) → x.total ≡ o → filter_map (λ (t : Option ℤ). t) (map total xs) ≡ filter_map total xs → filter_map (λ (t : Option ℤ). t) (map total (x ∷ xs)) ≡ filter_map total (x ∷ xs)
there-by x xs None is rest = rw is rest
there-by x xs (Some t) is rest = rw is (ap (λ (ts : List ℤ). t ∷ ts) rest)

pub there : (xs : List Finished) → filter_map (λ (t : Option ℤ). t) (map total xs) ≡ filter_map total xs
there [] = refl
there (x ∷ xs) = there-by x xs x.total refl (there xs)

-- the last
last-mapped : {A B : Type 0} (f : A → B) (o : Option A) (xs : List A) → last_or (option_map f o) (map f xs) ≡ option_map f (last_or o xs)
last-mapped f o [] = refl
last-mapped f o (x ∷ xs) = last-mapped f (Some x) xs

pub last_total : (xs : List Finished) (x : Finished) → slice_get xs (length xs - 1) ≡ Some x → x.total ≡ unwrap_or (last_of (map total xs)) None
last_total xs x is = let found : last_of xs ≡ Some x = sym (last_read xs) ∙ is in rw (last-mapped total None xs, found) refl

-- ---- the greatest

greatest-more : (ts : List ℤ) (o : Option ℤ) → greatest_total (ts ++ option_to_list o) ≡ greater (greatest_total ts) o
greatest-more [] None = refl
greatest-more [] (Some t) = refl
greatest-more (s ∷ ts) None = let same : ts ++ [] ≡ ts = append-nil ts in ap (λ (xs : List ℤ). Some (fold int_max s xs)) same
greatest-more (s ∷ ts) (Some t) = ap (λ (m : ℤ). Some m) (fold-append int_max s ts (t ∷ []))

-- of the totals up to one at a place
pub greatest_more : (xs : List Finished) (i : ℕ) (x : Finished) (best : Option ℤ) → i < length xs → x ≡ get_or xs i x → best ≡ greatest_total (filter_map total (take i xs)) → greater best x.total ≡ greatest_total (filter_map total (take (i + 1) xs))
greatest_more xs i x best inside is so_far =
    ap (λ (o : Option ℤ). greater o x.total) so_far ∙ sym (ap greatest_total (all_kept total xs i x inside is) ∙ greatest-more (filter_map total (take i xs)) x.total)

-- ---- the sum

pub size-total : (t : ℤ) → IsTotal t → unsigned_abs t ≤ 1 * (12000000 * one)
size-total (pos n) within = let most : pos n ≤ℤ pos (12000000 * one) = within.1 in omega (arith, ints)
size-total (negsuc n) within = let least : neg_ℤ (pos (12000000 * one)) ≤ℤ negsuc n = within.0 in omega (arith, ints)

sum-more : (ts : List ℤ) (o : Option ℤ) → sum_of (ts ++ option_to_list o) ≡ sum_of ts +ℤ unwrap_or o (pos 0)
sum-more ts None = let same : ts ++ [] ≡ ts = append-nil ts in ap sum_of same ∙ omega (arith, ints)
sum-more ts (Some t) = fold-append ◌+ℤ◌ (pos 0) ts (t ∷ [])

count-more : (ts : List ℤ) (o : Option ℤ) → length (ts ++ option_to_list o) ≡ length ts + (if is_some o then 1 else 0)
count-more ts None = let same : ts ++ [] ≡ ts = append-nil ts in ap length same ∙ omega arith
count-more ts (Some t) = length-append ts (t ∷ [])

size-more : (sum : ℤ) (count : ℕ) (o : Option ℤ) → IfSome o IsTotal → unsigned_abs sum ≤ count * (12000000 * one) → unsigned_abs (sum +ℤ unwrap_or o (pos 0)) ≤ (count + (if is_some o then 1 else 0)) * (12000000 * one)
size-more sum count None within few = omega (arith, ints)
size-more sum count (Some t) within few = let one_more = size-total t within in omega (arith, ints)

pub one-if : (b : Bool) → from_bool b ≡ (if b then 1 else 0)
one-if true = refl
one-if false = refl

pub few-more : (count i n : ℕ) (b : Bool) → count ≤ i → n ≡ from_bool b → count + n ≤ i + 1
few-more count i n true few is = omega (arith, is)
few-more count i n false few is = omega (arith, is)

pub added-none : IsAdded [] (pos 0) 0
added-none = record { sum_is = refl; count_is = refl; range = omega arith }

pub added_more : (xs : List Finished) (i : ℕ) (x : Finished) (sum : ℤ) (count : ℕ) → i < length xs → x ≡ get_or xs i x → IfSome x.total IsTotal → IsAdded (take i xs) sum count → IsAdded (take (i + 1) xs) (sum +ℤ unwrap_or x.total (pos 0)) (count + (if is_some x.total then 1 else 0))
added_more xs i x sum count inside is within so_far = record {
  sum_is = ap (λ (s : ℤ). s +ℤ unwrap_or x.total (pos 0)) so_far.sum_is ∙ sym (ap sum_of (all_kept total xs i x inside is) ∙ sum-more (filter_map total (take i xs)) x.total);
  count_is = ap (λ (n : ℕ). n + (if is_some x.total then 1 else 0)) so_far.count_is ∙ sym (ap length (all_kept total xs i x inside is) ∙ count-more (filter_map total (take i xs)) x.total);
  range = size-more sum count x.total within so_far.range;
}

size-alone : (o : Option ℤ) → IfSome o IsTotal → unsigned_abs (unwrap_or o (pos 0)) ≤ 12000000 * one
size-alone None within = omega arith
size-alone (Some t) within = let small = size-total t within in omega arith

-- the sum stays in range
pub sum-kept : (sum : ℤ) (count : ℕ) (x : Option ℤ) (m : ℤ) → IfSome x IsTotal → m ≡ unwrap_or x (pos 0) → unsigned_abs sum ≤ count * (12000000 * one) → count < 2 ^ 32 → to_z w128 (of_z w128 (sum +ℤ to_z w128 (of_z w128 m))) ≡ sum +ℤ unwrap_or x (pos 0)
sum-kept sum count x m within is few small =
    let alone = size-alone x within in
    let size : unsigned_abs m ≤ 12000000 * one = rw is alone in
    let kept : to_z w128 (of_z w128 m) ≡ m = to_z-of_z w128 m (fits_signed_from_abs w128 m (omega (arith, ints))) in
    rw kept (to_z-of_z w128 (sum +ℤ m) (fits_signed_from_abs w128 (sum +ℤ m) (omega (arith, ints))) ∙ ap (λ (n : ℤ). sum +ℤ n) is)
