-- The nearest whole quotient is the nearest, and no other number is.
use Rattle.std.proofs.Common.{◌≡◌, ℕ, zero, suc, ◌+◌, ◌*◌, ◌/◌, ◌%◌, ◌<◌, ◌≤◌, zero-le, ℤ, pos, negsuc, neg_ℤ, ◌-ℤ◌, ◌*ℤ◌, refl, sym, ap, ◌∙◌, arith, inl, inr, cond, of_z, ◌^◌, ◌-◌, to_z, FitsSigned}
use Rattle.std.specs.Prelude.{unsigned_abs, int_lt}
use Rattle.std.specs.Int.{Width, abs_diff, w64, w128}
use Rattle.std.specs.Ordering.{int_eq}
use Rattle.std.proofs.lemmas.Int.{ints, to_z-of_z, unsigned_abs-mul, fits_signed_from_abs}
use Rattle.std.proofs.lemmas.Nat.{mul-le}
use Rattle.std.proofs.lemmas.Bool.{cases_order, cases_lt, le-ltb, false_from_ne_true}
use Rattle.std.proofs.lemmas.Bool.Decides.{nat_tests, Decides-int_eq}
use Rattle.std.proofs.Math.Nat.{mul-le-mul_right}
use Rattle.std.proofs.Math.IntN.{neg_ℤ-neg_ℤ, neg_ℤ-+ℤ}
use Rattle.qz_decimal.specs.Numbers.{nearest_natural, nearest, distance, signed, one, grade_one, IsNearest, IsWithin, IsMaxMark, IsQuizGrade}

-- ---- naturals

abs_diff-is : (a b : ℕ) → unsigned_abs (pos a -ℤ pos b) ≡ abs_diff a b
abs_diff-is a zero = omega arith
abs_diff-is a (suc b) = grind (arith, nat_tests)

record Rounds (n d q : ℕ) : Type 0 where
  pub low : 2 * (q * d) ≤ 2 * n + d
  pub high : 2 * n < 2 * (q * d) + d

rounds : (n d : ℕ) → 0 < d → Rounds n d (nearest_natural n d)
rounds n d positive =
    let positive2 : 0 < 2 * d = omega arith in
    let split : 2 * d * ((2 * n + d) / (2 * d)) + (2 * n + d) % (2 * d) ≡ 2 * n + d = omega arith in
    let rest : (2 * n + d) % (2 * d) < 2 * d = omega arith in
    record { low = omega arith; high = omega arith }

nearer : (n d q r : ℕ) → Rounds n d q → abs_diff n (q * d) ≤ abs_diff n (r * d)
nearer n d q r h =
    elim (cases_order q r) [
      | inl e ↦ rw e (omega arith)
      | inr (inl below) ↦ let step = mul-le-mul_right d below in omega (arith, h.low, h.high)
      | inr (inr above) ↦ let step = mul-le-mul_right d above in omega (arith, h.low, h.high)
    ]

outward : (n d q r : ℕ) → Rounds n d q → abs_diff n (r * d) ≡ abs_diff n (q * d) → r ≤ q
outward n d q r h e =
    elim (cases_order q r) [
      | inl same ↦ omega arith
      | inr (inl below) ↦ let step = mul-le-mul_right d below in absurd (omega (arith, h.low, h.high))
      | inr (inr above) ↦ omega arith
    ]

-- ---- integers

-- a negative number is farther from n than 0 is
beyond_zero : (n d r : ℕ) → distance (pos n) d (negsuc r) ≡ n + suc r * d
beyond_zero n d r = rw neg_ℤ-neg_ℤ refl

IsNearest-pos : (n d q : ℕ) → Rounds n d q → IsNearest (pos n) d (pos q)
IsNearest-pos n d q h = record {
  none_nearer = λ r. elim r as (λ r. distance (pos n) d (pos q) ≤ distance (pos n) d r) [
    | pos r ↦ rw (abs_diff-is n (q * d), abs_diff-is n (r * d)) (nearer n d q r h)
    | negsuc r ↦ rw (abs_diff-is n (q * d), beyond_zero) (omega (arith, h.low, h.high))
  ];
  ties_outward = λ r. elim r as (λ r. distance (pos n) d r ≡ distance (pos n) d (pos q) → unsigned_abs r ≤ q) [
    | pos r ↦ λ e. outward n d q r h (sym (abs_diff-is n (r * d)) ∙ e ∙ abs_diff-is n (q * d))
    | negsuc r ↦ λ e. let same : n + suc r * d ≡ abs_diff n (q * d) = sym (beyond_zero n d r) ∙ e ∙ abs_diff-is n (q * d) in absurd (omega (arith, h.low, h.high))
  ];
}

unsigned_abs-neg : (z : ℤ) → unsigned_abs (neg_ℤ z) ≡ unsigned_abs z
unsigned_abs-neg (pos zero) = refl
unsigned_abs-neg (pos (suc n)) = refl
unsigned_abs-neg (negsuc n) = refl

neg-mul : (q : ℤ) (d : ℕ) → neg_ℤ q *ℤ pos d ≡ neg_ℤ (q *ℤ pos d)
neg-mul (pos zero) d = omega (arith, ints)
neg-mul (pos (suc n)) d = refl
neg-mul (negsuc n) d = sym (neg_ℤ-neg_ℤ (pos (suc n * d)))

distance-neg : (n : ℤ) (d : ℕ) (q : ℤ) → distance (neg_ℤ n) d (neg_ℤ q) ≡ distance n d q
distance-neg n d q = rw (neg-mul q d, ← neg_ℤ-+ℤ n (neg_ℤ (q *ℤ pos d)), unsigned_abs-neg (n -ℤ q *ℤ pos d)) refl

IsNearest-neg : (n : ℤ) (d : ℕ) (q : ℤ) → IsNearest n d q → IsNearest (neg_ℤ n) d (neg_ℤ q)
IsNearest-neg n d q h = record {
  none_nearer = λ r. rw (distance-neg n d q, ← neg_ℤ-neg_ℤ r, distance-neg n d (neg_ℤ r)) (h.none_nearer (neg_ℤ r));
  ties_outward = λ r e. rw (unsigned_abs-neg q, ← unsigned_abs-neg r) (h.ties_outward (neg_ℤ r) (sym (distance-neg n d (neg_ℤ r)) ∙ ap (distance (neg_ℤ n) d) (neg_ℤ-neg_ℤ r) ∙ e ∙ distance-neg n d q));
}

pub IsNearest-nearest : (n : ℤ) (d : ℕ) → 0 < d → IsNearest n d (nearest n d)
IsNearest-nearest (pos n) d positive = IsNearest-pos n d (nearest_natural n d) (rounds n d positive)
IsNearest-nearest (negsuc n) d positive = IsNearest-neg (pos (suc n)) d (pos (nearest_natural (suc n) d)) (IsNearest-pos (suc n) d (nearest_natural (suc n) d) (rounds (suc n) d positive))

-- a number above 0 and its opposite aren't both nearest
opposites : (n d a b : ℕ) → 0 < d → IsNearest (pos n) d (pos (suc a)) → distance (pos n) d (pos (suc a)) ≡ distance (pos n) d (negsuc b) → a ≡ b → ⊥
opposites n d a b positive h e size =
    let same : abs_diff n (suc a * d) ≡ n + suc b * d = sym (abs_diff-is n (suc a * d)) ∙ e ∙ beyond_zero n d b in
    let least : abs_diff n (suc a * d) ≤ abs_diff n (0 * d) = rw (← abs_diff-is n (suc a * d), ← abs_diff-is n (0 * d)) (h.none_nearer (pos 0)) in
    let products : a * d ≡ b * d = ap (λ k. k * d) size in
    omega arith

-- no two numbers are nearest
pub IsNearest-only : (n : ℤ) (d : ℕ) (p q : ℤ) → 0 < d → IsNearest n d p → IsNearest n d q → p ≡ q
IsNearest-only n d p q positive h k =
    let same : distance n d p ≡ distance n d q = omega (arith, h.none_nearer q, k.none_nearer p) in
    let size : unsigned_abs p ≡ unsigned_abs q = omega (arith, h.ties_outward q (sym same), k.ties_outward p same) in
    go n p q h k same size
  where
    go : (n p q : ℤ) → IsNearest n d p → IsNearest n d q → distance n d p ≡ distance n d q → unsigned_abs p ≡ unsigned_abs q → p ≡ q
    go n (pos a) (pos b) h k same size = ap pos size
    go n (negsuc a) (negsuc b) h k same size = ap negsuc (omega arith)
    go n (pos zero) (negsuc b) h k same size = absurd (omega arith)
    go n (negsuc a) (pos zero) h k same size = absurd (omega arith)
    go (pos n) (pos (suc a)) (negsuc b) h k same size = absurd (opposites n d a b positive h same (omega arith))
    go (pos n) (negsuc a) (pos (suc b)) h k same size = absurd (opposites n d b a positive k (sym same) (omega arith))
    go (negsuc n) (pos (suc a)) (negsuc b) h k same size = absurd (opposites (suc n) d b a positive (IsNearest-neg (negsuc n) d (negsuc b) k) (distance-neg (negsuc n) d (negsuc b) ∙ sym same ∙ sym (distance-neg (negsuc n) d (pos (suc a)))) (omega arith))
    go (negsuc n) (negsuc a) (pos (suc b)) h k same size = absurd (opposites (suc n) d a b positive (IsNearest-neg (negsuc n) d (negsuc a) h) (distance-neg (negsuc n) d (negsuc a) ∙ same ∙ sym (distance-neg (negsuc n) d (pos (suc b)))) (omega arith))

-- ---- how large it is

within : (n d k : ℕ) → 0 < d → n ≤ k * d → nearest_natural n d ≤ k
within n d k positive h =
    elim (cases_lt k (nearest_natural n d)) [
      | inl more ↦ let step = mul-le-mul_right d more in absurd (omega (arith, (rounds n d positive).low))
      | inr le ↦ le
    ]

-- a quotient within k has its nearest number within k
pub nearest-within : (n : ℤ) (d k : ℕ) → 0 < d → unsigned_abs n ≤ k * d → unsigned_abs (nearest n d) ≤ k
nearest-within (pos n) d k positive h = within n d k positive h
nearest-within (negsuc n) d k positive h = rw (unsigned_abs-neg (pos (nearest_natural (suc n) d))) (within (suc n) d k positive h)

pub signed-nearest : (n : ℤ) (d : ℕ) → signed (int_lt n (pos 0)) (nearest_natural (unsigned_abs n) d) ≡ nearest n d
signed-nearest (pos n) d = rw (le-ltb n 0 zero-le) refl
signed-nearest (negsuc n) d = refl

-- a quotient that is 0 where its divisor z is, at a z that isn't 0
pub divided : (z r q : ℤ) → (of_z w64 z ≡ 0 → ⊥) → r ≡ q → r ≡ cond (int_eq z (pos 0)) (pos 0) q
divided z r q some e = rw (false_from_ne_true (int_eq z (pos 0)) (λ t. some (ap (of_z w64) ((Decides-int_eq z (pos 0)).0 t)))) e

-- a field that is read is the number that it shows
pub shown : (w : Width) (inside z : ℤ) → inside ≡ z → FitsSigned w z → to_z w (of_z w inside) ≡ z
shown w inside z e fits = ap (λ (x : ℤ). to_z w (of_z w x)) e ∙ to_z-of_z w z fits

-- ---- room for the products

pub rescale-room : (mark given max : ℤ) → IsWithin (pos 0) given mark → IsMaxMark max → unsigned_abs (mark *ℤ max) ≤ (2 ^ 63 - 1) * unsigned_abs given
rescale-room mark given max between small =
    let mark_le : unsigned_abs mark ≤ unsigned_abs given = omega (arith, ints, between.0, between.1) in
    let max_le : unsigned_abs max ≤ 10000 * one = omega (arith, ints, small.0, small.1) in
    rw unsigned_abs-mul (omega (arith, mul-le (unsigned_abs mark) (unsigned_abs max) (unsigned_abs given) (10000 * one) mark_le max_le))

pub grade-room : (total grade : ℤ) (count : ℕ) → unsigned_abs total ≤ count * (12000000 * one) → count < 2 ^ 32 → IsQuizGrade grade → unsigned_abs (total *ℤ grade) ≤ 2 ^ 126
grade-room total grade count few fits small =
    let total_le : unsigned_abs total ≤ 2 ^ 32 * (12000000 * one) = omega arith in
    let grade_le : unsigned_abs grade ≤ 10000 * grade_one = omega (arith, ints, small.0, small.1) in
    rw unsigned_abs-mul (omega (arith, mul-le (unsigned_abs total) (unsigned_abs grade) (2 ^ 32 * (12000000 * one)) (10000 * grade_one) total_le grade_le))

-- the product that the code computes
pub grade-product : (total inside grade : ℤ) (count : ℕ) → FitsSigned w128 total → inside ≡ grade → unsigned_abs total ≤ count * (12000000 * one) → count < 2 ^ 32 → IsQuizGrade grade
    → to_z w128 (of_z w128 (to_z w128 (of_z w128 total) *ℤ to_z w128 (of_z w128 inside))) ≡ total *ℤ grade
grade-product total inside grade count fits same few small_count small =
    let room = grade-room total grade count few small_count small in
    let grade_is = shown w128 inside grade same (fits_signed_from_abs w128 grade (omega (arith, ints, small.0, small.1))) in
    rw (to_z-of_z w128 total fits, grade_is) (to_z-of_z w128 (total *ℤ grade) (fits_signed_from_abs w128 (total *ℤ grade) (omega (arith, room))))
