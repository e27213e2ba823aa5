-- Quotients that are rounded once, and the numbers of a quiz that they give.
use Rattle.std.specs.Prelude.{◌≡◌, ℕ, suc, ◌+◌, ◌*◌, ◌/◌, ◌^◌, ◌≤◌, Bool, true, false, ℤ, pos, negsuc, neg_ℤ, ◌-ℤ◌, ◌*ℤ◌, ◌≤ℤ◌, unsigned_abs, int_lt, if◌then◌else◌}
use Rattle.std.specs.Ordering.{int_eq}
use Rattle.qz_decimal.specs.declared.tone.Tone.{Tone}
use Rattle.qz_decimal.specs.declared.tone.Tone.TheVariants.{Wrong, Partial, Right}

-- ---- the nearest whole number

-- the whole number nearest to n / d for two naturals, where a half goes up
abbrev pub nearest_natural : ℕ → ℕ → ℕ
nearest_natural n d = (2 * n + d) / (2 * d)

-- the whole number nearest to n / d, where a half goes away from zero
abbrev pub nearest : ℤ → ℕ → ℤ
nearest (pos n) d = pos (nearest_natural n d)
nearest (negsuc n) d = neg_ℤ (pos (nearest_natural (suc n) d))

-- how far q is from n / d, times d
abbrev pub distance : ℤ → ℕ → ℤ → ℕ
distance n d q = unsigned_abs (n -ℤ q *ℤ pos d)

-- no whole number lies nearer to n / d than q, and none that lies as near is farther from zero
pub record IsNearest (n : ℤ) (d : ℕ) (q : ℤ) : Type 0 where
  pub none_nearer : (r : ℤ) → distance n d q ≤ distance n d r
  pub ties_outward : (r : ℤ) → distance n d r ≡ distance n d q → unsigned_abs r ≤ unsigned_abs q

-- a size with a sign
abbrev pub signed : Bool → ℕ → ℤ
signed true size = neg_ℤ (pos size)
signed false size = pos size

-- from the least to the greatest
abbrev pub IsWithin : ℤ → ℤ → ℤ → Type 0
IsWithin least greatest units = (least ≤ℤ units) × (units ≤ℤ greatest)

-- ---- marks and fractions, in units of 10^-7, and grades, in units of 10^-5

-- the units in 1
abbrev pub one : ℕ
one = 10 ^ 7

-- the units in a grade of 1
abbrev pub grade_one : ℕ
grade_one = 10 ^ 5

-- a max mark is from 0 to 10,000
abbrev pub IsMaxMark : ℤ → Type 0
IsMaxMark = IsWithin (pos 0) (pos (10000 * one))

-- a response earns a fraction from -6, which is that of a wrong one given as certain, to 6
abbrev pub IsEarnedFraction : ℤ → Type 0
IsEarnedFraction = IsWithin (neg_ℤ (pos (6 * one))) (pos (6 * one))

-- so a slot's mark is from -60,000 to 60,000
abbrev pub IsSlotMark : ℤ → Type 0
IsSlotMark = IsWithin (neg_ℤ (pos (60000 * one))) (pos (60000 * one))

-- the sum of a quiz's max marks is from 0 to 2,000,000
abbrev pub IsMaxSum : ℤ → Type 0
IsMaxSum = IsWithin (pos 0) (pos (2000000 * one))

-- a quiz's grade is from 0 to 10,000
abbrev pub IsQuizGrade : ℤ → Type 0
IsQuizGrade = IsWithin (pos 0) (pos (10000 * grade_one))

-- the mark that a fraction earns of a max mark
abbrev pub mark_of : ℤ → ℤ → ℤ
mark_of fraction max = nearest (fraction *ℤ max) one

-- the fraction for so many right ones of all
abbrev pub share : ℕ → ℕ → ℤ
share right all = nearest (pos (right * one)) all

-- the fraction that a mark is of a max mark
abbrev pub fraction_of : ℤ → ℤ → ℤ
fraction_of mark max =
    if int_eq max (pos 0) then pos 0 else nearest (mark *ℤ pos one) (unsigned_abs max)

-- a mark given out of one max mark, as a mark out of another
abbrev pub rescale : ℤ → ℤ → ℤ → ℤ
rescale mark given max =
    if int_eq given (pos 0) then pos 0 else nearest (mark *ℤ max) (unsigned_abs given)

-- the grade for a sum of totals and their number, where a whole total would have the quiz's grade
abbrev pub grade_of : ℤ → ℕ → ℤ → ℤ → ℤ
grade_of total count grade sum =
    if int_eq sum (pos 0) then pos 0 else nearest (total *ℤ grade) (count * unsigned_abs sum)

-- a fraction below 0.000001 is wrong, one above 0.999999 is right, and one between is partial
abbrev pub is_wrong : ℤ → Bool
is_wrong fraction = int_lt fraction (pos 10)

abbrev pub is_right : ℤ → Bool
is_right fraction = int_lt (pos 9999990) fraction

abbrev pub tone_of : ℤ → Tone
tone_of fraction = if is_wrong fraction then Wrong else (if is_right fraction then Right else Partial)
