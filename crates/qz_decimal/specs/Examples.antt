-- Worked values.
use Rattle.std.specs.Prelude.{◌≡◌, pos, negsuc, refl, [], ◌∷◌, Some, None, Ok, Err}
use Rattle.qz_decimal.specs.declared.reading.BadNumber.TheVariants.{Malformed, Range}
use Rattle.qz_decimal.specs.declared.tone.Tone.TheVariants.{Wrong, Partial, Right}
use Rattle.qz_decimal.specs.Numbers.{nearest, mark_of, share, rescale, grade_of, tone_of}
use Rattle.qz_decimal.specs.Reading.{mark_in, units_within, units_in, size_at, rest_at, decimals_at}
use Rattle.qz_decimal.specs.Percent.{weight_in}
use Rattle.qz_decimal.specs.Decimals.{decimal_in, digits_in, tens_in, exact_size}

-- ---- the nearest whole number

-- 5 / 2, 4 / 3 and 5 / 3
pub half_goes_up : nearest (pos 5) 2 ≡ pos 3
half_goes_up = refl

pub third_goes_down : nearest (pos 4) 3 ≡ pos 1
third_goes_down = refl

pub two_thirds_go_up : nearest (pos 5) 3 ≡ pos 2
two_thirds_go_up = refl

-- -5 / 2 and -1 / 3
pub negative_half_goes_down : nearest (negsuc 4) 2 ≡ negsuc 2
negative_half_goes_down = refl

pub negative_third_is_zero : nearest (negsuc 0) 3 ≡ pos 0
negative_third_is_zero = refl

-- 0.9999999 of 3
pub almost_all_of_three : mark_of (pos 9999999) (pos 30000000) ≡ pos 29999997
almost_all_of_three = refl

-- 0.3333333 of 10, and minus 6 of 1
pub third_of_ten : mark_of (pos 3333333) (pos 100000000) ≡ pos 33333330
third_of_ten = refl

pub six_lost : mark_of (negsuc 59999999) (pos 10000000) ≡ negsuc 59999999
six_lost = refl

-- `-1.5`, `1.`, `1234567` and `100000.0000001`
pub reads_minus : mark_in (45 ∷ 49 ∷ 46 ∷ 53 ∷ []) ≡ Ok (negsuc 14999999)
unfolding units_within units_in size_at rest_at decimals_at
reads_minus = refl

pub ends_early : mark_in (49 ∷ 46 ∷ []) ≡ Err (Malformed 2)
unfolding units_within units_in size_at rest_at decimals_at
ends_early = refl

pub digit_too_many : mark_in (49 ∷ 50 ∷ 51 ∷ 52 ∷ 53 ∷ 54 ∷ 55 ∷ []) ≡ Err (Malformed 6)
unfolding units_within units_in size_at rest_at decimals_at
digit_too_many = refl

pub too_great : mark_in (49 ∷ 48 ∷ 48 ∷ 48 ∷ 48 ∷ 48 ∷ 46 ∷ 48 ∷ 48 ∷ 48 ∷ 48 ∷ 48 ∷ 48 ∷ 49 ∷ []) ≡ Err Range
unfolding units_within units_in size_at rest_at decimals_at
too_great = refl

-- ---- shares, other max marks, grades and tones

pub two_of_three : share 2 3 ≡ pos 6666667
two_of_three = refl

pub one_of_eight : share 1 8 ≡ pos 1250000
one_of_eight = refl

-- 4 of 5, out of 8
pub out_of_eight : rescale (pos 40000000) (pos 50000000) (pos 80000000) ≡ pos 64000000
out_of_eight = refl

pub out_of_nothing : rescale (pos 0) (pos 0) (pos 80000000) ≡ pos 0
out_of_nothing = refl

-- the mean of 1, 2 and 2 of 3, where the quiz's grade is 10
pub mean_of_three : grade_of (pos 50000000) 3 (pos 1000000) (pos 30000000) ≡ pos 555556
mean_of_three = refl

pub just_wrong : tone_of (pos 9) ≡ Wrong
just_wrong = refl

pub just_partial : tone_of (pos 10) ≡ Partial
just_partial = refl

pub nearly_right : tone_of (pos 9999990) ≡ Partial
nearly_right = refl

pub just_right : tone_of (pos 9999991) ≡ Right
just_right = refl

-- ---- weights and numbers

-- `%50.%`
pub half_by_percent : weight_in (37 ∷ 53 ∷ 48 ∷ 46 ∷ 37 ∷ []) ≡ Some (pos 5000000)
unfolding weight_in units_within units_in size_at rest_at decimals_at
half_by_percent = refl

-- `%%`
pub no_percent : weight_in (37 ∷ 37 ∷ []) ≡ None
unfolding weight_in units_within units_in size_at rest_at decimals_at
no_percent = refl

-- `-.5e-9`
pub five_units_below : decimal_in (45 ∷ 46 ∷ 53 ∷ 101 ∷ 45 ∷ 57 ∷ []) ≡ Some (negsuc 4)
unfolding decimal_in digits_in tens_in exact_size
five_units_below = refl

-- `1e14`, `1e15` and `.`
pub fifteen_digits : decimal_in (49 ∷ 101 ∷ 49 ∷ 52 ∷ []) ≡ Some (pos 1000000000000000000000000)
unfolding decimal_in digits_in tens_in exact_size
fifteen_digits = refl

pub sixteen_digits : decimal_in (49 ∷ 101 ∷ 49 ∷ 53 ∷ []) ≡ None
unfolding decimal_in digits_in tens_in exact_size
sixteen_digits = refl

pub lone_point : decimal_in (46 ∷ []) ≡ None
unfolding decimal_in digits_in tens_in exact_size
lone_point = refl
