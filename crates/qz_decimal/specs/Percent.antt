-- What weight a text spells: a number of percent between two `%`.
use Rattle.std.specs.Prelude.{◌≡◌, ℕ, ◌-◌, true, ◌==◌, ◌&&◌, nat_lt, if◌then◌else◌, ℤ, pos, neg_ℤ, List, [], ◌∷◌, ◌++◌, length, take, drop, slice_index, Option, Some, None, option_and_then}
use Rattle.std.specs.Result.{result_ok}
use Rattle.qz_decimal.specs.declared.reading.Form.{Form}
use Rattle.qz_decimal.specs.Numbers.{one, IsWithin}
use Rattle.qz_decimal.specs.Reading.{IsSpelled, units_within}

-- `%`
abbrev pub percent : ℕ
percent = 37

-- Its units are 10^-5 of a percent, which are those of a fraction.
abbrev pub percent_form : Form
percent_form = record { whole = 3; places = 5; bare_point = true }

-- the text spells this weight, which is from -1 to 1
pub record IsWeight (text : List ℕ) (units : ℤ) : Type 0 where
  pub number : List ℕ
  pub text_is : text ≡ percent ∷ (number ++ percent ∷ [])
  pub spelled : IsSpelled percent_form number units
  pub in_range : IsWithin (neg_ℤ (pos one)) (pos one) units

-- ---- the same by reading from the left

-- what stands between two `%` at the ends
abbrev pub between_percents : List ℕ → Option (List ℕ)
between_percents text =
    if nat_lt 1 (length text) && (slice_index text 0 == percent && slice_index text (length text - 1) == percent)
    then Some (take (length text - 2) (drop 1 text))
    else None

-- the whole text
unfoldable pub weight_in : List ℕ → Option ℤ
weight_in text = option_and_then (λ number. result_ok (units_within percent_form (neg_ℤ (pos one)) (pos one) number)) (between_percents text)
