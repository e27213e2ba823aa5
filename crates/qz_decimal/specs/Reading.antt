-- What number a text spells: an optional minus, whole digits, and optionally a point and decimals.
use Rattle.std.specs.Prelude.{◌≡◌, ℕ, ◌+◌, ◌-◌, ◌*◌, ◌^◌, ◌<◌, ◌≤◌, min, Bool, true, false, IsTrue, if◌then◌else◌, ◌==◌, ◌&&◌, nat_lt, not, ℤ, pos, neg_ℤ, List, [], ◌∷◌, ◌++◌, length, take, drop, Option, Some, None, IfSome, Result, Ok, Err, ◌⊎◌, int_lt, ◌||◌}
use Rattle.std.specs.Char.{is_ascii_digit}
use Rattle.std.specs.List.{prefix_len}
use Rattle.std.specs.Str.{all_ascii_digits}
use Rattle.std.specs.Str.Parse.{digits_value}
use Rattle.std.specs.Float.Numeral.{minus, dot}
use Rattle.qz_decimal.specs.declared.reading.Form.{Form}
use Rattle.qz_decimal.specs.declared.reading.BadNumber.{BadNumber}
use Rattle.qz_decimal.specs.declared.reading.BadNumber.TheVariants.{Malformed, Range}
use Rattle.qz_decimal.specs.Numbers.{one, grade_one, signed, IsWithin}

-- ---- the parts of a number's text, and the number that they tell

pub record Parts : Type 0 where
  pub negative : Bool
  pub whole : List ℕ
  -- the digits behind the point, where there is one
  pub decimals : Option (List ℕ)

abbrev pub sign_text : Bool → List ℕ
sign_text true = minus ∷ []
sign_text false = []

abbrev pub point_text : Option (List ℕ) → List ℕ
point_text None = []
point_text (Some decimals) = dot ∷ decimals

abbrev pub text_of : Parts → List ℕ
text_of parts = sign_text parts.negative ++ (parts.whole ++ point_text parts.decimals)

-- decimals in units of 10^-places
abbrev pub decimal_units : ℕ → List ℕ → ℕ
decimal_units places decimals = digits_value 10 decimals * 10 ^ (places - length decimals)

abbrev pub point_units : ℕ → Option (List ℕ) → ℕ
point_units places None = 0
point_units places (Some decimals) = decimal_units places decimals

-- the number in units of 10^-places
abbrev pub units_of : ℕ → Parts → ℤ
units_of places parts =
    signed parts.negative (digits_value 10 parts.whole * 10 ^ places + point_units places parts.decimals)

-- at most so many digits
pub record IsDigits (most : ℕ) (digits : List ℕ) : Type 0 where
  pub each : IsTrue (all_ascii_digits digits)
  pub few : length digits ≤ most

-- One whole digit or more, and behind a point one decimal or more, unless the point may be bare.
pub record IsFormed (form : Form) (parts : Parts) : Type 0 where
  pub whole : IsDigits form.whole parts.whole
  pub some_whole : 0 < length parts.whole
  pub decimals : IfSome parts.decimals (IsDigits form.places)
  pub some_decimals : IfSome parts.decimals (λ decimals. (0 < length decimals) ⊎ IsTrue form.bare_point)

-- the text spells this number of units
pub record IsSpelled (form : Form) (text : List ℕ) (units : ℤ) : Type 0 where
  pub parts : Parts
  pub formed : IsFormed form parts
  pub text_is : text ≡ text_of parts
  pub units_are : units ≡ units_of form.places parts

-- ---- where a text that spells no number goes wrong

-- some number's text begins so
pub record Begins (form : Form) (front : List ℕ) : Type 0 where
  pub more : List ℕ
  pub units : ℤ
  pub spelled : IsSpelled form (front ++ more) units

-- Up to the place a number's text begins. Then no number's text goes on with the next byte, or the
-- text ends and is no number's.
pub record Stuck (form : Form) (text : List ℕ) (place : ℕ) : Type 0 where
  pub so_far : Begins form (take place text)
  pub no_further :
      ((place < length text) × ¬ Begins form (take (place + 1) text))
      ⊎ ((place ≡ length text) × ((units : ℤ) → ¬ IsSpelled form text units))

-- ---- the texts of marks, fractions and grades

-- Six whole digits, and seven decimals behind a point, or five.
abbrev pub mark_form : Form
mark_form = record { whole = 6; places = 7; bare_point = false }

abbrev pub grade_form : Form
grade_form = record { whole = 6; places = 5; bare_point = false }

-- A mark that may be written is from -100,000 to 100,000
abbrev pub IsWrittenMark : ℤ → Type 0
IsWrittenMark = IsWithin (neg_ℤ (pos (100000 * one))) (pos (100000 * one))

-- a fraction from 0 to 1
abbrev pub IsWrittenFraction : ℤ → Type 0
IsWrittenFraction = IsWithin (pos 0) (pos one)

-- the text spells a number that may not be written
pub record SpellsOther (form : Form) (MayBe : ℤ → Type 0) (text : List ℕ) : Type 0 where
  pub units : ℤ
  pub spelled : IsSpelled form text units
  pub other : ¬ MayBe units

-- ---- the same by reading from the left: the units, or the first fault

infixl 10 ◌>>=◌
abbrev pub ◌>>=◌ : {A B : Type 0} → Result A BadNumber → (A → Result B BadNumber) → Result B BadNumber
(Ok x) >>= f = f x
(Err fault) >>= f = Err fault

-- the digits that a text begins with, at most so many, and what follows them
abbrev pub digit_count : ℕ → List ℕ → ℕ
digit_count most text = min (prefix_len is_ascii_digit text) most

abbrev pub first_digits : ℕ → List ℕ → List ℕ
first_digits most text = take (digit_count most text) text

abbrev pub after_digits : ℕ → List ℕ → List ℕ
after_digits most text = drop (digit_count most text) text

-- the decimals, which begin at a place of the whole text
unfoldable pub decimals_at : Form → ℕ → List ℕ → Result ℕ BadNumber
decimals_at form place text =
    let digits = first_digits form.places text in
    if (length digits == 0 && not form.bare_point) || nat_lt 0 (length (after_digits form.places text))
    then Err (Malformed (place + length digits))
    else Ok (decimal_units form.places digits)

-- what follows the whole digits
unfoldable pub rest_at : Form → ℕ → ℕ → List ℕ → Result ℕ BadNumber
rest_at form place whole [] = Ok whole
rest_at form place whole (b ∷ rest) =
    if b == dot
    then (decimals_at form (place + 1) rest >>= λ units. Ok (whole + units))
    else Err (Malformed place)

-- what follows the sign
unfoldable pub size_at : Form → ℕ → List ℕ → Result ℕ BadNumber
size_at form place text =
    let digits = first_digits form.whole text in
    if length digits == 0
    then Err (Malformed place)
    else rest_at form (place + length digits) (digits_value 10 digits * 10 ^ form.places) (after_digits form.whole text)

-- whether a minus stands first, and what follows it
abbrev pub has_minus : List ℕ → Bool
has_minus [] = false
has_minus (b ∷ rest) = b == minus

abbrev pub without_minus : List ℕ → List ℕ
without_minus [] = []
without_minus (b ∷ rest) = if b == minus then rest else b ∷ rest

-- the units of the whole text
unfoldable pub units_in : Form → List ℕ → Result ℤ BadNumber
units_in form text = do
  size ← size_at form (if has_minus text then 1 else 0) (without_minus text)
  Ok (signed (has_minus text) size)

-- the units, where they are in a range
unfoldable pub units_within : Form → ℤ → ℤ → List ℕ → Result ℤ BadNumber
units_within form least greatest text = do
  units ← units_in form text
  if int_lt units least || int_lt greatest units then Err Range else Ok units

abbrev pub mark_in : List ℕ → Result ℤ BadNumber
mark_in text = units_within mark_form (neg_ℤ (pos (100000 * one))) (pos (100000 * one)) text

abbrev pub fraction_in : List ℕ → Result ℤ BadNumber
fraction_in text = units_within mark_form (pos 0) (pos one) text

abbrev pub grade_in : List ℕ → Result ℤ BadNumber
grade_in text = units_within grade_form (pos 0) (pos (10000 * grade_one)) text
