-- What number a text spells in a numerical question: 1 to 30 digits with a sign, a point and an
-- exponent. Its units are 10^-10.
use Rattle.std.specs.Prelude.{◌≡◌, ℕ, ◌+◌, ◌-◌, ◌*◌, ◌/◌, ◌%◌, ◌^◌, ◌<◌, Bool, true, false, IsTrue, if◌then◌else◌, ◌==◌, ◌||◌, nat_lt, ℤ, List, [], ◌∷◌, ◌++◌, length, drop, Option, Some, None, IfSome, option_and_then, unwrap_or}
use Rattle.std.specs.List.{prefix_len, list_all}
use Rattle.std.specs.Str.Parse.{digits_value}
use Rattle.std.specs.Float.Numeral as byte
use Rattle.qz_decimal.specs.declared.decimal.Digits.{Digits}
use Rattle.qz_decimal.specs.declared.decimal.Tens.{Tens}
use Rattle.qz_decimal.specs.Numbers.{signed}
use Rattle.qz_decimal.specs.Reading.{IsDigits, point_text, first_digits, after_digits, has_minus}

-- ---- the parts of a number's text

pub data Sign : Type 0 where
  bare : Sign
  plus : Sign
  minus : Sign

pub record Exponent : Type 0 where
  pub capital : Bool
  pub sign : Sign
  pub digits : List ℕ

pub record DecimalParts : Type 0 where
  pub sign : Sign
  pub whole : List ℕ
  -- the digits behind the point, where there is one
  pub decimals : Option (List ℕ)
  pub exponent : Option Exponent

abbrev pub sign_bytes : Sign → List ℕ
sign_bytes bare = []
sign_bytes plus = byte.plus ∷ []
sign_bytes minus = byte.minus ∷ []

abbrev pub is_minus : Sign → Bool
is_minus bare = false
is_minus plus = false
is_minus minus = true

abbrev pub exponent_text : Option Exponent → List ℕ
exponent_text None = []
exponent_text (Some e) = (if e.capital then byte.upper_e else byte.lower_e) ∷ (sign_bytes e.sign ++ e.digits)

abbrev pub decimal_text : DecimalParts → List ℕ
decimal_text parts =
    sign_bytes parts.sign ++ (parts.whole ++ (point_text parts.decimals ++ exponent_text parts.exponent))

-- the digits on both sides of the point
abbrev pub digits_of : DecimalParts → List ℕ
digits_of parts = parts.whole ++ unwrap_or parts.decimals []

-- the powers of ten to multiply by and to divide by: without an exponent, with one, and for either
abbrev pub no_tens : Tens
no_tens = record { up = 0; down = 0 }

abbrev pub signed_tens : Bool → ℕ → Tens
signed_tens negative tens = if negative then record { up = 0; down = tens } else record { up = tens; down = 0 }

abbrev pub tens_of : Option Exponent → Tens
tens_of None = no_tens
tens_of (Some e) = signed_tens (is_minus e.sign) (digits_value 10 e.digits)

-- 1 to 30 digits on both sides of the point, and 1 to 3 in an exponent
pub record IsDecimalFormed (parts : DecimalParts) : Type 0 where
  pub digits : IsDigits 30 (digits_of parts)
  pub some_digits : 0 < length (digits_of parts)
  pub exponent : IfSome parts.exponent (λ e. IsDigits 3 e.digits)
  pub some_exponent : IfSome parts.exponent (λ e. 0 < length e.digits)

-- white space of a text: space, tab and line feed
abbrev pub is_space : ℕ → Bool
is_space b = b == 32 || b == 9 || b == 10

-- Between blanks the text spells this number of units. Its size is exactly what the digits, the
-- point and the exponent tell, and has at most 15 whole digits.
pub record IsDecimal (text : List ℕ) (units : ℤ) : Type 0 where
  pub before : List ℕ
  pub parts : DecimalParts
  pub after : List ℕ
  pub text_is : text ≡ before ++ (decimal_text parts ++ after)
  pub blank_before : IsTrue (list_all is_space before)
  pub blank_after : IsTrue (list_all is_space after)
  pub formed : IsDecimalFormed parts
  pub size : ℕ
  pub exact :
      size * 10 ^ (length (unwrap_or parts.decimals []) + (tens_of parts.exponent).down)
      ≡ digits_value 10 (digits_of parts) * 10 ^ (10 + (tens_of parts.exponent).up)
  pub small : size < 10 ^ (15 + 10)
  pub units_are : units ≡ signed (is_minus parts.sign) size

-- ---- the same by reading from the left

-- what follows blanks
abbrev pub after_blanks : List ℕ → List ℕ
after_blanks text = drop (prefix_len is_space text) text

-- what follows a sign
abbrev pub after_sign : List ℕ → List ℕ
after_sign [] = []
after_sign (b ∷ rest) = if b == byte.minus || b == byte.plus then rest else b ∷ rest

-- the decimals behind a point, at most so many, and what follows them
abbrev pub first_decimals : ℕ → List ℕ → List ℕ
first_decimals most [] = []
first_decimals most (b ∷ rest) = if b == byte.dot then first_digits most rest else []

abbrev pub after_decimals : ℕ → List ℕ → List ℕ
after_decimals most [] = []
after_decimals most (b ∷ rest) = if b == byte.dot then after_digits most rest else b ∷ rest

-- the digits, and what follows them
unfoldable pub digits_in : List ℕ → Option (Digits × List ℕ)
digits_in text =
    let whole = first_digits 30 text in
    let rest = after_digits 30 text in
    let most = 30 - length whole in
    let decimals = first_decimals most rest in
    if length whole + length decimals == 0
    then None
    else Some (record { number = digits_value 10 (whole ++ decimals); decimals = length decimals }, after_decimals most rest)

-- what follows the letter of an exponent, and what follows that
unfoldable pub tens_in : List ℕ → Option (Tens × List ℕ)
tens_in text =
    let digits = first_digits 3 (after_sign text) in
    if length digits == 0
    then None
    else Some (signed_tens (has_minus text) (digits_value 10 digits), after_digits 3 (after_sign text))

-- the exponent, where there is one, and what follows it
abbrev pub exponent_in : List ℕ → Option (Tens × List ℕ)
exponent_in [] = Some (no_tens, [])
exponent_in (b ∷ rest) = if b == byte.lower_e || b == byte.upper_e then tens_in rest else Some (no_tens, b ∷ rest)

-- a size of at most 25 digits, which are 15 whole digits and 10 decimals
abbrev pub short_size : ℕ → Option ℕ
short_size size = if nat_lt size (10 ^ (15 + 10)) then Some size else None

-- n / d, where it is whole and short
abbrev pub short_quotient : ℕ → ℕ → Option ℕ
short_quotient n d = if n % d == 0 then short_size (n / d) else None

-- number * 10^up / 10^down, where it is whole and short
unfoldable pub exact_size : ℕ → ℕ → ℕ → Option ℕ
exact_size number up down = short_quotient (number * 10 ^ up) (10 ^ down)

infixl 10 ◌>>=◌
abbrev pub ◌>>=◌ : {A B : Type 0} → Option A → (A → Option B) → Option B
o >>= f = option_and_then f o

-- the whole text
unfoldable pub decimal_in : List ℕ → Option ℤ
decimal_in text = do
  digits ← digits_in (after_sign (after_blanks text))
  tens ← exponent_in digits.1
  size ← if nat_lt 0 (length (after_blanks tens.1)) then None else exact_size digits.0.number (10 + tens.0.up) (digits.0.decimals + tens.0.down)
  Some (signed (has_minus (after_blanks text)) size)
