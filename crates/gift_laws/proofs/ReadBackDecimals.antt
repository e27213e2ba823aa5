-- A decimal number is read as it is written.
use Rattle.std.proofs.Common.{◌≡◌, ℕ, suc, ◌+◌, ◌-◌, ◌*◌, ◌/◌, ◌%◌, ◌^◌, ◌<◌, true, List, [], ◌∷◌, ◌++◌, length, Some, None, unwrap_or, refl, sym, ap, ◌∙◌, append-nil, arith, add-zero, ℤ, pos, negsuc}
use Rattle.std.specs.Fmt.{decimal}
use Rattle.std.specs.Str.{all_ascii_digits}
use Rattle.std.specs.Str.Parse.{digits_value}
use Rattle.std.proofs.lemmas.Bool.{ltb-true}
use Rattle.std.proofs.lemmas.Fmt.{digits_decimal, digits_value-decimal, length-decimal-le, decimal_nonempty}
use Rattle.std.proofs.lemmas.List.{length-append}
use Rattle.qz_decimal.specs.Numbers.{signed}
use Rattle.qz_decimal.specs.Reading.{point_text}
use Rattle.qz_decimal.specs.Decimals.{Sign, bare, minus, sign_bytes, is_minus, IsDecimal, decimal_in}
use Rattle.qz_decimal.proofs.DigitRuns.{digits_value-append, all_ascii_digits-append}
use Rattle.qz_decimal.proofs.DecimalTexts.{decimal-found}
use Rattle.qz_grading.specs.Canonical.{short_natural, decimal_text}
use Rattle.qz_grading.specs.Questions.{is_short_number}
use Rattle.gift_laws.proofs.ReadBackWeights.{numerals, pow-split, IsSized, places, decimals_of, behind_point-text, is_places}

-- ---- sizes

pub sized-number : (n : ℕ) → n < 10 ^ (15 + 10) → IsSized 10 n
sized-number n small = record { some = omega arith; whole = omega arith; part = omega arith; fits = omega arith }

pub number-size : (n : ℕ) → is_short_number (pos n) ≡ true → n < 10 ^ (15 + 10)
number-size n is = ltb-true n (10 ^ (15 + 10)) is

pub number-size_negative : (n : ℕ) → is_short_number (negsuc n) ≡ true → suc n < 10 ^ (15 + 10)
number-size_negative n is = ltb-true (suc n) (10 ^ (15 + 10)) is

-- ---- the digits on both sides of the point

decimals-behind : (ds : List ℕ) → unwrap_or (decimals_of ds) [] ≡ ds
decimals-behind [] = refl
decimals-behind (d ∷ ds) = refl

-- a whole part w and a part of v * q, in units of 1 / tens, is worth what its digits are in units of 1 / p
units-exact : (n w v part p q tens value : ℕ) → n ≡ w * tens + part → v * q ≡ part → p * q ≡ tens → value ≡ w * p + v → n * p ≡ value * tens
units-exact n w v part p q tens value e f g h = rw (h, e, ← f, ← g) (omega arith)

digits-exact : (n : ℕ) (ds : List ℕ) → n < 10 ^ (15 + 10) → ds ≡ places 10 (n % 10 ^ 10) → n * 10 ^ (length ds + 0) ≡ digits_value 10 (decimal (n / 10 ^ 10) ++ ds) * 10 ^ 10
digits-exact n ds small same =
    let sized = sized-number n small in
    let is = rw (← same) at (is_places 10 n sized) in
    let whole = n / 10 ^ 10 in
    let value : digits_value 10 (decimal whole ++ ds) ≡ whole * 10 ^ length ds + digits_value 10 ds =
    digits_value-append (decimal whole) ds ∙ ap (λ (w : ℕ). w * 10 ^ length ds + digits_value 10 ds) (digits_value-decimal numerals whole sized.whole) in
    ap (λ (j : ℕ). n * 10 ^ j) (add-zero (length ds))
    ∙ units-exact n whole (digits_value 10 ds) (n % 10 ^ 10) (10 ^ length ds) (10 ^ (10 - length ds)) (10 ^ 10) (digits_value 10 (decimal whole ++ ds)) (omega arith) is.units (pow-split 10 (length ds) is.few) value

decimal-spelled : (sign : Sign) (n : ℕ) → n < 10 ^ (15 + 10) → IsDecimal (sign_bytes sign ++ short_natural 10 n) (signed (is_minus sign) n)
decimal-spelled sign n small =
    let sized = sized-number n small in
    let whole = n / 10 ^ 10 in
    let ds = places 10 (n % 10 ^ 10) in
    let is = is_places 10 n sized in
    let behind = decimals-behind ds in
    let point = behind_point-text ds ∙ sym (append-nil (point_text (decimals_of ds))) in
    let each : all_ascii_digits (decimal whole ++ ds) ≡ true = all_ascii_digits-append (decimal whole) ds (digits_decimal numerals whole sized.whole) is.each in
    let long = length-append (decimal whole) (unwrap_or (decimals_of ds) []) in
    let places_long = ap (λ (t : List ℕ). length t) behind in
    let some = decimal_nonempty whole sized.whole in
    let few = length-decimal-le 15 whole (omega arith) (omega arith) sized.whole in
    let exact = digits-exact n (unwrap_or (decimals_of ds) []) small behind in
    record {
      before = [];
      parts = record { sign = sign; whole = decimal whole; decimals = decimals_of ds; exponent = None };
      after = [];
      text_is = ap (λ (t : List ℕ). sign_bytes sign ++ (decimal whole ++ t)) point ∙ sym (append-nil (sign_bytes sign ++ (decimal whole ++ (point_text (decimals_of ds) ++ []))));
      blank_before = refl;
      blank_after = refl;
      formed = record {
        digits = record { each = ap (λ (t : List ℕ). all_ascii_digits (decimal whole ++ t)) behind ∙ each; few = omega (arith, long, places_long, few, is.few) };
        some_digits = omega (arith, long, some);
        exponent = tt;
        some_exponent = tt;
      };
      size = n;
      exact = exact;
      small = small;
      units_are = refl;
    }

pub decimal-told : (v : ℤ) → is_short_number v ≡ true → decimal_in (decimal_text v) ≡ Some v
decimal-told (pos n) is = (decimal-found (decimal_text (pos n)) (pos n)).1 (decimal-spelled bare n (number-size n is))
decimal-told (negsuc n) is = (decimal-found (decimal_text (negsuc n)) (negsuc n)).1 (decimal-spelled minus (suc n) (number-size_negative n is))
