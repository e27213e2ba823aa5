-- When digits write a number that is not too great.
use Rattle.std.proofs.Common.{◌≡◌, ℕ, ◌+◌, ◌-◌, ◌*◌, ◌<◌, ◌≤◌, Bool, true, false, List, length, get_or, take, Some, None, refl, ap, arith}
use Rattle.std.specs.Prelude.{nat_le}
use Rattle.std.specs.Char.{digit_value}
use Rattle.std.specs.Int.{IsInRange}
use Rattle.std.specs.Str.{all_ascii_digits}
use Rattle.std.specs.Str.Parse.{digits_value}
use Rattle.std.proofs.lemmas.Bool.Decides.{nat_tests}
use Rattle.std.proofs.lemmas.Int.Digits.{digits_value_more}
use Rattle.std.proofs.lemmas.Str.Parse.{IsNumeralModel, numerals_by_value, tells_all_ascii_digits, tells_by_index, digit_at, digits_value-take-le}
use Rattle.qz_wire.specs.Lines.{digits_up_to}

numerals : IsNumeralModel (λ ds. all_ascii_digits ds ≡ true) (digits_value 10)
numerals = numerals_by_value _ tells_all_ascii_digits

by_index : IsNumeralModel (λ ds. (i : ℕ) → i < length ds → IsInRange 48 57 (get_or ds i 0)) (digits_value 10)
by_index = numerals_by_value _ tells_by_index

-- one digit more
pub digits_value-next : (word : List ℕ) (i : ℕ) → i < length word → IsInRange 48 57 (get_or word i 0) → digits_value 10 (take (i + 1) word) ≡ 10 * digits_value 10 (take i word) + (get_or word i 0 - 48)
digits_value-next word i lt digit =
    let value : digit_value (get_or word i 0) ≡ get_or word i 0 - 48 = grind (arith, nat_tests) in
    omega (arith, digits_value_more 10 word i lt, value)

pub no_digit : (most : ℕ) (word : List ℕ) (i : ℕ) → i < length word → ¬ IsInRange 48 57 (get_or word i 0) → None ≡ digits_up_to most word
no_digit most word i lt other = by (all_ascii_digits word) refl
  where
    by : (b : Bool) → all_ascii_digits word ≡ b → None ≡ digits_up_to most word
    by true all = absurd (other (digit_at word i (numerals.to word all) lt))
    by false some = rw some refl

pub too_great : (most : ℕ) (word : List ℕ) (i : ℕ) → most < digits_value 10 (take i word) → None ≡ digits_up_to most word
too_great most word i great =
    let past : most < digits_value 10 word = omega (arith, digits_value-take-le 10 word i (omega arith)) in
    by (all_ascii_digits word) refl past
  where
    by : (b : Bool) → all_ascii_digits word ≡ b → most < digits_value 10 word → None ≡ digits_up_to most word
    by true all past = let test : nat_le (digits_value 10 word) most ≡ false = grind (arith, nat_tests) in rw (all, test) refl
    by false some past = rw some refl

pub small_digits : (most value : ℕ) (word : List ℕ) → ((i : ℕ) → i < length word → IsInRange 48 57 (get_or word i 0)) → value ≡ digits_value 10 word → value ≤ most → Some value ≡ digits_up_to most word
small_digits most value word digits is small =
    let all : all_ascii_digits word ≡ true = numerals.from word (by_index.to word digits) in
    let test : nat_le (digits_value 10 word) most ≡ true = grind (arith, nat_tests) in
    rw (all, test) (ap (λ n. Some n) is)
