-- Digits of a size.
use Rattle.std.proofs.Common.{◌≡◌, ℕ, ◌<◌, ◌≤◌, Bool, true, false, List, length, get_or, take, Some, None, refl, arith}
use Rattle.std.specs.Prelude.{nat_le, ◌&&◌, if◌then◌else◌}
use Rattle.std.specs.Int.{IsInRange}
use Rattle.std.specs.Str.{all_ascii_digits}
use Rattle.std.specs.Str.Parse.{digits_value}
use Rattle.std.proofs.lemmas.Bool.Decides.{nat_tests}
use Rattle.std.proofs.lemmas.List.{get_or-take, length-take-le}
use Rattle.std.proofs.lemmas.Str.Parse.{IsNumeralModel, numerals_by_value, tells_all_ascii_digits, tells_by_index, digit_at, digits_value_short}
use Rattle.qz_http.specs.Heads.{size_of}

numerals : IsNumeralModel (λ ds. all_ascii_digits ds ≡ true) (digits_value 10)
numerals = numerals_by_value _ tells_all_ascii_digits

by_index : IsNumeralModel (λ ds. (i : ℕ) → i < length ds → IsInRange 48 57 (get_or ds i 0)) (digits_value 10)
by_index = numerals_by_value _ tells_by_index

-- the first digits of at most ten write a small number
pub front_small : (value : List ℕ) (i : ℕ) → i < length value → length value ≤ 10 → ((k : ℕ) → k < i → IsInRange 48 57 (get_or value k 0)) → digits_value 10 (take i value) < 1000000000
front_small value i inside short digits =
    let len = length-take-le i value (omega arith) in
    digits_value_short by_index (take i value) 9 (λ k lt. let within : k < i = omega arith in rw (get_or-take i value k 0 within) (digits k within)) (omega arith)

none_where : (s t b : Bool) (n : ℕ) → b ≡ false → None ≡ (if s && (t && b) then Some n else None)
none_where true true b n is = rw is refl
none_where true false b n is = refl
none_where false t b n is = refl

pub no_size : (value : List ℕ) (i : ℕ) → i < length value → ¬ IsInRange 48 57 (get_or value i 0) → None ≡ size_of value
no_size value i lt other = by (all_ascii_digits value) refl
  where
    by : (b : Bool) → all_ascii_digits value ≡ b → None ≡ size_of value
    by true all = absurd (other (digit_at value i (numerals.to value all) lt))
    by false some = none_where (nat_le 1 (length value)) (nat_le (length value) 10) (all_ascii_digits value) (digits_value 10 value) some

pub some_size : (value : List ℕ) → 1 ≤ length value → length value ≤ 10 → ((k : ℕ) → k < length value → IsInRange 48 57 (get_or value k 0)) → Some (digits_value 10 value) ≡ size_of value
some_size value least most digits =
    let all : all_ascii_digits value ≡ true = numerals.from value (by_index.to value digits) in
    let low : nat_le 1 (length value) ≡ true = grind (arith, nat_tests) in
    let high : nat_le (length value) 10 ≡ true = grind (arith, nat_tests) in
    rw (all, low, high) refl
