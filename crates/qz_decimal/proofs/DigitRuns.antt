-- Runs of digits: what they write, how large that is, and where they end.
use Rattle.std.proofs.Common.{◌≡◌, ℕ, suc, ◌+◌, ◌-◌, ◌*◌, ◌^◌, ◌<◌, ◌≤◌, true, false, ◌&&◌, List, [], ◌∷◌, ◌++◌, length, get_or, take, drop, refl, sym, ap, ◌∙◌, arith, inl, inr, add-zero, ◌⊎◌}
use Rattle.std.specs.Char.{is_ascii_digit, digit_value}
use Rattle.std.specs.Int.{IsInRange}
use Rattle.std.specs.List.{prefix_len, list_all}
use Rattle.std.specs.Str.{all_ascii_digits}
use Rattle.std.specs.Str.Parse.{digits_value, digits_value_after}
use Rattle.std.proofs.lemmas.Bool.{and_parts, and_from, cases_lt}
use Rattle.std.proofs.lemmas.Bool.Decides.{nat_tests}
use Rattle.std.proofs.lemmas.Int.Digits.{digits_value-lt, digits_value_more}
use Rattle.std.proofs.lemmas.Str.Parse.{IsNumeralModel, numerals_by_value, tells_all_ascii_digits, digit_at}
use Rattle.std.proofs.lemmas.List.{take-append-drop, length-take-le, length-drop, get_or-drop, take_at, drop_at}
use Rattle.std.proofs.lemmas.List.Sums.{prefix_len-le-length, prefix_len_stops}
use Rattle.std.proofs.Math.Nat.{pow-le-pow_right, pow-suc}
use Rattle.qz_decimal.proofs.Fronts.{front-passes, prefix_len-of}
use Rattle.qz_decimal.specs.Reading.{digit_count, first_digits, after_digits}

numerals : IsNumeralModel (λ ds. all_ascii_digits ds ≡ true) (digits_value 10)
numerals = numerals_by_value _ tells_all_ascii_digits

digit_value-is : (c : ℕ) → IsInRange 48 57 c → digit_value c ≡ c - 48
digit_value-is c h = grind (arith, nat_tests)

pub digit_in_range : (digits : List ℕ) (i : ℕ) → all_ascii_digits digits ≡ true → i < length digits → IsInRange 48 57 (get_or digits i 0)
digit_in_range digits i each lt = digit_at digits i (numerals.to digits each) lt

pub pow10-le : {i k : ℕ} → i ≤ k → 10 ^ i ≤ 10 ^ k
pow10-le le = let positive : 0 < 10 = omega arith in pow-le-pow_right positive le

pub digits_value-below : (digits : List ℕ) → all_ascii_digits digits ≡ true → digits_value 10 digits < 10 ^ length digits
digits_value-below digits each = digits_value-lt 10 digits (numerals.to digits each)

-- one digit more
pub digits_value-next : (digits : List ℕ) (i : ℕ) → all_ascii_digits digits ≡ true → i < length digits → digits_value 10 (take (i + 1) digits) ≡ digits_value 10 (take i digits) * 10 + (get_or digits i 0 - 48)
digits_value-next digits i each lt = digits_value_more 10 digits i lt ∙ ap (λ d. digits_value 10 (take i digits) * 10 + d) (digit_value-is _ (digit_in_range digits i each lt))

digits_value_after-append : (n : ℕ) (xs ys : List ℕ) → digits_value_after 10 n (xs ++ ys) ≡ digits_value_after 10 (digits_value_after 10 n xs) ys
digits_value_after-append n [] ys = refl
digits_value_after-append n (x ∷ xs) ys = digits_value_after-append (n * 10 + digit_value x) xs ys

digits_value_after-is : (n : ℕ) (ys : List ℕ) → digits_value_after 10 n ys ≡ n * 10 ^ length ys + digits_value 10 ys
digits_value_after-is n [] = omega arith
digits_value_after-is n (y ∷ ys) =
    let d = digit_value y in
    let parts : (n * 10 + d) * 10 ^ length ys + digits_value 10 ys ≡ n * 10 ^ suc (length ys) + ((0 * 10 + d) * 10 ^ length ys + digits_value 10 ys) = rw pow-suc (omega arith) in
    digits_value_after-is (n * 10 + d) ys ∙ parts ∙ ap (λ k. n * 10 ^ suc (length ys) + k) (sym (digits_value_after-is (0 * 10 + d) ys))

-- digits behind digits
pub digits_value-append : (xs ys : List ℕ) → digits_value 10 (xs ++ ys) ≡ digits_value 10 xs * 10 ^ length ys + digits_value 10 ys
digits_value-append xs ys = digits_value_after-append 0 xs ys ∙ digits_value_after-is (digits_value 10 xs) ys

pub all_ascii_digits-append : (xs ys : List ℕ) → all_ascii_digits xs ≡ true → all_ascii_digits ys ≡ true → all_ascii_digits (xs ++ ys) ≡ true
all_ascii_digits-append [] ys first second = second
all_ascii_digits-append (x ∷ xs) ys first second =
    let parts = and_parts (is_ascii_digit x) (all_ascii_digits xs) first in
    and_from (is_ascii_digit x) (all_ascii_digits (xs ++ ys)) parts.0 (all_ascii_digits-append xs ys parts.1 second)

pub all_ascii_digits-parts : (xs ys : List ℕ) → all_ascii_digits (xs ++ ys) ≡ true → (all_ascii_digits xs ≡ true) × (all_ascii_digits ys ≡ true)
all_ascii_digits-parts [] ys each = (refl, each)
all_ascii_digits-parts (x ∷ xs) ys each =
    let first = and_parts (is_ascii_digit x) (all_ascii_digits (xs ++ ys)) each in
    let others = all_ascii_digits-parts xs ys first.1 in
    (and_from (is_ascii_digit x) (all_ascii_digits xs) first.0 others.0, others.1)

-- ---- a text's first digits

all_ascii_digits-is : (text : List ℕ) → all_ascii_digits text ≡ list_all is_ascii_digit text
all_ascii_digits-is [] = refl
all_ascii_digits-is (b ∷ rest) = ap (λ others. is_ascii_digit b && others) (all_ascii_digits-is rest)

pub first_digits-each : (most : ℕ) (text : List ℕ) → all_ascii_digits (first_digits most text) ≡ true
first_digits-each most text = all_ascii_digits-is (first_digits most text) ∙ front-passes is_ascii_digit (digit_count most text) text (omega arith)

pub first_digits-append : (most : ℕ) (text : List ℕ) → first_digits most text ++ after_digits most text ≡ text
first_digits-append most text = take-append-drop (digit_count most text) text

length-first_digits : (most : ℕ) (text : List ℕ) → length (first_digits most text) ≡ digit_count most text
length-first_digits most text = length-take-le (digit_count most text) text (omega (arith, prefix_len-le-length is_ascii_digit text))

pub first_digits-few : (most : ℕ) (text : List ℕ) → length (first_digits most text) ≤ most
first_digits-few most text = omega (arith, length-first_digits most text)

-- what follows them is no digit, unless there are as many as may be
pub after_digits-stops : (most : ℕ) (text : List ℕ) (b : ℕ) (rest : List ℕ) → after_digits most text ≡ b ∷ rest → (length (first_digits most text) ≡ most) ⊎ (is_ascii_digit b ≡ false)
after_digits-stops most text b rest e =
    let run = prefix_len is_ascii_digit text in
    elim (cases_lt run most) [
      | inl less ↦
          let count : digit_count most text ≡ run = omega arith in
          let after : drop run text ≡ b ∷ rest = rw count at e in
          let within : run < length text = omega (arith, length-drop run text, ap length after) in
          let here : get_or text run 0 ≡ b = ap (λ n. get_or text n 0) (sym (add-zero run)) ∙ sym (get_or-drop run text 0 0) ∙ ap (λ (t : List ℕ). get_or t 0 0) after in
          inr (sym (ap is_ascii_digit here) ∙ prefix_len_stops is_ascii_digit text 0 within)
      | inr enough ↦ inl (omega (arith, length-first_digits most text))
    ]

-- no digit stands first
abbrev pub StopsDigits : List ℕ → Type 0
StopsDigits text = prefix_len is_ascii_digit text ≡ 0

digit_count-of : (most : ℕ) (digits tail : List ℕ) → all_ascii_digits digits ≡ true → length digits ≤ most → StopsDigits tail → length digits ≡ digit_count most (digits ++ tail)
digit_count-of most digits tail each few stops =
    let run = prefix_len-of is_ascii_digit digits tail (sym (all_ascii_digits-is digits) ∙ each) stops in
    omega arith

pub first_digits-of : (most : ℕ) (digits tail : List ℕ) → all_ascii_digits digits ≡ true → length digits ≤ most → StopsDigits tail → first_digits most (digits ++ tail) ≡ digits
first_digits-of most digits tail each few stops = take_at digits tail (digit_count most (digits ++ tail)) (digit_count-of most digits tail each few stops)

pub after_digits-of : (most : ℕ) (digits tail : List ℕ) → all_ascii_digits digits ≡ true → length digits ≤ most → StopsDigits tail → after_digits most (digits ++ tail) ≡ tail
after_digits-of most digits tail each few stops = drop_at digits tail (digit_count most (digits ++ tail)) (digit_count-of most digits tail each few stops)
