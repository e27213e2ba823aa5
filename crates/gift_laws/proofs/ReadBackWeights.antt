-- Digits with a point among them: what they are worth, and that a weight is read as it is written.
use Rattle.std.proofs.Common.{◌≡◌, ℕ, zero, suc, ◌+◌, ◌-◌, ◌*◌, ◌/◌, ◌%◌, ◌^◌, ◌<◌, ◌≤◌, Bool, true, false, cond, ◌==◌, ◌&&◌, List, [], ◌∷◌, ◌++◌, length, replicate, Option, Some, None, refl, sym, ap, ◌∙◌, arith, inl, ◌⊎◌, IfSome, IsTrue}
use Rattle.std.specs.Fmt.{decimal}
use Rattle.std.specs.Str.{all_ascii_digits}
use Rattle.std.specs.Str.Parse.{digits_value}
use Rattle.std.proofs.lemmas.Nat.{pow-add}
use Rattle.std.specs.Char.{is_ascii_digit}
use Rattle.std.proofs.lemmas.Bool.{and_parts, and_from, eqb-true}
use Rattle.std.proofs.lemmas.Fmt.{digits_decimal, digits_value-decimal, length-decimal-le, decimal_nonempty}
use Rattle.std.proofs.lemmas.List.{length-append, nil_from_length}
use Rattle.std.proofs.lemmas.Str.Parse.{IsNumeralModel, numerals_by_value, tells_all_ascii_digits}
use Rattle.qz_decimal.specs.Numbers.{one, signed}
use Rattle.qz_decimal.specs.Percent.{percent_form}
use Rattle.qz_decimal.specs.Reading.{sign_text, point_text, IsDigits, IsSpelled, point_units}
use Rattle.qz_decimal.proofs.DigitRuns.{digits_value-append, all_ascii_digits-append}
use Rattle.qz_grading.specs.Canonical.{without_zeros, behind_point, short_natural, is_nothing}
use Rattle.qz_grading.specs.Words.{in_digits}

pub numerals : IsNumeralModel (λ ds. all_ascii_digits ds ≡ true) (digits_value 10)
numerals = numerals_by_value _ tells_all_ascii_digits

-- ---- so many digits

zeros-digits : (k : ℕ) → all_ascii_digits (replicate k 48) ≡ true
zeros-digits zero = refl
zeros-digits (suc k) = zeros-digits k

zeros-value : (k : ℕ) → digits_value 10 (replicate k 48) ≡ 0
zeros-value zero = refl
zeros-value (suc k) = digits_value-append (48 ∷ []) (replicate k 48) ∙ rw (zeros-value k) (omega arith)

length-zeros : (k : ℕ) → length {A = ℕ} (replicate k 48) ≡ k
length-zeros zero = refl
length-zeros (suc k) = ap suc (length-zeros k)

in_digits-digits : (k n : ℕ) → n < 2 ^ 64 → all_ascii_digits (in_digits k n) ≡ true
in_digits-digits k n wide = all_ascii_digits-append (replicate (k - length (decimal n)) 48) (decimal n) (zeros-digits (k - length (decimal n))) (digits_decimal numerals n wide)

in_digits-value : (k n : ℕ) → n < 2 ^ 64 → digits_value 10 (in_digits k n) ≡ n
in_digits-value k n wide =
    digits_value-append (replicate (k - length (decimal n)) 48) (decimal n)
    ∙ rw (zeros-value (k - length (decimal n)), digits_value-decimal numerals n wide) (omega arith)

in_digits-length : (k n : ℕ) → 0 < k → n < 10 ^ k → n < 2 ^ 64 → length (in_digits k n) ≡ k
in_digits-length k n some fits wide =
    omega (arith, length-append (replicate (k - length (decimal n)) 48) (decimal n), length-zeros (k - length (decimal n)), length-decimal-le k n some fits wide)

-- ---- without the zeros at their end

shorter-length : (ds : List ℕ) → length (without_zeros ds) ≤ length ds
shorter-length [] = omega arith
shorter-length (d ∷ ds) = go ((d == 48) && is_nothing (without_zeros ds)) (shorter-length ds)
  where
    go : (b : Bool) → length (without_zeros ds) ≤ length ds → length (cond b [] (d ∷ without_zeros ds)) ≤ length (d ∷ ds)
    go true before = omega arith
    go false before = omega arith

shorter-digits : (ds : List ℕ) → all_ascii_digits ds ≡ true → all_ascii_digits (without_zeros ds) ≡ true
shorter-digits [] each = refl
shorter-digits (d ∷ ds) each = let parts = and_parts _ (all_ascii_digits ds) each in go ((d == 48) && is_nothing (without_zeros ds)) parts.0 (shorter-digits ds parts.1)
  where
    go : (b : Bool) → is_ascii_digit d ≡ true → all_ascii_digits (without_zeros ds) ≡ true → all_ascii_digits (cond b [] (d ∷ without_zeros ds)) ≡ true
    go true first before = refl
    go false first before = and_from _ _ first before

-- a digit before others
value-cons : (d : ℕ) (ds : List ℕ) → digits_value 10 (d ∷ ds) ≡ digits_value 10 (d ∷ []) * 10 ^ length ds + digits_value 10 ds
value-cons d ds = digits_value-append (d ∷ []) ds

nought : (n : ℕ) → 0 * n ≡ 0
nought n = omega arith

pub pow-split : (m n : ℕ) → n ≤ m → 10 ^ n * 10 ^ (m - n) ≡ 10 ^ m
pow-split m n le = let all : n + (m - n) ≡ m = omega arith in sym (pow-add 10 n (m - n)) ∙ ap (λ (k : ℕ). 10 ^ k) all

-- a digit before others, each side times the same power
value-step : (first few more p q v w : ℕ) → p * q ≡ more → v * q ≡ w → few ≡ first * p + v → few * q ≡ first * more + w
value-step first few more p q v w e f g = rw (g, ← e, ← f) (omega arith)

shorter-value : (ds : List ℕ) → digits_value 10 (without_zeros ds) * 10 ^ (length ds - length (without_zeros ds)) ≡ digits_value 10 ds
shorter-value [] = refl
shorter-value (d ∷ ds) = go ((d == 48) && is_nothing (without_zeros ds)) refl (shorter-value ds)
  where
    go : (b : Bool) → ((d == 48) && is_nothing (without_zeros ds)) ≡ b → digits_value 10 (without_zeros ds) * 10 ^ (length ds - length (without_zeros ds)) ≡ digits_value 10 ds
        → digits_value 10 (cond b [] (d ∷ without_zeros ds)) * 10 ^ (length (d ∷ ds) - length (cond b [] (d ∷ without_zeros ds))) ≡ digits_value 10 (d ∷ ds)
    go true e before =
        let parts = and_parts (d == 48) (is_nothing (without_zeros ds)) e in
        let none : without_zeros ds ≡ [] = nil_from_length (without_zeros ds) (eqb-true (length (without_zeros ds)) 0 parts.1) in
        let nothing : digits_value 10 ds ≡ 0 = sym before ∙ ap (λ (t : List ℕ). digits_value 10 t * 10 ^ (length ds - length t)) none ∙ nought (10 ^ (length ds - 0)) in
        let zero_is : digits_value 10 (d ∷ []) ≡ 0 = ap (λ (x : ℕ). digits_value 10 (x ∷ [])) (eqb-true d 48 parts.0) in
        nought (10 ^ (length (d ∷ ds) - 0)) ∙ sym (value-cons d ds ∙ rw (zero_is, nothing) (omega arith))
    go false e before =
        let less : length (d ∷ ds) - length (d ∷ without_zeros ds) ≡ length ds - length (without_zeros ds) = omega arith in
        ap (λ (k : ℕ). digits_value 10 (d ∷ without_zeros ds) * 10 ^ k) less
        ∙ value-step (digits_value 10 (d ∷ [])) (digits_value 10 (d ∷ without_zeros ds)) (10 ^ length ds) (10 ^ length (without_zeros ds)) (10 ^ (length ds - length (without_zeros ds))) (digits_value 10 (without_zeros ds)) (digits_value 10 ds)
        (pow-split (length ds) (length (without_zeros ds)) (shorter-length ds)) before (value-cons d (without_zeros ds))
        ∙ sym (value-cons d ds)

-- ---- so many places behind the point

-- both sides of the point fit in 64 bits
pub record IsSized (k n : ℕ) : Type 0 where
  pub some : 0 < k
  pub whole : n / 10 ^ k < 2 ^ 64
  pub part : n % 10 ^ k < 10 ^ k
  pub fits : n % 10 ^ k < 2 ^ 64

abbrev pub places : ℕ → ℕ → List ℕ
places k part = without_zeros (in_digits k part)

abbrev pub decimals_of : List ℕ → Option (List ℕ)
decimals_of [] = None
decimals_of (d ∷ ds) = Some (d ∷ ds)

pub behind_point-text : (ds : List ℕ) → behind_point ds ≡ point_text (decimals_of ds)
behind_point-text [] = refl
behind_point-text (d ∷ ds) = refl

pub record IsPlaces (k : ℕ) (ds : List ℕ) (part : ℕ) : Type 0 where
  pub each : all_ascii_digits ds ≡ true
  pub few : length ds ≤ k
  pub units : digits_value 10 ds * 10 ^ (k - length ds) ≡ part

pub is_places : (k n : ℕ) → IsSized k n → IsPlaces k (places k (n % 10 ^ k)) (n % 10 ^ k)
is_places k n is =
    let part = n % 10 ^ k in
    let all = in_digits-length k part is.some is.part is.fits in
    record {
      each = shorter-digits (in_digits k part) (in_digits-digits k part is.fits);
      few = omega (arith, shorter-length (in_digits k part), all);
      units = ap (λ (j : ℕ). digits_value 10 (places k part) * 10 ^ (j - length (places k part))) (sym all) ∙ shorter-value (in_digits k part) ∙ in_digits-value k part is.fits;
    }

-- ---- a weight

pub sized-weight : (n : ℕ) → n ≤ one → IsSized 5 n
sized-weight n le = record { some = omega arith; whole = omega arith; part = omega arith; fits = omega arith }

point_units-places : (k : ℕ) (ds : List ℕ) (part : ℕ) → IsPlaces k ds part → point_units k (decimals_of ds) ≡ part
point_units-places k [] part is = sym (nought (10 ^ (k - 0))) ∙ is.units
point_units-places k (d ∷ ds) part is = is.units

formed-decimals : (k : ℕ) (ds : List ℕ) (part : ℕ) → IsPlaces k ds part → IfSome (decimals_of ds) (IsDigits k)
formed-decimals k [] part is = tt
formed-decimals k (d ∷ ds) part is = record { each = is.each; few = is.few }

some_decimals : (ds : List ℕ) → IfSome (decimals_of ds) (λ decimals. (0 < length decimals) ⊎ IsTrue true)
some_decimals [] = tt
some_decimals (d ∷ ds) = inl (omega arith)

pub size-spelled : (negative : Bool) (n : ℕ) → n ≤ one → IsSpelled percent_form (sign_text negative ++ short_natural 5 n) (signed negative n)
size-spelled negative n le =
    let whole = n / 10 ^ 5 in
    let part = n % 10 ^ 5 in
    let ds = places 5 part in
    let sized = sized-weight n le in
    let is = is_places 5 n sized in
    let units : digits_value 10 (decimal whole) * 10 ^ 5 + point_units 5 (decimals_of ds) ≡ n =
    rw (digits_value-decimal numerals whole sized.whole, point_units-places 5 ds part is) (omega arith) in
    record {
      parts = record { negative = negative; whole = decimal whole; decimals = decimals_of ds };
      formed = record {
        whole = record { each = digits_decimal numerals whole sized.whole; few = length-decimal-le 3 whole (omega arith) (omega arith) sized.whole };
        some_whole = decimal_nonempty whole sized.whole;
        decimals = formed-decimals 5 ds part is;
        some_decimals = some_decimals ds;
      };
      text_is = ap (λ (t : List ℕ). sign_text negative ++ (decimal whole ++ t)) (behind_point-text ds);
      units_are = ap (signed negative) (sym units);
    }
