-- Reading from the left finds what is spelled, or where the text goes wrong.
use Rattle.std.proofs.Common.{◌≡◌, ℕ, ◌+◌, ◌-◌, ◌*◌, ◌^◌, ◌<◌, Bool, true, false, cond, ◌==◌, not, ◌&&◌, ◌||◌, nat_lt, List, [], ◌∷◌, ◌++◌, length, Some, None, Result, Ok, Err, refl, sym, ap, ◌∙◌, subst, arith, append_assoc, inl, inr, ◌⊎◌, ℤ, add-zero}
use Rattle.std.specs.Char.{is_ascii_digit}
use Rattle.std.specs.Str.Parse.{digits_value}
use Rattle.std.specs.Float.Numeral.{minus, dot}
use Rattle.std.proofs.lemmas.Bool.{eqb-true, eqb-false, ltb-true, ltb-false, and_parts, and_cases, not-true, not-false}
use Rattle.std.proofs.lemmas.List.{append-nil, nil_from_length, length-append}
use Rattle.qz_decimal.specs.declared.reading.Form.{Form}
use Rattle.qz_decimal.specs.declared.reading.BadNumber.{BadNumber}
use Rattle.qz_decimal.specs.declared.reading.BadNumber.TheVariants.{Malformed, Range}
use Rattle.qz_decimal.specs.Numbers.{signed}
use Rattle.qz_decimal.specs.Reading.{◌>>=◌, sign_text, decimal_units, IsDigits, IsSpelled, Stuck, first_digits, after_digits, decimals_at, rest_at, size_at, has_minus, without_minus, units_in}
use Rattle.qz_decimal.proofs.DigitRuns.{first_digits-each, first_digits-few, first_digits-append, after_digits-stops}
use Rattle.qz_decimal.proofs.Scan.{Scan, nothing, whole, point, decimal, step, accepts, run, run-then, run-sign, run-first, run-point, digit_step-none, after_sign}
use Rattle.qz_decimal.proofs.Places.{IsUsual, HasWhole, begins-sign, begins-whole, begins-decimals, stuck-inside, stuck-at_end}

-- ---- what is read is so

first_digits-formed : (most : ℕ) (text : List ℕ) → IsDigits most (first_digits most text)
first_digits-formed most text = record { each = first_digits-each most text; few = first_digits-few most text }

-- the decimals behind a front that ends in the point
abbrev DecimalsMean : Form → List ℕ → List ℕ → Result ℕ BadNumber → Type 0
DecimalsMean form front text (Ok units) = IsDigits form.places text × ((0 < length text) ⊎ (form.bare_point ≡ true)) × (units ≡ decimal_units form.places text)
DecimalsMean form front text (Err (Malformed place)) = Stuck form (front ++ text) place
DecimalsMean form front text (Err Range) = ⊥

-- the state behind the point and some decimals
abbrev after_point : Form → List ℕ → Scan
after_point form [] = point
after_point form (d ∷ ds) = decimal (form.places - length (d ∷ ds))

run-after_point : (form : Form) (digits : List ℕ) → IsDigits form.places digits → run form point digits ≡ Some (after_point form digits)
run-after_point form [] h = refl
run-after_point form (d ∷ ds) h = run-point form (d ∷ ds) h (omega arith)

stops-after_point : (form : Form) (digits : List ℕ) (b : ℕ) → (length digits ≡ form.places) ⊎ (is_ascii_digit b ≡ false) → step form (after_point form digits) b ≡ None
stops-after_point form [] b (inl full) = digit_step-none decimal form.places b (inl (omega arith))
stops-after_point form [] b (inr other) = digit_step-none decimal form.places b (inr other)
stops-after_point form (d ∷ ds) b (inl full) = digit_step-none decimal _ b (inl (omega arith))
stops-after_point form (d ∷ ds) b (inr other) = digit_step-none decimal _ b (inr other)

-- ---- behind a sign and whole digits

module _ (form : Form) (negative : Bool) (digits : List ℕ) (usual : IsUsual form) (h : HasWhole form digits) where
  run-to_whole : run form nothing (sign_text negative ++ digits) ≡ Some (whole (form.whole - length digits))
  run-to_whole = run-then form nothing (after_sign negative) (whole (form.whole - length digits)) (sign_text negative) digits (run-sign form negative) (run-first form negative digits h.formed h.some)

  run-to_point : run form nothing (sign_text negative ++ (digits ++ dot ∷ [])) ≡ Some point
  run-to_point = rw (← append_assoc) (run-then form nothing (whole (form.whole - length digits)) point (sign_text negative ++ digits) (dot ∷ []) run-to_whole refl)

  decimals_stuck : (text tail : List ℕ) → after_digits form.places text ≡ tail → (tail ≡ [] → (length (first_digits form.places text) ≡ 0) × (form.bare_point ≡ false))
      → Stuck form ((sign_text negative ++ (digits ++ dot ∷ [])) ++ text) (length (sign_text negative ++ (digits ++ dot ∷ [])) + length (first_digits form.places text))
  decimals_stuck text [] e ended =
      let front = sign_text negative ++ (digits ++ dot ∷ []) in
      let none = ended refl in
      let text_is : text ≡ [] = sym (first_digits-append form.places text) ∙ rw (e, nil_from_length (first_digits form.places text) none.0) refl in
      rw (none.0, text_is, append-nil front, add-zero (length front)) (stuck-at_end form front point (rw append-nil at (begins-decimals form negative digits [] usual h (record { each = refl; few = omega arith }))) run-to_point none.1)
  decimals_stuck text (b ∷ tail) e ended =
      let front = sign_text negative ++ (digits ++ dot ∷ []) in
      let decimals = first_digits form.places text in
      let formed = first_digits-formed form.places text in
      let text_is : (front ++ decimals) ++ b ∷ tail ≡ front ++ text =
      append_assoc front decimals (b ∷ tail) ∙ ap (λ (t : List ℕ). front ++ t) (ap (λ (t : List ℕ). decimals ++ t) (sym e) ∙ first_digits-append form.places text) in
      let here = stuck-inside form (front ++ decimals) b tail (after_point form decimals)
      (begins-decimals form negative digits decimals usual h formed)
      (run-then form nothing point (after_point form decimals) front decimals run-to_point (run-after_point form decimals formed))
      (stops-after_point form decimals b (after_digits-stops form.places text b tail e)) in
      rw (text_is, length-append front decimals) at here

  decimals_mean : (text : List ℕ) (place : ℕ) → place ≡ length (sign_text negative ++ (digits ++ dot ∷ [])) → DecimalsMean form (sign_text negative ++ (digits ++ dot ∷ [])) text (decimals_at form place text)
  unfolding decimals_at
  decimals_mean text place place_is = go (length (first_digits form.places text) == 0 && not form.bare_point) refl (nat_lt 0 (length (after_digits form.places text))) refl
    where
      go : (none : Bool) → (length (first_digits form.places text) == 0 && not form.bare_point) ≡ none → (more : Bool) → nat_lt 0 (length (after_digits form.places text)) ≡ more
          → DecimalsMean form (sign_text negative ++ (digits ++ dot ∷ [])) text (cond (none || more) (Err (Malformed (place + length (first_digits form.places text)))) (Ok (decimal_units form.places (first_digits form.places text))))
      go true e more f =
          let parts = and_parts (length (first_digits form.places text) == 0) (not form.bare_point) e in
          rw place_is (decimals_stuck text _ refl (λ ended. (eqb-true _ _ parts.0, not-true form.bare_point parts.1)))
      go false e true f =
          let some = ltb-true 0 (length (after_digits form.places text)) f in
          rw place_is (decimals_stuck text _ refl (λ ended. absurd (omega (arith, some, ap length ended))))
      go false e false f =
          let nothing_more = nil_from_length (after_digits form.places text) (omega (arith, ltb-false 0 (length (after_digits form.places text)) f)) in
          let text_is : first_digits form.places text ≡ text =
          sym (append-nil (first_digits form.places text)) ∙ ap (λ (t : List ℕ). first_digits form.places text ++ t) (sym nothing_more) ∙ first_digits-append form.places text in (
            subst (λ (t : List ℕ). IsDigits form.places t) text_is (first_digits-formed form.places text),
            elim (and_cases (length (first_digits form.places text) == 0) (not form.bare_point) e) [
              | inl some ↦ inl (let ne = eqb-false _ _ some in omega (arith, ne, ap length text_is))
              | inr bare ↦ inr (not-false form.bare_point bare)
            ],
            ap (decimal_units form.places) text_is,
          )

-- ---- the whole digits and what follows them

abbrev SizeMeans : Form → Bool → List ℕ → Result ℕ BadNumber → Type 0
SizeMeans form negative text (Ok size) = IsSpelled form (sign_text negative ++ text) (signed negative size)
SizeMeans form negative text (Err (Malformed place)) = Stuck form (sign_text negative ++ text) place
SizeMeans form negative text (Err Range) = ⊥

-- a number with decimals, from what the decimals mean
with_decimals : (form : Form) (negative : Bool) (digits text : List ℕ) → HasWhole form digits → (r : Result ℕ BadNumber) → DecimalsMean form (sign_text negative ++ (digits ++ dot ∷ [])) text r
    → SizeMeans form negative (digits ++ dot ∷ text) (r >>= λ units. Ok (digits_value 10 digits * 10 ^ form.places + units))
with_decimals form negative digits text h (Ok units) means = record {
  parts = record { negative = negative; whole = digits; decimals = Some text };
  formed = record { whole = h.formed; some_whole = h.some; decimals = means.0; some_decimals = means.1 };
  text_is = refl;
  units_are = ap (λ n. signed negative (digits_value 10 digits * 10 ^ form.places + n)) means.2;
}
with_decimals form negative digits text h (Err (Malformed place)) means =
    let text_is : (sign_text negative ++ (digits ++ dot ∷ [])) ++ text ≡ sign_text negative ++ (digits ++ dot ∷ text) =
    append_assoc (sign_text negative) (digits ++ dot ∷ []) text ∙ ap (λ (t : List ℕ). sign_text negative ++ t) (append_assoc digits (dot ∷ []) text) in
    rw text_is at means
with_decimals form negative digits text h (Err Range) means = means

rest_means : (form : Form) (negative : Bool) (digits : List ℕ) → IsUsual form → HasWhole form digits → (place : ℕ) → place ≡ length (sign_text negative ++ digits)
    → (rest : List ℕ) → ((b : ℕ) (others : List ℕ) → rest ≡ b ∷ others → (length digits ≡ form.whole) ⊎ (is_ascii_digit b ≡ false))
    → SizeMeans form negative (digits ++ rest) (rest_at form place (digits_value 10 digits * 10 ^ form.places) rest)
unfolding rest_at
rest_means form negative digits usual h place place_is [] stops = record {
  parts = record { negative = negative; whole = digits; decimals = None };
  formed = record { whole = h.formed; some_whole = h.some; decimals = tt; some_decimals = tt };
  text_is = refl;
  units_are = ap (signed negative) (sym (add-zero (digits_value 10 digits * 10 ^ form.places)));
}
rest_means form negative digits usual h place place_is (b ∷ rest) stops = go (b == dot) refl
  where
    go : (is_dot : Bool) → (b == dot) ≡ is_dot → SizeMeans form negative (digits ++ b ∷ rest) (cond is_dot (decimals_at form (place + 1) rest >>= λ units. Ok (digits_value 10 digits * 10 ^ form.places + units)) (Err (Malformed place)))
    go true dot_is =
        let place_behind : place + 1 ≡ length (sign_text negative ++ (digits ++ dot ∷ [])) = omega (arith, place_is, length-append (sign_text negative) digits, length-append (sign_text negative) (digits ++ dot ∷ []), length-append digits (dot ∷ [])) in
        rw (eqb-true b dot dot_is) (with_decimals form negative digits rest h (decimals_at form (place + 1) rest) (decimals_mean form negative digits usual h rest (place + 1) place_behind))
    go false other =
        let full = elim (stops b rest refl) as (λ _. (form.whole - length digits ≡ 0) ⊎ (is_ascii_digit b ≡ false)) [ inl full ↦ inl (omega arith) | inr none ↦ inr none ] in
        let here = stuck-inside form (sign_text negative ++ digits) b rest (whole (form.whole - length digits)) (begins-whole form negative digits h) (run-to_whole form negative digits usual h) (rw other (digit_step-none whole (form.whole - length digits) b full)) in
        rw (append_assoc (sign_text negative) digits (b ∷ rest), ← place_is) at here

refused-sign : (form : Form) (negative : Bool) → accepts form (after_sign negative) ≡ false
refused-sign form true = refl
refused-sign form false = refl

stops-sign : (form : Form) (negative : Bool) (b : ℕ) → is_ascii_digit b ≡ false → (negative ≡ false → (b == minus) ≡ false) → step form (after_sign negative) b ≡ None
stops-sign form true b other plain = digit_step-none whole form.whole b (inr other)
stops-sign form false b other plain = rw (plain refl) (digit_step-none whole form.whole b (inr other))

-- no digit stands behind the sign
sign_stuck : (form : Form) (negative : Bool) (text : List ℕ) → IsUsual form → length (first_digits form.whole text) ≡ 0 → (negative ≡ false → has_minus text ≡ false) → Stuck form (sign_text negative ++ text) (length (sign_text negative))
sign_stuck form negative [] usual none plain =
    rw append-nil (stuck-at_end form (sign_text negative) (after_sign negative) (begins-sign form negative usual) (run-sign form negative) (refused-sign form negative))
sign_stuck form negative (b ∷ rest) usual none plain =
    let after : after_digits form.whole (b ∷ rest) ≡ b ∷ rest = ap (λ (t : List ℕ). t ++ after_digits form.whole (b ∷ rest)) (sym (nil_from_length (first_digits form.whole (b ∷ rest)) none)) ∙ first_digits-append form.whole (b ∷ rest) in
    let other : is_ascii_digit b ≡ false = elim (after_digits-stops form.whole (b ∷ rest) b rest after) [ inl full ↦ absurd (omega (arith, full, none, usual.some_whole)) | inr other ↦ other ] in
    stuck-inside form (sign_text negative) b rest (after_sign negative) (begins-sign form negative usual) (run-sign form negative) (stops-sign form negative b other plain)

size_means : (form : Form) (negative : Bool) (text : List ℕ) → IsUsual form → (negative ≡ false → has_minus text ≡ false) → SizeMeans form negative text (size_at form (length (sign_text negative)) text)
unfolding size_at
size_means form negative text usual plain = go (length (first_digits form.whole text) == 0) refl
  where
    go : (none : Bool) → (length (first_digits form.whole text) == 0) ≡ none
        → SizeMeans form negative text (cond none (Err (Malformed (length (sign_text negative)))) (rest_at form (length (sign_text negative) + length (first_digits form.whole text)) (digits_value 10 (first_digits form.whole text) * 10 ^ form.places) (after_digits form.whole text)))
    go true e = sign_stuck form negative text usual (eqb-true _ _ e) plain
    go false e =
        let some = eqb-false _ _ e in
        let h : HasWhole form (first_digits form.whole text) = record { formed = first_digits-formed form.whole text; some = omega arith } in
        let means = rest_means form negative (first_digits form.whole text) usual h (length (sign_text negative) + length (first_digits form.whole text)) (sym (length-append (sign_text negative) (first_digits form.whole text))) (after_digits form.whole text) (λ b others after. after_digits-stops form.whole text b others after) in
        subst (λ (t : List ℕ). SizeMeans form negative t (rest_at form (length (sign_text negative) + length (first_digits form.whole text)) (digits_value 10 (first_digits form.whole text) * 10 ^ form.places) (after_digits form.whole text))) (first_digits-append form.whole text) means

-- ---- the whole text

-- what reading answers is so
abbrev pub Means : Form → List ℕ → Result ℤ BadNumber → Type 0
Means form text (Ok units) = IsSpelled form text units
Means form text (Err (Malformed place)) = Stuck form text place
Means form text (Err Range) = ⊥

sign_split : (text : List ℕ) → sign_text (has_minus text) ++ without_minus text ≡ text
sign_split [] = refl
sign_split (b ∷ rest) = go (b == minus) refl
  where
    go : (is_minus : Bool) → (b == minus) ≡ is_minus → sign_text is_minus ++ cond is_minus rest (b ∷ rest) ≡ b ∷ rest
    go true e = ap (λ m. m ∷ rest) (sym (eqb-true b minus e))
    go false e = refl

sign_length : (negative : Bool) → cond negative 1 0 ≡ length (sign_text negative)
sign_length true = refl
sign_length false = refl

-- one minus is taken at most
plain_rest : (text : List ℕ) → has_minus text ≡ false → has_minus (without_minus text) ≡ false
plain_rest [] plain = refl
plain_rest (b ∷ rest) plain = rw plain plain

signed_means : (form : Form) (negative : Bool) (text : List ℕ) (r : Result ℕ BadNumber) → SizeMeans form negative text r → Means form (sign_text negative ++ text) (r >>= λ size. Ok (signed negative size))
signed_means form negative text (Ok size) means = means
signed_means form negative text (Err (Malformed place)) means = means
signed_means form negative text (Err Range) means = means

pub units-mean : (form : Form) (text : List ℕ) → IsUsual form → Means form text (units_in form text)
unfolding units_in
units-mean form text usual =
    let negative = has_minus text in
    let body = without_minus text in
    let means = signed_means form negative body (size_at form (length (sign_text negative)) body) (size_means form negative body usual (plain_rest text)) in
    subst (λ (t : List ℕ). Means form t (units_in form text)) (sign_split text) (rw sign_length means)
