-- What is spelled is read, and what reading from the left answers is exactly what the text says.
use Rattle.std.proofs.Common.{◌≡◌, ℕ, ◌+◌, ◌*◌, ◌^◌, ◌<◌, Bool, true, false, cond, ◌==◌, not, ◌&&◌, ◌||◌, List, [], ◌∷◌, ◌++◌, length, Option, Some, None, Result, Ok, Err, refl, sym, ap, ◌∙◌, arith, inl, inr, ◌⊎◌, ℤ, add-zero}
use Rattle.std.specs.Prelude.{IfSome, int_lt, ◌↔◌}
use Rattle.std.specs.Char.{is_ascii_digit}
use Rattle.std.specs.Str.{all_ascii_digits}
use Rattle.std.specs.Str.Parse.{digits_value}
use Rattle.std.proofs.lemmas.Bool.{ne_eqb, or_parts, or_cases, and_parts, and_left, and_right, not_from_true}
use Rattle.std.proofs.lemmas.Int.{ints}
use Rattle.std.proofs.lemmas.List.{append-nil}
use Rattle.qz_decimal.specs.declared.reading.Form.{Form}
use Rattle.qz_decimal.specs.declared.reading.BadNumber.{BadNumber}
use Rattle.qz_decimal.specs.declared.reading.BadNumber.TheVariants.{Malformed, Range}
use Rattle.qz_decimal.specs.Numbers.{IsWithin}
use Rattle.qz_decimal.specs.Reading.{mark_form, grade_form, ◌>>=◌, Parts, sign_text, point_text, text_of, decimal_units, point_units, units_of, IsDigits, IsFormed, IsSpelled, Stuck, SpellsOther, first_digits, after_digits, decimals_at, rest_at, size_at, has_minus, without_minus, units_in, units_within}
use Rattle.qz_decimal.proofs.DigitRuns.{StopsDigits, first_digits-of, after_digits-of}
use Rattle.qz_decimal.proofs.Scan.{not_minus}
use Rattle.qz_decimal.proofs.Places.{IsUsual, not_both, stuck-once}
use Rattle.qz_decimal.proofs.Spelled.{Means, units-mean}

-- a size that isn't 0
some_length : (digits : List ℕ) → 0 < length digits → (length digits == 0) ≡ false
some_length digits some = ne_eqb (length digits) 0 (λ e. omega arith)

decimals-read : (form : Form) (place : ℕ) (digits : List ℕ) → IsDigits form.places digits → (0 < length digits) ⊎ (form.bare_point ≡ true) → decimals_at form place digits ≡ Ok (decimal_units form.places digits)
unfolding decimals_at
decimals-read form place digits h some =
    let all : first_digits form.places digits ≡ digits = ap (first_digits form.places) (sym (append-nil digits)) ∙ first_digits-of form.places digits [] h.each h.few refl in
    let nothing_more : after_digits form.places digits ≡ [] = ap (after_digits form.places) (sym (append-nil digits)) ∙ after_digits-of form.places digits [] h.each h.few refl in
    let enough : (length digits == 0 && not form.bare_point) ≡ false =
    elim some [ inl some ↦ and_left _ _ (some_length digits some) | inr bare ↦ and_right _ _ (not_from_true form.bare_point bare) ] in
    rw (all, nothing_more, enough) refl

stops-point : (decimals : Option (List ℕ)) → StopsDigits (point_text decimals)
stops-point None = refl
stops-point (Some digits) = refl

rest-read : (form : Form) (place size : ℕ) (decimals : Option (List ℕ)) → IfSome decimals (IsDigits form.places) → IfSome decimals (λ digits. (0 < length digits) ⊎ (form.bare_point ≡ true)) → rest_at form place size (point_text decimals) ≡ Ok (size + point_units form.places decimals)
unfolding rest_at
rest-read form place size None h some = ap (λ n. Ok n) (sym (add-zero size))
rest-read form place size (Some digits) h some = rw (decimals-read form (place + 1) digits h some) refl

size-read : (form : Form) (place : ℕ) (parts : Parts) → IsFormed form parts → size_at form place (parts.whole ++ point_text parts.decimals) ≡ Ok (digits_value 10 parts.whole * 10 ^ form.places + point_units form.places parts.decimals)
unfolding size_at
size-read form place parts h =
    rw (first_digits-of form.whole parts.whole (point_text parts.decimals) h.whole.each h.whole.few (stops-point parts.decimals), after_digits-of form.whole parts.whole (point_text parts.decimals) h.whole.each h.whole.few (stops-point parts.decimals), some_length parts.whole h.some_whole)
    (rest-read form (place + length parts.whole) (digits_value 10 parts.whole * 10 ^ form.places) parts.decimals h.decimals h.some_decimals)

-- the sign is found
has_minus-of : (negative : Bool) (digits tail : List ℕ) → all_ascii_digits digits ≡ true → 0 < length digits → has_minus (sign_text negative ++ (digits ++ tail)) ≡ negative
has_minus-of true digits tail each some = refl
has_minus-of false [] tail each some = absurd (omega arith)
has_minus-of false (d ∷ ds) tail each some = not_minus d (and_parts (is_ascii_digit d) (all_ascii_digits ds) each).0

without_minus-of : (negative : Bool) (digits tail : List ℕ) → all_ascii_digits digits ≡ true → 0 < length digits → without_minus (sign_text negative ++ (digits ++ tail)) ≡ digits ++ tail
without_minus-of true digits tail each some = refl
without_minus-of false [] tail each some = absurd (omega arith)
without_minus-of false (d ∷ ds) tail each some = rw (not_minus d (and_parts (is_ascii_digit d) (all_ascii_digits ds) each).0) refl

formed-read : (form : Form) (parts : Parts) → IsFormed form parts → units_in form (text_of parts) ≡ Ok (units_of form.places parts)
unfolding units_in
formed-read form parts h =
    rw (has_minus-of parts.negative parts.whole (point_text parts.decimals) h.whole.each h.some_whole, without_minus-of parts.negative parts.whole (point_text parts.decimals) h.whole.each h.some_whole, size-read form (cond parts.negative 1 0) parts h) refl

pub spelled-read : (form : Form) (text : List ℕ) (units : ℤ) → IsSpelled form text units → units_in form text ≡ Ok units
spelled-read form text units h = ap (units_in form) h.text_is ∙ formed-read form h.parts h.formed ∙ ap (λ z. Ok z) (sym h.units_are)

-- ---- the units in a range

within-tested : (least greatest units : ℤ) → (int_lt units least || int_lt greatest units) ≡ false → IsWithin least greatest units
within-tested least greatest units e = let parts = or_parts (int_lt units least) (int_lt greatest units) e in (omega (arith, ints, parts.0), omega (arith, ints, parts.1))

outside-tested : (least greatest units : ℤ) → (int_lt units least || int_lt greatest units) ≡ true → ¬ IsWithin least greatest units
outside-tested least greatest units e within =
    elim (or_cases (int_lt units least) (int_lt greatest units) e) [ inl low ↦ absurd (omega (arith, ints, low, within.0)) | inr high ↦ absurd (omega (arith, ints, high, within.1)) ]

same_ok : (a b : ℤ) → ◌≡◌ {A = Result ℤ BadNumber} (Ok a) (Ok b) → a ≡ b
same_ok a b e = cc

same_place : (a b : ℕ) → ◌≡◌ {A = Result ℤ BadNumber} (Err (Malformed a)) (Err (Malformed b)) → a ≡ b
same_place a b e = cc

-- what an answer must say of a text
pub record Reads (form : Form) (least greatest : ℤ) (text : List ℕ) (r : Result ℤ BadNumber) : Type 0 where
  pub found : (units : ℤ) → (r ≡ Ok units) ↔ (IsSpelled form text units × IsWithin least greatest units)
  pub malformed : (place : ℕ) → (r ≡ Err (Malformed place)) ↔ Stuck form text place
  pub range : (r ≡ Err Range) ↔ SpellsOther form (IsWithin least greatest) text

-- a text that spells a number
reads-number : (form : Form) (least greatest : ℤ) (text : List ℕ) (units : ℤ) → IsSpelled form text units → ((other : ℤ) → IsSpelled form text other → other ≡ units)
    → Reads form least greatest text (cond (int_lt units least || int_lt greatest units) (Err Range) (Ok units))
reads-number form least greatest text units spelled only = go (int_lt units least || int_lt greatest units) refl
  where
    go : (is_outside : Bool) → (int_lt units least || int_lt greatest units) ≡ is_outside → Reads form least greatest text (cond is_outside (Err Range) (Ok units))
    go true e = record {
      found = λ other. ((λ equal. absurd cc), (λ h. absurd (outside-tested least greatest units e (rw (only other h.0) at h.1))));
      malformed = λ place. ((λ equal. absurd cc), (λ stuck. absurd (not_both form text units place spelled stuck)));
      range = ((λ equal. record { units = units; spelled = spelled; other = outside-tested least greatest units e }), (λ h. refl));
    }
    go false e =
        let within = within-tested least greatest units e in
        record {
          found = λ other. ((λ equal. let both : IsSpelled form text units × IsWithin least greatest units = (spelled, within) in rw (same_ok units other equal) at both), (λ h. ap (λ z. Ok z) (sym (only other h.0))));
          malformed = λ place. ((λ equal. absurd cc), (λ stuck. absurd (not_both form text units place spelled stuck)));
          range = ((λ equal. absurd cc), (λ h. absurd (h.other (rw (only h.units h.spelled) within))));
        }

-- a text that is stuck
reads-stuck : (form : Form) (least greatest : ℤ) (text : List ℕ) (place : ℕ) → Stuck form text place → Reads form least greatest text (Err (Malformed place))
reads-stuck form least greatest text place stuck = record {
  found = λ units. ((λ equal. absurd cc), (λ h. absurd (not_both form text units place h.0 stuck)));
  malformed = λ other. ((λ equal. rw (same_place place other equal) at stuck), (λ h. ap (λ p. Err (Malformed p)) (stuck-once form text place other stuck h)));
  range = ((λ equal. absurd cc), (λ h. absurd (not_both form text h.units place h.spelled stuck)));
}

pub units_within-reads : (form : Form) (least greatest : ℤ) (text : List ℕ) → IsUsual form → Reads form least greatest text (units_within form least greatest text)
unfolding units_within
units_within-reads form least greatest text usual = go (units_in form text) refl (units-mean form text usual)
  where
    go : (r : Result ℤ BadNumber) → units_in form text ≡ r → Means form text r → Reads form least greatest text (r >>= λ units. cond (int_lt units least || int_lt greatest units) (Err Range) (Ok units))
    go (Ok units) e spelled = reads-number form least greatest text units spelled (λ other h. same_ok other units (sym (spelled-read form text other h) ∙ e))
    go (Err (Malformed place)) e stuck = reads-stuck form least greatest text place stuck
    go (Err Range) e means = absurd means

pub reads-as : (form : Form) (least greatest : ℤ) (text : List ℕ) (r : Result ℤ BadNumber) → IsUsual form → r ≡ units_within form least greatest text → Reads form least greatest text r
reads-as form least greatest text r usual e = rw e (units_within-reads form least greatest text usual)

pub mark_usual : IsUsual mark_form
mark_usual = record { some_whole = omega arith; some_places = omega arith }

pub grade_usual : IsUsual grade_form
grade_usual = record { some_whole = omega arith; some_places = omega arith }
