-- Reading from the left finds exactly the weight that is spelled.
use Rattle.std.proofs.Common.{◌≡◌, ℕ, suc, ◌+◌, ◌-◌, ◌<◌, Bool, true, ◌==◌, ◌&&◌, nat_lt, List, [], ◌∷◌, ◌++◌, length, get_or, take, Option, Some, None, Result, Ok, Err, refl, sym, ap, ◌∙◌, arith, ℤ, pos, neg_ℤ}
use Rattle.std.specs.Prelude.{◌↔◌, IsNone, slice_index, option_and_then}
use Rattle.std.specs.Result.{result_ok}
use Rattle.std.proofs.lemmas.Bool.{eqb-true, lt-ltb, and_parts}
use Rattle.std.proofs.lemmas.List.{take_all, take_at, length-append}
use Rattle.std.proofs.lemmas.Grind.{take_at_read}
use Rattle.std.proofs.lemmas.Option.{cond_some, same_Some}
use Rattle.qz_decimal.specs.declared.reading.BadNumber.{BadNumber}
use Rattle.qz_decimal.specs.Numbers.{one}
use Rattle.qz_decimal.specs.Reading.{units_within}
use Rattle.qz_decimal.specs.Percent.{percent, percent_form, IsWeight, between_percents, weight_in}
use Rattle.qz_decimal.proofs.Exact.{none-exactly}
use Rattle.qz_decimal.proofs.Places.{IsUsual}
use Rattle.qz_decimal.proofs.Complete.{units_within-reads}

-- a list up to its last item, and that item
front_and_last : (rest : List ℕ) → 0 < length rest → take (length rest - 1) rest ++ get_or rest (length rest - 1) 0 ∷ [] ≡ rest
front_and_last rest some =
    let one_more : length rest - 1 + 1 ≡ length rest = omega arith in
    sym (take_at_read rest (length rest - 1) 0 (omega arith)).1 ∙ ap (λ n. take n rest) one_more ∙ take_all (length rest) rest (omega arith)

between-found : (text number : List ℕ) → between_percents text ≡ Some number → text ≡ percent ∷ (number ++ percent ∷ [])
between-found [] number e = absurd cc
between-found (b ∷ []) number e = absurd cc
between-found (b ∷ c ∷ rest) number e =
    let found = cond_some _ _ number e in
    let last : Bool = slice_index (b ∷ c ∷ rest) (suc (suc (length rest)) - 1) == percent in
    let ends = and_parts (b == percent) last (and_parts (nat_lt 1 (suc (suc (length rest)))) (b == percent && last) found.0).1 in
    let back_two : suc (suc (length rest)) - 2 ≡ length rest = omega arith in
    let back_one : suc (suc (length rest)) - 1 ≡ suc (length rest) = omega arith in
    let one_less : suc (length rest) - 1 ≡ length rest = omega arith in
    let number_is : take (length rest) (c ∷ rest) ≡ number = rw back_two at found.1 in
    let last_is : get_or (c ∷ rest) (length rest) 0 ≡ percent = eqb-true _ _ (rw back_one at ends.1) in
    let parts : take (length rest) (c ∷ rest) ++ get_or (c ∷ rest) (length rest) 0 ∷ [] ≡ c ∷ rest = rw one_less at (front_and_last (c ∷ rest) (omega arith)) in
    let tail : c ∷ rest ≡ number ++ percent ∷ [] = sym parts ∙ rw (number_is, last_is) refl in
    ap (λ (t : List ℕ). b ∷ t) tail ∙ ap (λ p. p ∷ (number ++ percent ∷ [])) (eqb-true b percent ends.0)

last-of : (number : List ℕ) (p : ℕ) → get_or (number ++ p ∷ []) (length number) 0 ≡ p
last-of [] p = refl
last-of (d ∷ ds) p = last-of ds p

between-of : (number : List ℕ) → between_percents (percent ∷ (number ++ percent ∷ [])) ≡ Some number
between-of number =
    let text : List ℕ = number ++ percent ∷ [] in
    let size : length text ≡ suc (length number) = omega (arith, length-append number (percent ∷ [])) in
    let back_two : suc (suc (length number)) - 2 ≡ length number = omega arith in
    let back_one : suc (suc (length number)) - 1 ≡ suc (length number) = omega arith in
    let long : nat_lt 1 (suc (suc (length number))) ≡ true = lt-ltb 1 (suc (suc (length number))) (omega arith) in
    let ends : (get_or text (length number) 0 == percent) ≡ true = rw last-of refl in
    rw (size, back_two, back_one, long, ends, take_at number (percent ∷ []) (length number) refl) refl

percent_usual : IsUsual percent_form
percent_usual = record { some_whole = omega arith; some_places = omega arith }

-- a weight, from what stands between the signs
weight-read : (text : List ℕ) (units : ℤ) (number : Option (List ℕ)) → between_percents text ≡ number → option_and_then (λ number. result_ok (units_within percent_form (neg_ℤ (pos one)) (pos one) number)) number ≡ Some units → IsWeight text units
weight-read text units None between e = absurd cc
weight-read text units (Some number) between e =
    let law = (units_within-reads percent_form (neg_ℤ (pos one)) (pos one) number percent_usual).found units in
    let spelled = law.0 (result_is _ units e) in
    record { number = number; text_is = between-found text number between; spelled = spelled.0; in_range = spelled.1 }
  where
    result_is : (r : Result ℤ BadNumber) (units : ℤ) → result_ok r ≡ Some units → r ≡ Ok units
    result_is (Ok x) units e = ap (λ z. Ok z) (same_Some x units e)
    result_is (Err fault) units e = absurd cc

pub weight-found : (text : List ℕ) (units : ℤ) → (weight_in text ≡ Some units) ↔ IsWeight text units
unfolding weight_in
weight-found text units = (
  (λ e. weight-read text units (between_percents text) refl e),
  (λ h.
      let law = (units_within-reads percent_form (neg_ℤ (pos one)) (pos one) h.number percent_usual).found units in
      ap weight_in h.text_is ∙ rw (between-of h.number, law.1 (h.spelled, h.in_range)) refl),
)

pub weight-none : (text : List ℕ) → IsNone (weight_in text) ↔ ((units : ℤ) → ¬ IsWeight text units)
weight-none text = none-exactly (weight_in text) (IsWeight text) (weight-found text)
