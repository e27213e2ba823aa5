-- A number without its zeros, with zeros in front up to its places.
use Rattle.std.proofs.Common.{◌≡◌, ◌++◌, ◌∷◌, ◌∙◌, List, ℕ, ◌<◌, ◌^◌, false, ◌==◌, sym, ap, refl, arith, string_bytes}
use Rattle.std.proofs.Padding.{padded_integral_zeros}
use Rattle.std.specs.Fmt.{decimal, styled_decimal, format_spec}
use Rattle.qz_grading.specs.Words.{in_digits, behind_point}
use Rattle.qz_grading.proofs.DigitLemmas.{some_place, tenth_fits, drop_zero, keep_last, nonzero_places, behind_point-digits}
use Rattle.qz_grading.proofs.spelled.decimals_onto.Goals as goal

pub loop-digits-preserved : goal.loop-digits-preserved
loop-digits-preserved c = record {
  some = omega arith;
  fit = tenth_fits c.loop-digits.places c.loop-digits.digits c.loop-digits.invariant.some c.loop-digits.invariant.fit;
  same = drop_zero c.loop-digits.places c.loop-digits.digits (some_place c.loop-digits.places c.loop-digits.digits c.loop-digits.invariant.some c.loop-digits.invariant.fit) c.loop-digits.invariant.some (omega arith) c.loop-digits-test.true ∙ c.loop-digits.invariant.same;
}

spread : (places n : ℕ) → 0 < n → n < 10 ^ places → styled_decimal (format_spec 32 0 4 places 18446744073709551615) n ≡ in_digits places n
spread places n some fits =
    let wide : (places == 0) ≡ false = nonzero_places places n some fits in
    rw wide (padded_integral_zeros (format_spec 32 0 4 places 18446744073709551615) (decimal n) refl refl)

pub returns : goal.returns
returns c =
    let n = c.loop-digits.digits in
    let places = c.loop-digits.places in
    let places_some = some_place places n c.loop-digits.invariant.some c.loop-digits.invariant.fit in
    c.in_ok-write.ensures.bytes
    ∙ ap (λ s. string_bytes c.args.out.now ++ 46 ∷ styled_decimal s n) c.laid_out.ensures
    ∙ ap (λ (ds : List ℕ). string_bytes c.args.out.now ++ 46 ∷ ds) (spread places n c.loop-digits.invariant.some c.loop-digits.invariant.fit)
    ∙ ap (λ (t : List ℕ). string_bytes c.args.out.now ++ t) (sym (behind_point-digits places n (omega arith)))
    ∙ ap (λ (ds : List ℕ). string_bytes c.args.out.now ++ behind_point ds) (sym (keep_last places n places_some (omega arith) c.loop-digits-test.false) ∙ c.loop-digits.invariant.same)
