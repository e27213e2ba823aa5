use Rattle.std.proofs.Common.{rules, arith, refl, ◌≡◌, ◌-◌, ◌^◌, ◌*ℤ◌, FitsSigned, to_z, of_z, ◌∙◌}
use Rattle.std.specs.Prelude.{unsigned_abs, ◌<◌}
use Rattle.std.specs.Int.{w64, w128}
use Rattle.std.proofs.lemmas.Int.{ints, to_z-of_z, fits_signed_from_abs}
use Rattle.qz_decimal.specs.Numbers.{nearest}
use Rattle.qz_decimal.proofs.Nearest.{IsNearest-nearest, nearest-within}
use Rattle.qz_decimal.proofs.quotient.nearest_product.Goals as goal
use Rattle.qz_decimal.proofs.quotient.nearest_product.Goals.{After-nearest_quotient}

-- the wide numbers are the narrow ones
quotient_is : (c : After-nearest_quotient) → to_z w128 (of_z w128 c.nearest_quotient.result) ≡ nearest (c.args.a *ℤ c.args.b) (unsigned_abs c.args.d)
quotient_is c =
    let a = c.args.a in
    let b = c.args.b in
    let result_fits : FitsSigned w128 c.nearest_quotient.result = search rules in
    let product_fits : FitsSigned w128 (a *ℤ b) = search rules in
    let a_fits : FitsSigned w128 a = search rules in
    let b_fits : FitsSigned w128 b = search rules in
    let a_is = c.from.ensures ∙ to_z-of_z w64 a c.ranges.a in
    let b_is = c.from-2.ensures ∙ to_z-of_z w64 b c.ranges.b in
    to_z-of_z w128 c.nearest_quotient.result result_fits
    ∙ c.nearest_quotient.ensures.value
    ∙ rw (a_is, b_is, to_z-of_z w64 c.args.d c.ranges.d, to_z-of_z w128 a a_fits, to_z-of_z w128 b b_fits, to_z-of_z w128 (a *ℤ b) product_fits) refl

quotient_fits : (c : After-nearest_quotient) → FitsSigned w64 (nearest (c.args.a *ℤ c.args.b) (unsigned_abs c.args.d))
quotient_fits c =
    let n = c.args.a *ℤ c.args.b in
    let d = unsigned_abs c.args.d in
    let positive : 0 < d = omega (arith, ints) in
    let small = nearest-within n d (2 ^ 63 - 1) positive c.requires.room in
    fits_signed_from_abs w64 (nearest n d) (omega arith)

pub overflow_cast-result : goal.overflow_cast-result
overflow_cast-result c = rw (quotient_is c) (quotient_fits c)

pub returns : goal.returns
returns c =
    let d = unsigned_abs c.args.d in
    let positive : 0 < d = omega (arith, ints) in
    let n = c.args.a *ℤ c.args.b in
    let value : to_z w64 (of_z w64 (to_z w128 (of_z w128 c.nearest_quotient.result))) ≡ nearest n d =
    rw (quotient_is c) (to_z-of_z w64 (nearest n d) (quotient_fits c)) in
    record { value = value; law = rw value (IsNearest-nearest n d positive) }
