use Rattle.std.proofs.Common.{◌≡◌, ◌*ℤ◌, ◌*◌, ◌≤◌, FitsSigned, to_z, of_z, rules, arith, refl, ◌∙◌}
use Rattle.std.specs.Prelude.{unsigned_abs}
use Rattle.std.specs.Int.{w64, w128}
use Rattle.std.proofs.lemmas.Int.{ints, to_z-of_z, fits_signed_from_abs}
use Rattle.std.proofs.lemmas.Nat.{mul-le}
use Rattle.qz_decimal.specs.Numbers.{nearest}
use Rattle.qz_decimal.proofs.Nearest.{IsNearest-nearest, divided, shown, grade-room, grade-product}
use Rattle.qz_decimal.proofs.marks.grade_of.Goals as goal
use Rattle.qz_decimal.proofs.marks.grade_of.Goals.{After-nearest_quotient}

pub nearest_quotient-requires-clause-room : goal.nearest_quotient-requires-clause-room
nearest_quotient-requires-clause-room c =
    rw (grade-product c.args.total c.grade.inside.0 c.args.grade c.args.count c.ranges.total c.grade.view_is c.requires.total c.ranges.count.fits c.requires.grade)
    (grade-room c.args.total c.args.grade c.args.count c.requires.total c.ranges.count.fits c.requires.grade)

quotient_is : (c : After-nearest_quotient) → to_z w128 (of_z w128 c.nearest_quotient.result) ≡ nearest (c.args.total *ℤ c.args.grade) (c.args.count * unsigned_abs c.args.sum)
quotient_is c =
    let result_fits : FitsSigned w128 c.nearest_quotient.result = search rules in
    let product = grade-product c.args.total c.grade.inside.0 c.args.grade c.args.count c.ranges.total c.grade.view_is c.requires.total c.ranges.count.fits c.requires.grade in
    let sum = shown w64 c.sum.inside.0 c.args.sum c.sum.view_is (fits_signed_from_abs w64 c.args.sum (omega (arith, ints, c.requires.sum))) in
    to_z-of_z w128 c.nearest_quotient.result result_fits ∙ c.nearest_quotient.ensures.value ∙ rw (product, sum, c.from.ensures) refl

pub returns : goal.returns
returns c =
    let value = quotient_is c in
    record {
      value = divided c.args.sum _ _ (rw c.sum.view_is at c.if-sum-eq0.false) value;
      nearest = λ not_zero.
          let size : 1 ≤ unsigned_abs c.args.sum = omega (arith, ints, not_zero) in
          rw value (IsNearest-nearest (c.args.total *ℤ c.args.grade) (c.args.count * unsigned_abs c.args.sum) (mul-le 1 1 c.args.count (unsigned_abs c.args.sum) c.requires.count size));
    }
