use Rattle.std.proofs.Common.{◌≡◌, FitsSigned, to_z, of_z, rules, sym, ◌∙◌}
use Rattle.std.specs.Int.{w128}
use Rattle.std.proofs.lemmas.Int.{to_z-of_z}
use Rattle.qz_decimal.specs.Numbers.{nearest}
use Rattle.qz_decimal.proofs.Nearest.{IsNearest-nearest, IsNearest-only, signed-nearest}
use Rattle.qz_decimal.proofs.quotient.nearest_quotient.Goals as goal

pub returns : goal.returns
returns c =
    let n = c.args.n in
    let d = c.args.d in
    let fits : FitsSigned w128 c.with_sign.result = search rules in
    let value : to_z w128 (of_z w128 c.with_sign.result) ≡ nearest n d =
    rw (to_z-of_z w128 c.with_sign.result fits, c.with_sign.ensures, c.nearest_natural.ensures.value, c.unsigned_abs.ensures.value, to_z-of_z w128 n c.ranges.n) (signed-nearest n d) in
    let law = IsNearest-nearest n d c.requires.divisor in
    record { value = value; law = rw value law; only = λ q nearest_too. IsNearest-only n d q (nearest n d) c.requires.divisor nearest_too law ∙ sym value }
