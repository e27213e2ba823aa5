use Rattle.std.proofs.Common.{rules, arith}
use Rattle.std.specs.Int.{w64}
use Rattle.std.proofs.lemmas.Int.{ints, fits_signed_from_abs}
use Rattle.qz_decimal.proofs.Nearest.{divided, shown, rescale-room}
use Rattle.qz_decimal.proofs.marks.rescale.Goals as goal

pub nearest_product-requires-clause-room : goal.nearest_product-requires-clause-room
nearest_product-requires-clause-room c =
    let mark = shown w64 c.mark.inside.0 c.args.mark c.mark.view_is (fits_signed_from_abs w64 c.args.mark (omega (arith, ints, c.requires.mark, c.requires.given))) in
    let given = shown w64 c.given.inside.0 c.args.given c.given.view_is (fits_signed_from_abs w64 c.args.given (omega (arith, ints, c.requires.given))) in
    let max = shown w64 c.max.inside.0 c.args.max c.max.view_is (fits_signed_from_abs w64 c.args.max (omega (arith, ints, c.requires.max))) in
    rw (mark, given, max) (rescale-room c.args.mark c.args.given c.args.max c.requires.mark c.requires.max)

pub returns-clause-value : goal.returns-clause-value
returns-clause-value c = divided c.args.given _ _ (rw c.given.view_is at c.if-given-eq0.false) (search rules)
