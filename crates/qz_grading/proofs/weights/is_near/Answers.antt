use Rattle.std.proofs.Common.{◌≡◌, ◌<◌, ◌^◌, ◌+ℤ◌, ◌-ℤ◌, to_z, of_z, rules, unsigned_abs}
use Rattle.std.specs.Int.{w128}
use Rattle.std.proofs.Math.Facts.{to_z-of_z}
use Rattle.std.proofs.lemmas.Bool.{ltb-true}
use Rattle.qz_grading.proofs.weights.is_near.Goals as goal

pub returns : goal.returns
returns c =
    let near_centre : unsigned_abs c.args.centre < 10 ^ 25 = ltb-true _ _ c.requires.centre in
    let near_slack : unsigned_abs c.args.slack < 10 ^ 25 = ltb-true _ _ c.requires.slack in
    let a : to_z w128 (of_z w128 c.args.centre) ≡ c.args.centre = to_z-of_z {w = w128} {z = c.args.centre} c.ranges.centre in
    let b : to_z w128 (of_z w128 c.args.slack) ≡ c.args.slack = to_z-of_z {w = w128} {z = c.args.slack} c.ranges.slack in
    let n : to_z w128 (of_z w128 c.args.number) ≡ c.args.number = to_z-of_z {w = w128} {z = c.args.number} c.ranges.number in
    let low : to_z w128 (of_z w128 (c.args.centre -ℤ c.args.slack)) ≡ c.args.centre -ℤ c.args.slack = to_z-of_z {w = w128} {z = c.args.centre -ℤ c.args.slack} (search rules) in
    let high : to_z w128 (of_z w128 (c.args.centre +ℤ c.args.slack)) ≡ c.args.centre +ℤ c.args.slack = to_z-of_z {w = w128} {z = c.args.centre +ℤ c.args.slack} (search rules) in
    cc
