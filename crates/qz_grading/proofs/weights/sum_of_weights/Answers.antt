use Rattle.std.proofs.Common.{arith}
use Rattle.std.proofs.lemmas.Int.{ints, to_z-of_z}
use Rattle.qz_grading.proofs.WeightLemmas.{sum_more}
use Rattle.qz_grading.proofs.weights.sum_of_weights.Goals as goal

pub loop-place-preserved : goal.loop-place-preserved
loop-place-preserved c = record {
  value = let more = sum_more c.args.choices.now c.args.places.now c.loop-place.place-index c.loop-place-test.true in grind (arith, ints, to_z-of_z, more);
  least = omega (arith, ints);
  greatest = omega (arith, ints);
}
