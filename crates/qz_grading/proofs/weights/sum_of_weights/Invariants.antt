use Rattle.std.proofs.Common.{◌≡◌, ◌*◌, take, map, pos, neg_ℤ, ◌+ℤ◌, ◌≤ℤ◌, fold}
use Rattle.qz_decimal.specs.Numbers.{one}
use Rattle.qz_grading.specs.Grading.{weight_at}
use Rattle.qz_grading.proofs.weights.sum_of_weights.Given as goal

abbrev pub invariant-loop-place : goal.invariant-loop-place
invariant-loop-place l = record {
  value : l.sum ≡ fold ◌+ℤ◌ (pos 0) (map (weight_at l.choices) (take l.place-index l.places));
  least : neg_ℤ (pos (one * l.place-index)) ≤ℤ l.sum;
  greatest : l.sum ≤ℤ pos (one * l.place-index);
}
