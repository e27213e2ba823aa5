use Rattle.std.proofs.Common.{◌≡◌, ◌^◌, ◌<◌}
use Rattle.qz_grading.specs.Words.{without_zeros, in_digits}
use Rattle.qz_grading.proofs.spelled.decimals_onto.Given as goal

abbrev pub invariant-loop-digits : goal.invariant-loop-digits
invariant-loop-digits l = record {
  some : 0 < l.digits;
  fit : l.digits < 10 ^ l.places;
  same : without_zeros (in_digits l.places l.digits) ≡ without_zeros (in_digits 10 l.part);
}

abbrev pub decreases-loop-digits : goal.decreases-loop-digits
decreases-loop-digits l = l.digits
