use Rattle.std.proofs.Common.{◌≡◌, ◌^◌, ◌<◌, ◌≤◌}
use Rattle.qz_grading.specs.Canonical.{without_zeros}
use Rattle.qz_grading.specs.Words.{in_digits}
use Rattle.qz_grading.proofs.written.decimals_len.Given as goal

abbrev pub invariant-loop-digits : goal.invariant-loop-digits
invariant-loop-digits l = record {
  some : 0 < l.digits;
  few : l.left ≤ l.places;
  fit : l.digits < 10 ^ l.left;
  same : without_zeros (in_digits l.left l.digits) ≡ without_zeros (in_digits l.places l.part);
}

abbrev pub decreases-loop-digits : goal.decreases-loop-digits
decreases-loop-digits l = l.digits
