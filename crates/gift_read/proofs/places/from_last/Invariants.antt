use Rattle.std.proofs.Common.{◌≡◌, ◌≤◌, length}
use Rattle.std.specs.Prelude.{if◌then◌else◌}
use Rattle.gift_read.specs.Places.{is_at, from, occurs, is_last}
use Rattle.gift_read.proofs.places.from_last.Given as goal

abbrev pub invariant-loop-rest : goal.invariant-loop-rest
invariant-loop-rest l = record {
  found_so_far : from (is_last (is_at l.landmark)) l.marks ≡ (if occurs (is_at l.landmark) l.rest then from (is_last (is_at l.landmark)) l.rest else l.found);
  rest_shorter : length l.rest ≤ length l.marks;
  found_shorter : length l.found ≤ length l.marks;
}

abbrev pub decreases-loop-rest : goal.decreases-loop-rest
decreases-loop-rest l = length l.rest
