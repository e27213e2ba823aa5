use Rattle.std.proofs.Common.{◌≡◌, ◌+◌, ◌≤◌, length, string_bytes}
use Rattle.qz_wire.specs.Lines.{lines_of}
use Rattle.qz_replay.specs.Replayed.{with_front, steps_told}
use Rattle.qz_replay.proofs.replaying.lines_behind.Given as goal

abbrev pub invariant-loop-line : goal.invariant-loop-line
invariant-loop-line g l = record {
  goes_on : with_front (string_bytes l.out) (steps_told l.number l.played (lines_of l.rest)) ≡ with_front (string_bytes l.fn.out) (steps_told 1 l.fn.played (lines_of l.text));
  short : l.number + length l.rest ≤ length l.text + 1;
}

abbrev pub decreases-loop-line : goal.decreases-loop-line
decreases-loop-line g l = length l.rest
