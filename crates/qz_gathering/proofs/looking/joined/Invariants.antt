use Rattle.std.proofs.Common.{◌≡◌}
use Rattle.qz_gathering.specs.Gathering.{all_notes}
use Rattle.qz_gathering.proofs.looking.joined.Given as goal

abbrev pub invariant-loop-book : goal.invariant-loop-book
invariant-loop-book l = l.notes.items ≡ all_notes l.yielded
