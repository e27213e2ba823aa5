use Rattle.std.proofs.Common.{◌≡◌, length}
use Rattle.qz_wire.specs.Answers.{numbers_of}
use Rattle.qz_wire.proofs.GatheringLemmas.{in_front}
use Rattle.qz_wire.proofs.answers.numbers_in.Given as goal

abbrev pub invariant-loop-part : goal.invariant-loop-part
invariant-loop-part l = in_front l.items.items (numbers_of l.low l.rest) ≡ numbers_of l.low l.word

abbrev pub decreases-loop-part : goal.decreases-loop-part
decreases-loop-part l = length l.rest
