use Rattle.std.proofs.Common.{◌≡◌, length}
use Rattle.qz_wire.specs.Words.{unescaped}
use Rattle.qz_wire.proofs.GatheringLemmas.{in_front}
use Rattle.qz_wire.proofs.escapes.unescaped.Given as goal

abbrev pub invariant-loop-rest : goal.invariant-loop-rest
invariant-loop-rest l = in_front l.items.items (unescaped l.rest) ≡ unescaped l.word

abbrev pub decreases-loop-rest : goal.decreases-loop-rest
decreases-loop-rest l = length l.rest
