use Rattle.qz_agreement.proofs.Sweeping.{IsSweeping}
use Rattle.qz_agreement.proofs.sweep.sweep.Given as goal

abbrev pub invariant-loop-claim : goal.invariant-loop-claim
invariant-loop-claim l = IsSweeping l.whole l.records l.claims l.fn.found l.last l.first l.claim-index
