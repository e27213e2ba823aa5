use Rattle.std.proofs.Common.{◌≡◌, take}
use Rattle.qz_agreement.proofs.sweep.grow.Given as goal

abbrev pub invariant-loop-place : goal.invariant-loop-place
invariant-loop-place l = l.first ≡ take l.place l.whole
