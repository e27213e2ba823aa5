use Rattle.std.proofs.Common.{◌≡◌}
use Rattle.qz_lives.proofs.Lively.{first_true}
use Rattle.qz_lives.proofs.lives.Lives.live_after.Given as goal

abbrev pub invariant-loop-key : goal.invariant-loop-key
invariant-loop-key l = first_true l.initial.key-iterator ≡ first_true l.key-iterator
