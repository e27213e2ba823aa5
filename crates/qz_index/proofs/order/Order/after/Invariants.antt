use Rattle.std.proofs.Common.{◌≡◌}
use Rattle.qz_index.proofs.OrderLemmas.{first_true}
use Rattle.qz_index.proofs.order.Order.after.Given as goal

abbrev pub invariant-loop-key : goal.invariant-loop-key
invariant-loop-key l = first_true l.initial.key-iterator ≡ first_true l.key-iterator
