use Rattle.std.proofs.Common.{◌≡◌, take}
use Rattle.std.specs.Prelude.{IfSome, filter_map}
use Rattle.qz_terms.specs.Rows.{IsTotal, greatest_total}
use Rattle.qz_gradebook.specs.Totals.{total}
use Rattle.qz_gradebook.proofs.methods.greatest.Given as goal

abbrev pub invariant-loop-attempt : goal.invariant-loop-attempt
invariant-loop-attempt l = (l.best ≡ greatest_total (filter_map total (take l.attempt-index l.attempts))) × IfSome l.best IsTotal
