use Rattle.std.proofs.Common.{◌≡◌, ◌++◌, take}
use Rattle.std.specs.Prelude.{filter}
use Rattle.qz_terms.specs.History.{is_finished}
use Rattle.qz_stats.proofs.sampling.finished_onto.Given as goal

abbrev pub invariant-loop-attempt : goal.invariant-loop-attempt
invariant-loop-attempt l = l.found.items ≡ l.initial.found.items ++ filter (is_finished l.book) (take l.attempt-index l.attempts)
