use Rattle.std.proofs.Common.{length}
use Rattle.std.specs.Prelude.{filter}
use Rattle.qz_terms.specs.History.{attempt_before}
use Rattle.qz_book.specs.Cursors.{IsPassed}
use Rattle.qz_book.proofs.TargetLemmas.{attempts_of}
use Rattle.qz_book.proofs.targets.first_target.Given as goal

abbrev pub invariant-loop-attempt : goal.invariant-loop-attempt
invariant-loop-attempt l = IsPassed l.book l.quiz l.job l.position l.passed

abbrev pub decreases-loop-attempt : goal.decreases-loop-attempt
decreases-loop-attempt l = length (filter (attempt_before l.passed) (attempts_of l.book l.quiz))
