use Rattle.std.proofs.Common.{◌≡◌, take}
use Rattle.std.specs.Prelude.{filter}
use Rattle.qz_terms.specs.Cause.{goes_on}
use Rattle.qz_terms.specs.Lists.{first_of}
use Rattle.qz_legal.proofs.attempts.unfinished.Given as goal

abbrev pub invariant-loop-attempt : goal.invariant-loop-attempt
invariant-loop-attempt l = l.found ≡ first_of (filter (goes_on l.book l.settings l.moment) (take l.attempt-index l.attempts))
