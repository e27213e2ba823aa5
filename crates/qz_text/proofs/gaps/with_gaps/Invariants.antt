use Rattle.std.proofs.Common.{◌≡◌, ◌++◌, length}
use Rattle.qz_text.specs.Gaps.{joined}
use Rattle.qz_text.specs.Patterns.{plain_parts}
use Rattle.qz_text.proofs.gaps.with_gaps.Given as goal

abbrev pub invariant-loop-sign : goal.invariant-loop-sign
invariant-loop-sign l = l.kept.items ++ joined (plain_parts l.rest) ≡ joined (plain_parts l.pattern)

abbrev pub decreases-loop-sign : goal.decreases-loop-sign
decreases-loop-sign l = length l.rest
