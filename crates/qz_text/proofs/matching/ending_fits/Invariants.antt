use Rattle.std.proofs.Common.{◌↔◌, length}
use Rattle.qz_text.specs.Gaps.{EndingFits, parts_between_gaps}
use Rattle.qz_text.proofs.matching.ending_fits.Given as goal

abbrev pub invariant-loop-part : goal.invariant-loop-part
invariant-loop-part l = EndingFits (parts_between_gaps l.parts) l.text ↔ EndingFits (parts_between_gaps l.later) l.rest

abbrev pub decreases-loop-part : goal.decreases-loop-part
decreases-loop-part l = length l.later
