use Rattle.std.proofs.Common.{◌≤◌, sym, ◌∙◌}
use Rattle.std.proofs.lemmas.Bool.{leb-true}
use Rattle.qz_grading.specs.Canonical.{canonical_size}
use Rattle.qz_grading.specs.declared.limits.TheConstants.{MOST_TOGETHER}
use Rattle.gift_read.proofs.FaultLemmas.{told_nothing}
use Rattle.gift_read.proofs.faults.late_fault.Goals as goal

pub returns-in-None : goal.returns-in-None
returns-in-None c =
    let b = c.args.block.now in
    let none = rw c.requires.spelled at (sym c.in-None.is ∙ c.in_ok-rule.ensures) in
    let short : canonical_size c.args.built.now ≤ MOST_TOGETHER = leb-true (canonical_size c.args.built.now) MOST_TOGETHER (sym c.if-canonical_size_is_at_most.ensures) in
    told_nothing b c.requires.asked c.requires.whole none (rw c.requires.spelled at short)
