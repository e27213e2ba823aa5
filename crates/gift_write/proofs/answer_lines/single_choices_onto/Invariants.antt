use Rattle.std.proofs.Common.{◌≡◌, ◌++◌, string_bytes, length}
use Rattle.qz_grading.specs.Canonical.{single_choices}
use Rattle.gift_write.proofs.answer_lines.single_choices_onto.Given as goal

abbrev pub invariant-loop-rest : goal.invariant-loop-rest
invariant-loop-rest l =
    string_bytes l.out ++ single_choices l.default l.rest ≡ string_bytes l.initial.out ++ single_choices l.default l.choices

abbrev pub decreases-loop-rest : goal.decreases-loop-rest
decreases-loop-rest l = length l.rest
