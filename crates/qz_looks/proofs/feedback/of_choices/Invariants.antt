use Rattle.std.proofs.Common.{◌≡◌, map, take}
use Rattle.std.specs.Prelude.{filter}
use Rattle.qz_terms.specs.Parts.{choice_feedback, nonempty}
use Rattle.qz_looks.proofs.feedback.of_choices.Given as goal

abbrev pub invariant-loop-place : goal.invariant-loop-place
invariant-loop-place l = l.items.items ≡ filter nonempty (map (choice_feedback l.choices) (take l.place-index l.places))
