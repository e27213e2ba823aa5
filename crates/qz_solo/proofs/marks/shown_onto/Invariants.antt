use Rattle.std.proofs.Common.{◌≡◌, ◌++◌, take}
use Rattle.std.specs.Prelude.{filter_map}
use Rattle.qz_solo.specs.Marks.{shown_mark}
use Rattle.qz_solo.proofs.marks.shown_onto.Given as goal

abbrev pub invariant-loop-part : goal.invariant-loop-part
invariant-loop-part l = l.marks ≡ l.initial.marks ++ filter_map shown_mark (take l.part-index l.parts)
