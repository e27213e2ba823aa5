use Rattle.std.proofs.Common.{◌≡◌, length, take}
use Rattle.qz_school.specs.Solos.{lists_in}
use Rattle.qz_gathering.specs.Marking.{AreMarked}
use Rattle.qz_gathering.proofs.marks.mark_all.Given as goal

abbrev pub invariant-loop-note : goal.invariant-loop-note
invariant-loop-note g l = record {
  marked : AreMarked (lists_in l.solo) l.base (take l.note-index l.notes) l.marks;
  count : length l.marks.parts.items ≡ length l.initial.marks.parts.items;
}
