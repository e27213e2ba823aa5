use Rattle.std.proofs.Common.{◌≡◌, ◌<◌, ◌≤◌, length, take}
use Rattle.qz_grading.specs.Grading.{answers}
use Rattle.qz_grading.proofs.matching.answer_at.Given as goal

abbrev pub invariant-loop-index : goal.invariant-loop-index
invariant-loop-index l = record {
  value : l.count ≡ length (answers (take l.index l.pairs));
  few : l.count ≤ l.index;
  before : 0 < l.place → l.count < l.place;
}
