use Rattle.std.proofs.Common.{length}
use Rattle.qz_regrading.specs.Parts.{IsPass}
use Rattle.qz_regrading.specs.Working.{WorksSo}
use Rattle.qz_regrading.proofs.Meeting.{IsPassed}
use Rattle.qz_regrading.proofs.pass.pass.Given as goal

abbrev pub invariant-loop : goal.invariant-loop
invariant-loop g l = record {
  passed : IsPassed (g.D.Desk.lists l.fn.desk) (g.D.Desk.lists l.desk) (g.D.Desk.faults l.fn.desk) (g.D.Desk.faults l.desk) l.met l.next;
  works : WorksSo g.C.Clock.tells g.D.Desk.answers (IsPass (length (g.D.Desk.lists l.desk).parts) l.met) (record { desk = l.fn.desk; clock = l.fn.clock }) (record { desk = l.desk; clock = l.clock });
}
