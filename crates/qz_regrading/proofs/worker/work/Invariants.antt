use Rattle.std.proofs.Common.{◌≤◌}
use Rattle.qz_regrading.specs.Parts.{IsWork}
use Rattle.qz_regrading.specs.Workers.{KeepsParts}
use Rattle.qz_regrading.specs.Working.{WorksSo}
use Rattle.qz_regrading.proofs.worker.work.Given as goal

abbrev pub invariant-loop : goal.invariant-loop
invariant-loop g l = record {
  keeps : KeepsParts (g.D.Desk.lists l.fn.desk) (g.D.Desk.lists l.desk);
  later : g.D.Desk.faults l.fn.desk ≤ g.D.Desk.faults l.desk;
  works : WorksSo g.C.Clock.tells g.D.Desk.answers (IsWork 0) (record { desk = l.fn.desk; clock = l.fn.clock }) (record { desk = l.desk; clock = l.clock });
}
