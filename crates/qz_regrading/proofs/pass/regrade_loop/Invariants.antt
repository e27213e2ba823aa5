use Rattle.std.proofs.Common.{◌≤◌}
use Rattle.qz_regrading.specs.Loops.{MakesPasses}
use Rattle.qz_regrading.proofs.pass.regrade_loop.Given as goal

abbrev pub invariant-loop : goal.invariant-loop
invariant-loop g l = record {
  later : g.D.Desk.faults l.fn.desk ≤ g.D.Desk.faults l.desk;
  passes : MakesPasses g.C.Clock.tells g.D.Desk.answers g.D.Desk.lists (record { desk = l.fn.desk; clock = l.fn.clock }) (record { desk = l.desk; clock = l.clock });
}
