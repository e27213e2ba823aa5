use Rattle.qz_regrading.specs.Passes.{Meets}
use Rattle.qz_regrading.specs.Working.{WorksSo}
use Rattle.qz_regrading.proofs.Searching.{Searching}
use Rattle.qz_regrading.proofs.sweep.sweep_shard.Given as goal

abbrev pub invariant-loop-looks : goal.invariant-loop-looks
invariant-loop-looks g l = record {
  meets : Meets (g.D.Desk.lists l.fn.desk) (g.D.Desk.lists l.desk) (g.D.Desk.faults l.fn.desk) (g.D.Desk.faults l.desk) l.fn.met l.met;
  works : WorksSo g.C.Clock.tells g.D.Desk.answers (Searching l.shard l._looks l.attempt l.fn.met l.met) (record { desk = l.fn.desk; clock = l.fn.clock }) (record { desk = l.desk; clock = l.clock });
}
