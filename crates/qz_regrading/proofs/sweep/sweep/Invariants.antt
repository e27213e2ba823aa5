use Rattle.qz_regrading.specs.Passes.{Meets}
use Rattle.qz_regrading.specs.Working.{WorksSo}
use Rattle.qz_regrading.proofs.Searching.{SearchedBelow}
use Rattle.qz_regrading.proofs.sweep.sweep.Given as goal

abbrev pub invariant-loop-shard : goal.invariant-loop-shard
invariant-loop-shard g l = record {
  meets : Meets (g.D.Desk.lists l.fn.desk) (g.D.Desk.lists l.desk) (g.D.Desk.faults l.fn.desk) (g.D.Desk.faults l.desk) l.fn.met l.met;
  works : WorksSo g.C.Clock.tells g.D.Desk.answers (SearchedBelow l.shard l.fn.met l.met) (record { desk = l.fn.desk; clock = l.fn.clock }) (record { desk = l.desk; clock = l.clock });
}
