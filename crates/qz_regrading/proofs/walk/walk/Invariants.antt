use Rattle.qz_regrading.specs.Parts.{MeetsQuietly}
use Rattle.qz_regrading.specs.Working.{WorksSo}
use Rattle.qz_regrading.proofs.Meeting.{IsWalked}
use Rattle.qz_regrading.proofs.walk.walk.Given as goal

abbrev pub invariant-loop-shard : goal.invariant-loop-shard
invariant-loop-shard g l = record {
  walked : IsWalked (g.D.Desk.lists l.fn.desk) (g.D.Desk.lists l.desk) (g.D.Desk.faults l.fn.desk) (g.D.Desk.faults l.desk) l.fn.met l.met l.shard l.from l.next;
  works : WorksSo g.C.Clock.tells g.D.Desk.answers (MeetsQuietly l.fn.met l.met) (record { desk = l.fn.desk; clock = l.fn.clock }) (record { desk = l.desk; clock = l.clock });
}
