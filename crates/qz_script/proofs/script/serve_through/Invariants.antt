use Rattle.std.proofs.Common.{◌+◌, ◌*◌, ◌-◌, ◌<◌, length}
use Rattle.qz_asking.specs.Following.{Follows}
use Rattle.qz_script.proofs.ScriptLemmas.{IsServed}
use Rattle.qz_script.proofs.script.serve_through.Given as goal

abbrev pub invariant-loop-input : goal.invariant-loop-input
invariant-loop-input g l = record {
  served : IsServed (record { lists = g.D.Desk.lists l.fn.desk; faults = g.D.Desk.faults l.fn.desk }) (record { lists = g.D.Desk.lists l.desk; faults = g.D.Desk.faults l.desk })
      (g.S.Source.left l.fn.source) (g.S.Source.left l.source) (g.O.Sink.holds l.fn.sink) (g.O.Sink.holds l.sink)
      (g.S.Source.faults l.fn.source) (g.S.Source.faults l.source) (g.O.Sink.faults l.fn.sink) (g.O.Sink.faults l.sink) l.input l.limit;
  follows : Follows g.D.Desk.answers l.fn.desk l.desk;
  room : 0 < length l.room;
}

abbrev pub decreases-loop-input : goal.decreases-loop-input
decreases-loop-input g l = 2 * (l.limit - l.input.read) + length l.input.held
