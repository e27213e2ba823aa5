use Rattle.std.proofs.Common.{◌≡◌, ◌-◌, ◌<◌, length}
use Rattle.std.specs.Prelude.{Contains}
use Rattle.qz_script.proofs.InputLemmas.{IsBegun}
use Rattle.qz_script.proofs.script_input.ScriptInput.next.Given as goal

abbrev pub invariant-loop-longer : goal.invariant-loop-longer
invariant-loop-longer g l = record {
  begun : IsBegun l.fn.self l.self (g.S.Source.left l.fn.source) (g.S.Source.left l.source) (g.S.Source.faults l.fn.source) (g.S.Source.faults l.source) l.line;
  room : 0 < length l.room;
  prompt : Contains l.fn.self.held 10 → (l.source ≡ l.fn.source) × (l.self.held ≡ l.fn.self.held);
}

abbrev pub decreases-loop-longer : goal.decreases-loop-longer
decreases-loop-longer g l = l.self.limit - l.self.read
