use Rattle.std.proofs.Common.{◌≡◌, ◌+◌, ◌≤◌}
use Rattle.qz_lives.proofs.Loops.{FinishedTo}
use Rattle.qz_lives.proofs.live.Live.finish.Given as goal

abbrev pub invariant-loop-place : goal.invariant-loop-place
invariant-loop-place g l = record {
  finished : FinishedTo (g.V.Versions.version_of l.versions) l.initial.self.slots l.self.slots l.place;
  rest : l.self ≡ record l.initial.self { slots = l.self.slots };
  count : l.steps ≤ l.initial.steps + l.place;
}
