use Rattle.std.proofs.Common.{◌≡◌, ◌≤◌, vec_len}
use Rattle.qz_asking.specs.Asking.{Asks}
use Rattle.qz_poll.specs.Stages.{stage_of}
use Rattle.qz_poll.specs.Steps.{work_left}
use Rattle.qz_poll.proofs.StageLemmas.{KeepsOn}
use Rattle.qz_poll.proofs.serving.Serving.advance.Given as goal

abbrev pub invariant-loop-answered : goal.invariant-loop-answered
invariant-loop-answered g l = record {
  keeps : KeepsOn (Asks g.C.Clock.tells g.D.Desk.answers) (stage_of g.L.ReadyLink l.fn.self) (stage_of g.L.ReadyLink l.self) l.answered;
  room : vec_len l.self.room ≡ vec_len l.fn.self.room;
  few : l.answered ≤ 64;
}

abbrev pub decreases-loop-answered : goal.decreases-loop-answered
decreases-loop-answered g l = work_left (stage_of g.L.ReadyLink l.self)
