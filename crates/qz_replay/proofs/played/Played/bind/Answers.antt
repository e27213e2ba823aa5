use Rattle.std.proofs.Common.{◌∙◌}
use Rattle.qz_replay.proofs.PlayLemmas.{behaves-alike}
use Rattle.qz_replay.proofs.played.Played.bind.Goals as goal

pub invariant_of-self : goal.invariant_of-self
invariant_of-self g c = rw c.in_err-bind.ensures.unchanged (record { bound = c.self.invariant.bound; behaviour = c.self.invariant.behaviour })

pub invariant_of-self-2 : goal.invariant_of-self-2
invariant_of-self-2 g c = record {
  bound = c.in_ok-bind.ensures.question;
  behaviour = c.in_ok-bind.ensures.behaviour ∙ c.self.invariant.behaviour ∙ behaves-alike c.self.inside.question c.args.newer c.self.inside.preferred c.in_ok-bind.ensures.taken;
}
