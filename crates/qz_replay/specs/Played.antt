-- A run of a slot and the question that it is lent are the slot that is seen.
use Rattle.std.specs.Prelude.{◌≡◌}
use Rattle.qz_grading.specs.Behaviours.{behaviour_for}
use Rattle.qz_usage.specs.Runs.{behaviour_of, IsBound}
use Rattle.qz_replay.specs.declared.played.Played.TheInside.{Inside}

pub record IsInStep (p : Inside) : Type 0 where
  pub bound : IsBound p.run p.question
  pub behaviour : behaviour_of p.run ≡ behaviour_for p.question.kind p.preferred
