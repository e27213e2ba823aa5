-- What plays a slot: one of the two machines, by its behaviour.
use Rattle.std.specs.Prelude.{List}
use Rattle.qz_grading.specs.declared.outcome.Behaviour.{Behaviour}
use Rattle.qz_grading.specs.declared.outcome.Outcome.{Outcome}
use Rattle.qz_grading.specs.declared.question.Question.{Question}
use Rattle.qz_grading.specs.declared.response.Step.{Step}
use Rattle.qz_behave.specs.Machines as machines
use Rattle.qz_tries.specs.After as tries
use Rattle.qz_usage.specs.declared.player.Player.{Player}
use Rattle.qz_usage.specs.declared.player.Player.TheVariants as player

abbrev pub played_behaviour : Player → Behaviour
played_behaviour (player.Once m) = m.behaviour
played_behaviour (player.Tries m) = m.behaviour

abbrev pub played_outcome : Player → Outcome
played_outcome (player.Once m) = m.outcome
played_outcome (player.Tries m) = m.outcome

-- it has followed these steps of this question
abbrev pub HasPlayed : Player → Question → List Step → Type 0
HasPlayed (player.Once m) q s = machines.IsAfter m q s
HasPlayed (player.Tries m) q s = tries.IsAfter m q s
