-- What a machine of tries is seen as, and which behaviours it plays.
use Rattle.std.specs.Prelude.{ℕ, Bool, true, false, Option}
use Rattle.qz_grading.specs.declared.outcome.Behaviour.{Behaviour}
use Rattle.qz_grading.specs.declared.outcome.Behaviour.TheVariants.{Interactive, Adaptive, AdaptiveNoPenalty}
use Rattle.qz_grading.specs.declared.outcome.Outcome.{Outcome}

-- `last` is the place of the last response, and `handed_in` that of the last complete Submit. `right` is kept under the
-- adaptive behaviours alone: some try was right.
pub record Progress : Type 0 where
  pub behaviour : Behaviour
  pub outcome : Outcome
  pub last : Option ℕ
  pub handed_in : Option ℕ
  pub right : Bool
  pub finished : Bool

-- the behaviours under which the best try counts
abbrev pub is_adaptive : Behaviour → Bool
is_adaptive Adaptive = true
is_adaptive AdaptiveNoPenalty = true
is_adaptive b = false

-- the behaviours under which a student tries more than once
abbrev pub has_tries : Behaviour → Bool
has_tries Interactive = true
has_tries b = is_adaptive b
