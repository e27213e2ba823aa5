-- How the parts of a record are seen.
use Rattle.std.specs.Prelude.{ℕ, List}
use Rattle.qz_grading.specs.declared.outcome.Behaviour.{Behaviour}
use Rattle.qz_roster.specs.declared.told.Named.{Named}

-- the name and behaviour of a quiz
abbrev pub named_in : Named → List ℕ × Behaviour
named_in n = (n.name.now, n.behaviour)
