use Rattle.qz_asking.specs.Following.{stays}
use Rattle.qz_script.proofs.ScriptLemmas.{none_served}
use Rattle.qz_script.proofs.script.serve_or_stop.Goals as goal

pub returns-in_default-clause-ended : goal.returns-in_default-clause-ended
returns-in_default-clause-ended g c = none_served c.args.limit _ _ _ _ _

pub returns-in_default-clause-follows : goal.returns-in_default-clause-follows
returns-in_default-clause-follows g c = stays _
