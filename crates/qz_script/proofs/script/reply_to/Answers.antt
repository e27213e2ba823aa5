use Rattle.qz_asking.specs.Following.{stays}
use Rattle.qz_asking.proofs.Following.{follows_one}
use Rattle.qz_script.proofs.script.reply_to.Goals as goal

pub returns-in-Ok-clause-follows : goal.returns-in-Ok-clause-follows
returns-in-Ok-clause-follows g c = follows_one _ _ _ _ _ _ c.ask.ensures

pub returns-in-Err-Malformed-clause-follows : goal.returns-in-Err-Malformed-clause-follows
returns-in-Err-Malformed-clause-follows g c = stays _

pub returns-in-Err-Memory-clause-follows : goal.returns-in-Err-Memory-clause-follows
returns-in-Err-Memory-clause-follows g c = stays _
