use Rattle.qz_script.proofs.ScriptLemmas.{answers}
use Rattle.qz_script.proofs.script.answer.Goals as goal

pub returns-in-Ok-clause-answered : goal.returns-in-Ok-clause-answered
returns-in-Ok-clause-answered g c = answers _ _ _ _ _ _ c.args.line.now c.in-Ok.reply c.say.result c.in-Ok.ensures.goes c.say.ensures
