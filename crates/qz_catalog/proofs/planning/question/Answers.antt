use Rattle.std.proofs.Common.{◌∙◌}
use Rattle.qz_catalog.proofs.planning.question.Goals as goal

pub returns : goal.returns
returns c = λ list follows. c.version.ensures ∙ c.follows_the_records.ensures.version list c.args.entries.now c.args.slot.now.entry c.args.slot.now.version follows
