use Rattle.std.proofs.Common.{◌∙◌}
use Rattle.qz_catalog.proofs.planning.version.Goals as goal

pub returns : goal.returns
returns c = c.version.ensures ∙ c.follows_the_records.ensures.version c.args.book.now.records.items c.args.book.now.entries c.args.entry c.args.number c.requires.held.bank
