use Rattle.std.proofs.Common.{ap, ◌∙◌}
use Rattle.qz_terms.specs.Cause.{bad_max}
use Rattle.qz_catalog.proofs.Deciding.{bad-follows}
use Rattle.qz_catalog.proofs.causes.remax_cause.Goals as goal

pub returns : goal.returns
returns c = c.bad_max.ensures ∙ bad-follows c.args.book.now.records.items c.args.book.now.entries c.slot_entry.result c.args.max c.requires.held.bank ∙ ap (λ e. bad_max c.args.book.now.records.items e c.args.max) c.slot_entry.ensures
