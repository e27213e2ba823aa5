use Rattle.std.proofs.Common.{◌∙◌}
use Rattle.qz_grading.specs.declared.refusal.Refusal.TheVariants as refusal
use Rattle.qz_grading.specs.declared.refusal.Thing.TheVariants as thing
use Rattle.qz_terms.specs.Catalog.{groups}
use Rattle.qz_roster.proofs.Telling.{missing-by}
use Rattle.qz_catalog.proofs.missing.missing_group.Goals as goal

pub returns : goal.returns
returns c = c.missing.ensures ∙ missing-by (groups c.args.book.now.records.items) c.groups.result c.args.group (refusal.Unknown thing.Group) (c.groups.ensures.value c.args.book.now.records.items c.requires.roster.counts)
