use Rattle.std.proofs.Common.{ap, sym, ◌∙◌}
use Rattle.std.specs.Prelude.{option_copied}
use Rattle.qz_catalog.proofs.Granting.{moment-told}
use Rattle.qz_catalog.proofs.putting.moment_of.Goals as goal

pub returns-in-Some : goal.returns-in-Some
returns-in-Some c = c.max.ensures ∙ moment-told c.args.records.now c.args.now c.in-Some.record.now (sym c.last.ensures.value ∙ ap option_copied c.in-Some.is)
