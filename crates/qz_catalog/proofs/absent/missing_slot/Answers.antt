use Rattle.std.proofs.Common.{ap, ◌∙◌}
use Rattle.std.specs.Prelude.{is_none}
use Rattle.qz_grading.specs.Behaviours.{when}
use Rattle.qz_grading.specs.Grading.{at_place}
use Rattle.qz_grading.specs.declared.refusal.Refusal.TheVariants as refusal
use Rattle.qz_grading.specs.declared.refusal.Thing.TheVariants as thing
use Rattle.qz_terms.specs.Catalog.{slots}
use Rattle.qz_roster.proofs.Telling.{missing-by}
use Rattle.qz_catalog.proofs.absent.missing_slot.Goals as goal

pub returns : goal.returns
returns c =
    c.missing.ensures ∙ missing-by (slots c.args.book.now.records.items c.args.quiz) c.slot_count.result c.from.result (refusal.Unknown thing.Slot) c.slot_count.ensures
    ∙ ap (λ n. when (is_none (at_place (slots c.args.book.now.records.items c.args.quiz) n)) (refusal.Unknown thing.Slot)) c.from.ensures
