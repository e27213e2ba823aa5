use Rattle.std.proofs.Common.{Option, ap, ◌∙◌}
use Rattle.std.specs.Option.{option_or}
use Rattle.qz_grading.specs.declared.refusal.Refusal.{Refusal}
use Rattle.qz_terms.specs.Cause.{too_many}
use Rattle.qz_catalog.proofs.Deciding.{all-first, bad-follows}
use Rattle.qz_catalog.proofs.causes.slot_cause.Goals as goal

pub returns : goal.returns
returns c =
    c.or-2.ensures ∙ ap (λ (o : Option Refusal). option_or o c.too_many.result) c.or.ensures
    ∙ all-first c.already_ready.result c.bad_max.result c.too_many.result _ _ _ c.already_ready.ensures
    (c.bad_max.ensures ∙ bad-follows c.args.book.now.records.items c.args.book.now.entries c.args.entry c.args.max c.requires.held.bank)
    (c.too_many.ensures ∙ ap (too_many 200) c.slot_count.ensures)
