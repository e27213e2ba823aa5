use Rattle.std.proofs.Common.{ap, sym, ◌∙◌}
use Rattle.qz_terms.specs.Cause.{missing_in}
use Rattle.qz_catalog.proofs.Deciding.{both-first, entry-follows, version-told}
use Rattle.qz_catalog.proofs.absent.missing_in.Goals as goal

pub returns-in-Slot : goal.returns-in-Slot
returns-in-Slot c =
    c.or-in-Slot.ensures
    ∙ both-first c.missing_quiz.result c.missing_entry-in-Slot.result _ _ c.missing_quiz.ensures (c.missing_entry-in-Slot.ensures ∙ entry-follows c.args.book.now.records.items c.args.book.now.entries c.in-Slot.entry c.requires.indexed.held.bank)
    ∙ ap (missing_in c.args.book.now.records.items) (sym c.in-Slot.is)

pub returns-in-Bank : goal.returns-in-Bank
returns-in-Bank c =
    c.or-in-Bank.ensures
    ∙ both-first c.missing_entry-in-Bank.result c.missing_version.result _ _ (c.missing_entry-in-Bank.ensures ∙ entry-follows c.args.book.now.records.items c.args.book.now.entries c.in-Bank.entry c.requires.indexed.held.bank)
    (c.missing_version.ensures ∙ version-told c.args.book.now.records.items c.args.book.now.entries c.in-Bank.entry c.in-Bank.version c.requires.indexed.held.bank)
    ∙ ap (missing_in c.args.book.now.records.items) (sym c.in-Bank.is)

pub returns-in-Edit : goal.returns-in-Edit
returns-in-Edit c = c.missing_entry.ensures ∙ entry-follows c.args.book.now.records.items c.args.book.now.entries c.in-Edit.entry c.requires.indexed.held.bank ∙ ap (missing_in c.args.book.now.records.items) (sym c.in-Edit.is)

pub returns-in-Tune : goal.returns-in-Tune
returns-in-Tune c = c.missing_entry-in-Tune.ensures ∙ entry-follows c.args.book.now.records.items c.args.book.now.entries c.in-Tune.entry c.requires.indexed.held.bank ∙ ap (missing_in c.args.book.now.records.items) (sym c.in-Tune.is)
