use Rattle.std.proofs.Common.{sym, ◌∙◌}
use Rattle.qz_catalog.proofs.Slots.{ready-nowhere, ready-there}
use Rattle.qz_catalog.proofs.quizzes.ready_at.Goals as goal

pub returns-in_err-before : goal.returns-in_err-before
returns-in_err-before c = c.from_residual.ensures ∙ sym (ready-nowhere c.args.book.now.records.items c.args.quiz (sym c.ready_maker.ensures.value ∙ c.in_err-before.was))

pub returns : goal.returns
returns c = sym (ready-there c.args.book.now.records.items c.args.quiz c.in_ok-before.before (sym c.ready_maker.ensures.value ∙ c.in_ok-before.was))
