use Rattle.std.proofs.Common.{sym, ◌∙◌}
use Rattle.qz_catalog.proofs.Slots.{ready-told}
use Rattle.qz_catalog.proofs.quizzes.is_ready.Goals as goal

pub returns : goal.returns
returns c = c.is_some.ensures ∙ ready-told c.args.book.now.records.items c.args.quiz c.ready_maker.result (sym c.ready_maker.ensures.value)
