use Rattle.std.proofs.Common.{None, sym, ◌∙◌}
use Rattle.qz_terms.specs.Access.{finish_cause}
use Rattle.qz_terms.specs.History.{ended_at, start}
use Rattle.qz_book.proofs.ReadingLemmas.{begun-cause}
use Rattle.qz_legal.proofs.times.finish_time.Goals as goal

pub returns-in_err-begun : goal.returns-in_err-begun
returns-in_err-begun c =
    c.from_residual.ensures
    ∙ sym (begun-cause (λ began. finish_cause c.args.settings.now began c.args.moment (ended_at c.args.book.now c.args.attempt)) (start c.args.book.now c.args.attempt) None (sym c.in_err-begun.was ∙ c.begun.ensures.value))
