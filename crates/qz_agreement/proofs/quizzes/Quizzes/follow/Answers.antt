use Rattle.std.proofs.Common.{ap, sym, ◌∙◌}
use Rattle.qz_terms.specs.History.{start_by}
use Rattle.qz_agreement.proofs.Mapped.{nothing-there, quiz-kept, quiz-other, quiz-put, none-started}
use Rattle.qz_agreement.proofs.quizzes.Quizzes.follow.Goals as goal

pub returns-in_ok-insert : goal.returns-in_ok-insert
returns-in_ok-insert c = λ l are.
    quiz-put c.args.self.now (record { quizzes = c.insert.new.self }) l c.args.record.now _ (ap (start_by c.args.record.now) c.in-Started.is)
    (nothing-there _ (sym c.contains_key.ensures ∙ c.if-not-contains_key.true)) c.in_ok-insert.ensures.updates are

pub returns-else-not-contains_key : goal.returns-else-not-contains_key
returns-else-not-contains_key c = λ l are.
    quiz-kept c.args.self.now l c.args.record.now _ (ap (start_by c.args.record.now) c.in-Started.is) (sym c.contains_key.ensures ∙ c.if-not-contains_key.false) are

pub returns-in_default : goal.returns-in_default
returns-in_default c = λ l are. quiz-other c.args.self.now l c.args.record.now (none-started c.args.record.now c.args.record.now.event c.in_default.not-Started) are
