use Rattle.std.proofs.Common.{List, Some, option_map, sym, subst, ◌≡◌}
use Rattle.std.proofs.lemmas.Result.{IfOk-weaker}
use Rattle.qz_grading.specs.declared.question.Shape.{Shape}
use Rattle.qz_grading.specs.Grading.{shape}
use Rattle.qz_terms.specs.declared.record.Event.{Event}
use Rattle.qz_terms.specs.declared.record.Learned.{Learned}
use Rattle.qz_terms.specs.declared.record.Record.{Record}
use Rattle.qz_terms.specs.History as history
use Rattle.qz_terms.specs.Legal.{EventIsAllowed, LearnsFrom, RebindAgrees, SkipAgrees}
use Rattle.qz_agreement.specs.declared.look.Verdict.{Verdict}
use Rattle.qz_agreement.specs.Fitting.{IsVerdict, IsVerdictOn}
use Rattle.qz_agreement.specs.Quizzes.{AreQuizzes}
use Rattle.qz_agreement.proofs.Verdicts.{skip-shape, start-verdict}
use Rattle.std.specs.Prelude.{take}
use Rattle.qz_agreement.proofs.look.on_event.Goals as goal

pub returns-in-Started : goal.returns-in-Started
returns-in-Started c = λ l are allowed.
    let s = c.in-Started in
    subst (λ (e : Event). IsVerdictOn c.args.catalog.now l c.args.record.now e c.under_terms.result) (sym s.is)
    (start-verdict c.args.catalog.now c.args.record.now s.quiz s.behaviour s.bounds s.learned c.under_terms.result c.under_terms.ensures)

pub returns-in-Rebound : goal.returns-in-Rebound
returns-in-Rebound c =
    let d = c.args.catalog.now in
    let r = c.args.record.now in
    let s = c.in-Rebound in
    IfOk-weaker c.on_rebound.result
    (λ (v : Verdict). (l : List Record) (learned : List Learned) → AreQuizzes c.args.quizzes.now l → IsVerdict d (λ n q. LearnsFrom (take n d) learned) (RebindAgrees d l s.job s.attempt s.slot s.bound learned) v)
    (λ (v : Verdict). (l : List Record) → AreQuizzes c.args.quizzes.now l → EventIsAllowed l r r.event → IsVerdictOn d l r r.event v)
    (λ v told. λ l are allowed. subst (λ (e : Event). IsVerdictOn d l r e v) (sym s.is) (told l s.learned are))
    c.on_rebound.ensures

pub returns-in-Skipped : goal.returns-in-Skipped
returns-in-Skipped c =
    let d = c.args.catalog.now in
    let r = c.args.record.now in
    let s = c.in-Skipped in
    IfOk-weaker c.on_skipped.result
    (λ (v : Verdict). (l : List Record) (bound : Shape) → AreQuizzes c.args.quizzes.now l → option_map shape (history.question l s.attempt s.slot) ≡ Some bound → IsVerdict d (λ n q. ⊥) (SkipAgrees d l s.job s.attempt s.slot bound s.newer) v)
    (λ (v : Verdict). (l : List Record) → AreQuizzes c.args.quizzes.now l → EventIsAllowed l r r.event → IsVerdictOn d l r r.event v)
    (λ v told. λ l are allowed. subst (λ (e : Event). IsVerdictOn d l r e v) (sym s.is)
    (told l s.bound are (skip-shape l r s.job s.attempt s.slot s.bound s.newer (subst (λ (e : Event). EventIsAllowed l r e) s.is allowed))))
    c.on_skipped.ensures
