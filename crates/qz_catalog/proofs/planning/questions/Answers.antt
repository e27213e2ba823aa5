use Rattle.std.proofs.Common.{[], ◌∷◌, ◌++◌, Some, None, option_copied, sym, ap, ◌∙◌, append-nil}
use Rattle.qz_grading.specs.declared.question.Question.{Question}
use Rattle.qz_catalog.proofs.Plans.{questions-more}
use Rattle.qz_catalog.proofs.planning.questions.Goals.{in-Some+in_ok-try_copy+in_ok-push, in_default}
use Rattle.qz_catalog.proofs.planning.questions.Goals as goal

pub loop-slot-preserved : goal.loop-slot-preserved
loop-slot-preserved c =
    let list = c.args.records.now in
    let told = c.question.ensures list c.requires in
    elim c.match-question.branch [
      | in-Some+in_ok-try_copy+in_ok-push w ↦ rw w.items-is (questions-more list c.args.slots.now c.loop-slot.slot-index c.slot-item.result c.loop-slot.items.items _ (Some w.in-Some.question.now) c.loop-slot-test.true c.slot-item.is (ap option_copied (sym w.in-Some.is) ∙ told) c.loop-slot.invariant
          (w.in_ok-push.ensures.items ∙ ap (λ (q : Question). c.loop-slot.items.items ++ q ∷ []) w.in_ok-try_copy.ensures))
      | in_default w ↦ rw w.items-is (questions-more list c.args.slots.now c.loop-slot.slot-index c.slot-item.result c.loop-slot.items.items _ None c.loop-slot-test.true c.slot-item.is (ap option_copied (sym w.in_default.is) ∙ told) c.loop-slot.invariant (sym (append-nil c.loop-slot.items.items)))
    ]
