use Rattle.std.proofs.Common.{◌∷◌, [], ◌++◌, List, take, sym, ap, ◌∙◌}
use Rattle.qz_grading.specs.declared.question.Question.{Question}
use Rattle.qz_terms.specs.declared.record.Learned.{Learned}
use Rattle.qz_terms.specs.Answer.{learned_as, new_versions}
use Rattle.qz_legal.proofs.Learning.{learned_all, new_versions-new, new_versions-old, learned-whole}
use Rattle.qz_shard.proofs.starting.learned_of.Goals.{then-is_new+in_ok-try_copy+in_ok-push, else-is_new}
use Rattle.qz_shard.proofs.starting.learned_of.Goals as goal

pub loop-place-preserved : goal.loop-place-preserved
loop-place-preserved c =
    elim c.if-is_new.branch [
      | then-is_new+in_ok-try_copy+in_ok-push w ↦
          let more = new_versions-new c.args.book.now c.args.slots.now c.args.questions.now c.loop-place.place c.index-slots-place.result w.index-questions-place.result c.requires c.loop-place-test.true c.index-slots-place.is w.index-questions-place.is (sym c.is_new.ensures ∙ w.if-is_new.true) in
          rw w.items-is (w.in_ok-push.ensures.items
          ∙ ap (λ (t : List Learned). t ++ learned_as (c.index-slots-place.result, w.in_ok-try_copy.field-0) ∷ []) c.loop-place.invariant
          ∙ ap (λ (q : Question). new_versions c.args.book.now (take c.loop-place.place (learned_all c.args.slots.now c.args.questions.now)) ++ learned_as (c.index-slots-place.result, q) ∷ []) w.in_ok-try_copy.ensures
          ∙ sym more)
      | else-is_new w ↦
          rw w.items-is (c.loop-place.invariant ∙ sym (new_versions-old c.args.book.now c.args.slots.now c.args.questions.now c.loop-place.place c.index-slots-place.result c.requires c.loop-place-test.true c.index-slots-place.is (sym c.is_new.ensures ∙ w.if-is_new.false)))
    ]

pub returns : goal.returns
returns c = c.loop-place.invariant ∙ ap (new_versions c.args.book.now) (learned-whole c.args.slots.now c.args.questions.now c.loop-place.place c.requires c.loop-place-test.false)
