use Rattle.std.proofs.Common.{Some, Result, Ok, sym, subst, ◌∙◌}
use Rattle.qz_grading.specs.declared.outcome.Moved.{Moved}
use Rattle.qz_grading.specs.declared.refusal.Refusal.{Refusal}
use Rattle.qz_lives.specs.Attempts.{slot_of}
use Rattle.qz_terms.specs.History.{slot}
use Rattle.qz_book.specs.Plays.{IsMove, IsSlot}
use Rattle.qz_shard.proofs.StepLemmas.{fate-taken}
use Rattle.qz_book.proofs.SlotLemmas.{slot-some}
use Rattle.qz_shard.proofs.stepping.fate_of_step.Goals as goal

pub slot_there-played-requires : goal.slot_there-played-requires
slot_there-played-requires c = slot-some c.args.book.now c.args.user.now c.args.attempt c.args.place c.requires.sound c.requires.there

pub returns-in-Ok : goal.returns-in-Ok
returns-in-Ok c =
    let h = c.args.book.now in
    let a = c.args.attempt in
    let k = c.args.place in
    let played = c.slot_there-played.result in
    let here : IsSlot (Some played) (slot h a k) = c.slot_there-played.ensures in
    let s = slot_of played.run.now played.question.now in
    let moves : IsMove s c.args.step (Ok c.in-Ok.moved) = subst (λ (r : Result Moved Refusal). IsMove s c.args.step r) c.in-Ok.is c.step_on.ensures in
    fate-taken h c.args.moment c.args.user.now c.args.plan.now a k c.args.step s c.in-Ok.moved c.event_of.result (sym c.answer_time.ensures ∙ c.in_default.is) here.0 moves.0 moves.1 c.event_of.ensures
