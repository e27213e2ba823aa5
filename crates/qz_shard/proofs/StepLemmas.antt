-- What a step on a slot comes to.
use Rattle.std.proofs.Common.{◌≡◌, ℕ, List, Option, Some, None, Ok, refl, ap, ◌∙◌}
use Rattle.qz_grading.specs.declared.outcome.Moved.{Moved}
use Rattle.qz_grading.specs.declared.refusal.AttemptId.{AttemptId}
use Rattle.qz_grading.specs.declared.refusal.Refusal.{Refusal}
use Rattle.qz_grading.specs.declared.response.Step.{Step}
use Rattle.qz_grading.specs.Behaviours.{moved}
use Rattle.qz_grading.specs.Slots.{step_cause}
use Rattle.qz_terms.specs.declared.people.User.{User}
use Rattle.qz_terms.specs.declared.plan.Plan.{Plan}
use Rattle.qz_terms.specs.declared.record.Event.{Event}
use Rattle.qz_terms.specs.declared.record.Record.{Record}
use Rattle.qz_terms.specs.Access.{answer_cause}
use Rattle.qz_terms.specs.Answer.{acted_or_noted}
use Rattle.qz_terms.specs.Cause.{time_cause}
use Rattle.qz_terms.specs.History.{Slot, bound, ended_at, slot}
use Rattle.qz_book.proofs.SlotLemmas.{slot-steps}
use Rattle.qz_shard.specs.Decisions.{IsStepFate}

abbrev time_of : List Record → ℕ → Plan → AttemptId → Option Refusal
time_of h moment plan a = time_cause (λ began. answer_cause plan.settings began moment (ended_at h a)) h a

pub fate-taken : (h : List Record) (moment : ℕ) (user : User) (plan : Plan) (a : AttemptId) (k : ℕ) (x : Step) (s : Slot) (m : Moved) (e : Event) → time_of h moment plan a ≡ None → slot h a k ≡ Some s → step_cause s.behaviour s.question s.bound.max s.steps x ≡ None → m ≡ moved s.steps x → e ≡ acted_or_noted m a k x
    → IsStepFate h moment user plan a k x (Ok (Some e))
fate-taken h moment user plan a k x s m e early found free moves made = (
  rw (early, found, free) refl,
  ap (λ (d : Event). Some d) (made ∙ ap (λ (v : Moved). acted_or_noted v a k x) (moves ∙ ap (λ (t : List Step). moved t x) (slot-steps h a k s found))),
)
