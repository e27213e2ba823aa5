-- What the parts of a shard that decide a request promise each other.
use Rattle.std.specs.Prelude.{◌≡◌, ℕ, List, length, Option, Some, None, option_map, Result, MatchResult}
use Rattle.qz_grading.specs.declared.refusal.Refusal.TheVariants as refusal
use Rattle.qz_grading.specs.declared.refusal.Refusal.{Refusal}
use Rattle.qz_terms.specs.declared.ask.Ask.{Ask}
use Rattle.qz_terms.specs.declared.people.User.{User}
use Rattle.qz_terms.specs.declared.plan.Plan.{Plan}
use Rattle.qz_terms.specs.declared.record.Event.{Event}
use Rattle.qz_terms.specs.declared.record.Record.{Record}
use Rattle.qz_terms.specs.declared.reply.Reply.{Reply}
use Rattle.qz_terms.specs.declared.request.Request.{Request}
use Rattle.qz_terms.specs.declared.request.Request.TheVariants as request
use Rattle.qz_terms.specs.Answer.{event_here, named_user, said, stepped_by}
use Rattle.qz_terms.specs.Cause.{Verdict, Denied, Granted, Repeated, cause_here, verdict_here, answering_cause}
use Rattle.qz_shard.specs.declared.decision.Decision.{Decision}
use Rattle.qz_shard.specs.declared.decision.Decision.TheVariants as decision
use Rattle.qz_shard.specs.declared.keys.Found.{Found}
use Rattle.qz_shard.specs.declared.keys.Found.TheVariants as found
use Rattle.qz_grading.specs.declared.refusal.AttemptId.{AttemptId}
use Rattle.qz_grading.specs.declared.response.Step.{Step}

-- what was said of a record is told again
pub record IsRepeated (told : Reply) (v : Verdict) : Type 0 where
  pub list : List Record
  pub own : Record
  pub verdict : v ≡ Repeated list own
  pub says : told ≡ said list own

-- what stands under a key gives this verdict, if any
abbrev pub IsFound : Option Found → Option Verdict → Type 0
IsFound None v = v ≡ None
IsFound (Some (found.Same told)) v = (w : Verdict) × ((v ≡ Some w) × IsRepeated told w)
IsFound (Some (found.Other place)) v = v ≡ Some (Denied (refusal.KeyReused place))

-- the event that a request makes of its user's list, where it makes one, or the first cause behind the key
abbrev pub IsFate : List Record → ℕ → User → Plan → Request → Result (Option Event) Refusal → Type 0
IsFate h moment user plan x fate = MatchResult fate
    (λ e. (cause_here h moment user plan x ≡ None) × (event_here h moment user plan x ≡ option_map (λ d. (named_user user x, d)) e))
    (λ r. cause_here h moment user plan x ≡ Some r)

-- the event of a step on a slot, or the first cause behind the key
abbrev pub IsStepFate : List Record → ℕ → User → Plan → AttemptId → ℕ → Step → Result (Option Event) Refusal → Type 0
IsStepFate h moment user plan a k x fate = MatchResult fate
    (λ e. (answering_cause h moment user plan a k x ≡ None) × (e ≡ Some (stepped_by h a k x)))
    (λ r. answering_cause h moment user plan a k x ≡ Some r)

-- the plan of a start has a question for each slot
abbrev pub IsWhole : Plan → Request → Type 0
IsWhole plan (request.Start quiz) = length plan.questions ≡ length plan.slots
IsWhole plan x = Unit {0}

-- what is done with a request, by its verdict
abbrev pub IsDecision : List Record → ℕ → User → Plan → Ask → Decision → Type 0
IsDecision h moment user plan ask (decision.Refused r) = verdict_here h moment user plan ask ≡ Denied r
IsDecision h moment user plan ask (decision.Repeated told) = IsRepeated told (verdict_here h moment user plan ask)
IsDecision h moment user plan ask decision.Idle = (verdict_here h moment user plan ask ≡ Granted) × (event_here h moment user plan ask.request ≡ None)
IsDecision h moment user plan ask (decision.Made e) = (verdict_here h moment user plan ask ≡ Granted) × (event_here h moment user plan ask.request ≡ Some (named_user user ask.request, e))
