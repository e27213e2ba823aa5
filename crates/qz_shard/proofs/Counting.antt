-- How often what a request puts grades, by the request.
use Rattle.std.proofs.Common.{◌≡◌, ℕ, ◌+◌, ◌≤◌, Bool, true, false, List, Option, Some, None, length, refl, ap, subst, arith, option_map}
use Rattle.std.specs.Prelude.{if◌then◌else◌, option_and_then, unwrap_or}
use Rattle.qz_grading.specs.declared.outcome.Moved.{Moved}
use Rattle.qz_grading.specs.declared.outcome.Moved.TheVariants as moved_as
use Rattle.qz_grading.specs.declared.question.Question.{Question}
use Rattle.qz_grading.specs.declared.refusal.AttemptId.{AttemptId}
use Rattle.qz_grading.specs.declared.response.Response.{Response}
use Rattle.qz_grading.specs.declared.response.Step.TheVariants as step
use Rattle.qz_grading.specs.Behaviours.{moved}
use Rattle.qz_lives.specs.Changes.{gradings_by}
use Rattle.qz_terms.specs.declared.access.Handling.{Handling}
use Rattle.qz_terms.specs.declared.access.Handling.TheVariants as handling
use Rattle.qz_terms.specs.declared.people.User.{User}
use Rattle.qz_terms.specs.declared.plan.Job.{Job}
use Rattle.qz_terms.specs.declared.plan.Plan.{Plan}
use Rattle.qz_terms.specs.declared.record.Event.{Event}
use Rattle.qz_terms.specs.declared.record.Event.TheVariants as event
use Rattle.qz_terms.specs.declared.record.How.TheVariants as how
use Rattle.qz_terms.specs.declared.record.Record.{Record}
use Rattle.qz_terms.specs.declared.request.Request.{Request}
use Rattle.qz_terms.specs.declared.request.Request.TheVariants as request
use Rattle.qz_terms.specs.Access.{settled_by}
use Rattle.qz_terms.specs.declared.ask.Ask.{Ask}
use Rattle.qz_terms.specs.declared.plan.Planned.{Planned}
use Rattle.qz_grading.specs.Grading.{at_place, shape}
use Rattle.qz_grading.specs.Shapes.{same_shape}
use Rattle.qz_terms.specs.Answer.{acted_or_noted, event_here, first_target, is_overdue, job_event, max_now, named_user, rebound_or_skipped, started_by, stepped_by, target_event}
use Rattle.qz_terms.specs.History.{question, slot_count, steps}
use Rattle.qz_shard.specs.declared.decision.Decision.TheVariants as decision
use Rattle.qz_shard.specs.declared.working.Work.TheVariants as work
use Rattle.qz_shard.specs.Decisions.{IsDecision}
use Rattle.qz_shard.specs.Gradings.{most_gradings, most_of_work}
use Rattle.qz_shard.specs.Puts.{record_by}
use Rattle.qz_shard.specs.Works.{IsWork}
use Rattle.qz_shard.proofs.WorkLemmas.{put-of}
use Rattle.qz_lives.proofs.Legality.{told_event, told-pair}

save-none : (h : List Record) (v : Moved) (a : AttemptId) (k : ℕ) (r : Response) → gradings_by h (acted_or_noted v a k (step.Save r)) ≤ 0
save-none h moved_as.Kept a k r = omega arith
save-none h moved_as.Same a k r = omega arith

submit-one : (h : List Record) (v : Moved) (a : AttemptId) (k : ℕ) (r : Response) → gradings_by h (acted_or_noted v a k (step.Submit r)) ≤ 1
submit-one h moved_as.Kept a k r = omega arith
submit-one h moved_as.Same a k r = omega arith

settle-few : (h : List Record) (a : AttemptId) (w : Handling) → gradings_by h (event.Ended a (settled_by w)) ≤ slot_count h a
settle-few h a handling.AutoSubmit = omega arith
settle-few h a handling.GracePeriod = omega arith
settle-few h a handling.AutoAbandon = omega arith

settled-few : (h : List Record) (overdue : Bool) (a : AttemptId) (w : Handling) (u o : ℕ) (e : Event) → (if overdue then told_event u (event.Ended a (settled_by w)) else None) ≡ told_event o e → gradings_by h e ≤ slot_count h a
settled-few h true a w u o e is = subst (λ (d : Event). gradings_by h d ≤ slot_count h a) (told-pair u o (event.Ended a (settled_by w)) e is).1 (settle-few h a w)
settled-few h false a w u o e is = absurd cc

within : (h : List Record) (d e : Event) (u o most : ℕ) → told_event u d ≡ told_event o e → gradings_by h d ≤ most → gradings_by h e ≤ most
within h d e u o most is few = subst (λ (x : Event). gradings_by h x ≤ most) (told-pair u o d e is).1 few

-- what a request puts grades no more often than it may
pub few-gradings : (h : List Record) (moment : ℕ) (user : User) (plan : Plan) (x : Request) (o : ℕ) (e : Event) → event_here h moment user plan x ≡ told_event o e → gradings_by h e ≤ most_gradings h x
few-gradings h moment user plan (request.Start quiz) o e is = within h (started_by h user plan) e user.number o 0 is (omega arith)
few-gradings h moment user plan (request.Save a k c r) o e is =
    let x : Response = record { answer = r; certainty = c } in
    within h (stepped_by h a k (step.Save x)) e a.user o 0 is (save-none h (moved (steps h a k) (step.Save x)) a k x)
few-gradings h moment user plan (request.Submit a k c r) o e is =
    let x : Response = record { answer = r; certainty = c } in
    within h (stepped_by h a k (step.Submit x)) e a.user o 1 is (submit-one h (moved (steps h a k) (step.Submit x)) a k x)
few-gradings h moment user plan (request.Again a k) o e is = within h (event.Acted a k step.Again) e a.user o 1 is (omega arith)
few-gradings h moment user plan (request.Finish a) o e is = within h (event.Ended a how.Finished) e a.user o (slot_count h a) is (omega arith)
few-gradings h moment user plan (request.Mark a k m) o e is = within h (event.Acted a k (step.Mark m (max_now h a k))) e a.user o 1 is (omega arith)
few-gradings h moment user plan (request.Settle a) o e is = settled-few h (is_overdue h moment plan a) a plan.settings.handling a.user o e is
few-gradings h moment user plan x o e is = absurd cc

pub few-made : (h : List Record) (moment : ℕ) (user : User) (plan : Plan) (ask : Ask) (e : Event) (made : Record) (before after : ℕ) → IsDecision h moment user plan ask (decision.Made e) → made ≡ record_by moment user plan ask e → after ≤ before + gradings_by h made.event → after ≤ before + most_gradings h ask.request
few-made h moment user plan ask e made before after decided is count =
    let few : gradings_by h e ≤ most_gradings h ask.request = few-gradings h moment user plan ask.request (named_user user ask.request) e decided.1 in
    let same : gradings_by h made.event ≡ gradings_by h e = ap (λ (r : Record). gradings_by h r.event) is in
    omega arith

-- ---- what work puts

rebound-few : (h : List Record) (job : Job) (a : AttemptId) (k : ℕ) (s : Planned) (old newer : Question) (b : Bool) → same_shape (shape old) (shape newer) ≡ b → gradings_by h (rebound_or_skipped h job a k s old newer) ≤ length (steps h a k) + 1
rebound-few h job a k s old newer true is = rw is (omega arith)
rebound-few h job a k s old newer false is = rw is (omega arith)

target-few : (h : List Record) (job : Job) (a : AttemptId) (k : ℕ) (old : Option Question) (s : Option Planned) (newer : Option Question) (e : Event)
    → option_and_then (λ p. option_and_then (λ t. option_map (λ q. rebound_or_skipped h job a k t p q) newer) s) old ≡ Some e → gradings_by h e ≤ length (steps h a k) + 1
target-few h job a k None s newer e is = absurd cc
target-few h job a k (Some p) None newer e is = absurd cc
target-few h job a k (Some p) (Some t) None e is = absurd cc
target-few h job a k (Some p) (Some t) (Some q) e is =
    let same : rebound_or_skipped h job a k t p q ≡ e = cc in
    subst (λ (d : Event). gradings_by h d ≤ length (steps h a k) + 1) same (rebound-few h job a k t p q (same_shape (shape p) (shape q)) refl)

put-few : (h : List Record) (job : Job) (t : AttemptId × ℕ) (o : Option Event) → target_event h job t ≡ o → gradings_by h (unwrap_or o (event.JobDone job.number job.plan.quiz job.position)) ≤ length (steps h t.0 t.1) + 1
put-few h job t None is = omega arith
put-few h job t (Some e) is = target-few h job t.0 t.1 (question h t.0 t.1) (at_place job.plan.slots t.1) (at_place job.plan.questions t.1) e is

work-few-by : (h : List Record) (job : Job) (o : Option (AttemptId × ℕ)) → first_target h job ≡ o → gradings_by h (job_event h job o) ≤ most_of_work h job
work-few-by h job None first = rw first (omega arith)
work-few-by h job (Some t) first = rw first (put-few h job t (target_event h job t) refl)

pub few-worked : (h : List Record) (now caller : ℕ) (job : Job) (r : Record) (before after : ℕ) → IsWork h now caller job (work.Put r) → after ≤ before + gradings_by h r.event → after ≤ before + most_of_work h job
few-worked h now caller job r before after w count =
    let few : gradings_by h r.event ≤ most_of_work h job =
    subst (λ (x : Record). gradings_by h x.event ≤ most_of_work h job) (put-of h now caller job r w) (work-few-by h job (first_target h job) refl) in
    omega arith
