-- What a request puts under a plan keeps its shard's list legal.
use Rattle.std.proofs.Common.{◌≡◌, ℕ, Bool, true, false, List, Option, Some, None, option_map, refl, sym, ap, ◌∙◌, subst}
use Rattle.std.specs.Prelude.{if◌then◌else◌}
use Rattle.qz_grading.specs.declared.refusal.AttemptId.{AttemptId}
use Rattle.qz_grading.specs.declared.response.Step.{Step}
use Rattle.qz_grading.specs.declared.response.Step.TheVariants as step
use Rattle.qz_grading.specs.Behaviours.{moved}
use Rattle.qz_lives.proofs.Legality.{legal-push, told_event}
use Rattle.qz_shard.specs.Holdings.{StartsHere, older}
use Rattle.qz_shard.proofs.Allowing.{IsGranted, IsOn, acted, ask_of, ended, first-none, made_ready, on-allowed, on-step, start-allowed}
use Rattle.qz_terms.specs.declared.ask.Ask.{Ask}
use Rattle.qz_terms.specs.declared.people.Caller.{Caller}
use Rattle.qz_terms.specs.declared.people.User.{User}
use Rattle.qz_terms.specs.declared.plan.Plan.{Plan}
use Rattle.qz_terms.specs.declared.record.Event.{Event}
use Rattle.qz_terms.specs.declared.record.Event.TheVariants as event
use Rattle.qz_terms.specs.declared.record.How.{How}
use Rattle.qz_terms.specs.declared.record.How.TheVariants as how
use Rattle.qz_terms.specs.declared.record.Record.{Record}
use Rattle.qz_terms.specs.declared.request.Request.{Request}
use Rattle.qz_terms.specs.declared.request.Request.TheVariants as request
use Rattle.qz_terms.specs.Access.{settled_by}
use Rattle.qz_terms.specs.Answer.{is_overdue, list_after, max_now, moment_of, put_here, record_under, started_by, stepped_by}
use Rattle.qz_terms.specs.Cause.{by_key, cause_here, forbidden, is_keyed, missing_attempt, missing_here, missing_slot, spells, verdict_here}
use Rattle.qz_terms.specs.History as history
use Rattle.qz_terms.specs.Legal.{IsAllowed, IsLegal, is_plan_for}
use Rattle.qz_terms.proofs.Standing.{free-by, never-granted}
use Rattle.qz_schedule.proofs.Lists.{some-same}
use Rattle.qz_schedule.proofs.Recording.{AddsTo, list-adds, list-each}

granted-there : (index count : ℕ) (h : List Record) (moment : ℕ) (user : User) (plan : Plan) (who : Caller) (key : Option (List ℕ)) (x : Request) → IsGranted index count h moment user plan who key x → missing_here h user x ≡ None
granted-there index count h moment user plan who key x g =
    (free-by (forbidden user x) (missing_here h user x) (by_key (spells x) user.number key h) (cause_here h moment user plan x) (never-granted (spells x) user.number key h) g.granted).1

slot-attempt : (h : List Record) (user : User) (a : AttemptId) (k : ℕ) → missing_slot h user a k ≡ None → missing_attempt h user a ≡ None
slot-attempt h user a k there = first-none (missing_attempt h user a) _ there

on-put : (index count : ℕ) (h : List Record) (now : ℕ) (user : User) (plan : Plan) (who : Caller) (key : Option (List ℕ)) (x : Request) (a : AttemptId) (e : Event) (r : Record)
    → IsGranted index count h (history.time h a.user now) user plan who key x → IsGranted index count h (history.time h a.user now) user (made_ready plan) who key x → missing_attempt h user a ≡ None → IsOn a e
    → put_here h (history.time h a.user now) user (made_ready plan) (ask_of who key x) ≡ Some (record_under (history.time h a.user now) user a.user key plan e)
    → Some (record_under (history.time h a.user now) user a.user key plan e) ≡ Some r → IsAllowed index count h r
on-put index count h now user plan who key x a e r g ready there on put is =
    subst (IsAllowed index count h) (some-same (record_under (history.time h a.user now) user a.user key plan e) r is) (on-allowed index count h now user plan who key x a e g ready there on put)

settle-put : (index count : ℕ) (h : List Record) (now : ℕ) (user : User) (plan : Plan) (who : Caller) (key : Option (List ℕ)) (a : AttemptId) (w : How) (r : Record) (overdue : Bool)
    → IsGranted index count h (history.time h a.user now) user plan who key (request.Settle a) → IsGranted index count h (history.time h a.user now) user (made_ready plan) who key (request.Settle a) → missing_attempt h user a ≡ None
    → put_here h (history.time h a.user now) user (made_ready plan) (ask_of who key (request.Settle a)) ≡ Some r
    → option_map (λ (d : ℕ × Event). record_under (history.time h a.user now) user d.0 key plan d.1) (if overdue then told_event a.user (event.Ended a w) else None) ≡ Some r → IsAllowed index count h r
settle-put index count h now user plan who key a w r true g ready there put is =
    let made : Record = record_under (history.time h a.user now) user a.user key plan (event.Ended a w) in
    let same : made ≡ r = some-same made r is in
    on-put index count h now user plan who key (request.Settle a) a (event.Ended a w) r g ready there (ended a w) (put ∙ ap (λ (t : Record). Some t) (sym same)) is
settle-put index count h now user plan who key a w r false g ready there put is = absurd cc

allowed-by : (index count : ℕ) (h : List Record) (now : ℕ) (user : User) (plan : Plan) (who : Caller) (key : Option (List ℕ)) (x : Request) (r : Record)
    → IsGranted index count h (moment_of h now user x) user plan who key x → StartsHere (record { index = index; count = count; records = h }) user plan x → older h plan x ≡ None
    → put_here h (moment_of h now user x) user plan (ask_of who key x) ≡ Some r → IsAllowed index count h r
allowed-by index count h now user plan who key (request.Start q) r g here newer put =
    subst (IsAllowed index count h) (some-same (record_under (history.time h user.number now) user user.number key plan (started_by h user plan)) r put) (start-allowed index count h now user plan who key q g here.0 here.1 newer)
allowed-by index count h now user plan who key (request.Save a k c w) r g here newer put =
    let s : Step = step.Save (record { answer = w; certainty = c }) in
    on-put index count h now user plan who key (request.Save a k c w) a (stepped_by h a k s) r g (record { legal = g.legal; keyed = g.keyed; of_quiz = g.of_quiz; granted = g.granted })
    (slot-attempt h user a k (granted-there index count h (history.time h a.user now) user plan who key (request.Save a k c w) g)) (on-step (moved (history.steps h a k) s) a k s) refl put
allowed-by index count h now user plan who key (request.Submit a k c w) r g here newer put =
    let s : Step = step.Submit (record { answer = w; certainty = c }) in
    on-put index count h now user plan who key (request.Submit a k c w) a (stepped_by h a k s) r g (record { legal = g.legal; keyed = g.keyed; of_quiz = g.of_quiz; granted = g.granted })
    (slot-attempt h user a k (granted-there index count h (history.time h a.user now) user plan who key (request.Submit a k c w) g)) (on-step (moved (history.steps h a k) s) a k s) refl put
allowed-by index count h now user plan who key (request.Again a k) r g here newer put =
    on-put index count h now user plan who key (request.Again a k) a (event.Acted a k step.Again) r g (record { legal = g.legal; keyed = g.keyed; of_quiz = g.of_quiz; granted = g.granted })
    (slot-attempt h user a k (granted-there index count h (history.time h a.user now) user plan who key (request.Again a k) g)) (acted a k step.Again) refl put
allowed-by index count h now user plan who key (request.Finish a) r g here newer put =
    on-put index count h now user plan who key (request.Finish a) a (event.Ended a how.Finished) r g (record { legal = g.legal; keyed = g.keyed; of_quiz = g.of_quiz; granted = g.granted })
    (granted-there index count h (history.time h a.user now) user plan who key (request.Finish a) g) (ended a how.Finished) refl put
allowed-by index count h now user plan who key (request.Mark a k m) r g here newer put =
    on-put index count h now user plan who key (request.Mark a k m) a (event.Acted a k (step.Mark m (max_now h a k))) r g (record { legal = g.legal; keyed = g.keyed; of_quiz = g.of_quiz; granted = g.granted })
    (slot-attempt h user a k (granted-there index count h (history.time h a.user now) user plan who key (request.Mark a k m) g)) (acted a k (step.Mark m (max_now h a k))) refl put
allowed-by index count h now user plan who key (request.Settle a) r g here newer put =
    settle-put index count h now user plan who key a (settled_by plan.settings.handling) r (is_overdue h (history.time h a.user now) plan a) g (record { legal = g.legal; keyed = g.keyed; of_quiz = g.of_quiz; granted = g.granted })
    (granted-there index count h (history.time h a.user now) user plan who key (request.Settle a) g) put put
allowed-by index count h now user plan who key x r g here newer put = absurd cc

-- what is known of a request that is answered under a plan
pub record IsPosedAt (index count : ℕ) (h : List Record) (user : User) (plan : Plan) (ask : Ask) : Type 0 where
  pub keyed : is_keyed ask ≡ true
  pub of_quiz : is_plan_for h plan ask.request ≡ true
  pub here : StartsHere (record { index = index; count = count; records = h }) user plan ask.request
  pub newer : older h plan ask.request ≡ None

pub planned-legal : (index count : ℕ) (h : List Record) (now : ℕ) (user : User) (plan : Plan) (ask : Ask) → IsLegal index count h → IsPosedAt index count h user plan ask → IsLegal index count (list_after h now user plan ask)
planned-legal index count h now user plan ask legal p =
    let m = moment_of h now user ask.request in
    list-each (IsLegal index count) (verdict_here h m user plan ask) h (put_here h m user plan ask) legal
    (λ r granted put. legal-push index count h r legal (allowed-by index count h now user plan ask.caller ask.key ask.request r (record { legal = legal; keyed = p.keyed; of_quiz = p.of_quiz; granted = granted }) p.here p.newer put))

pub planned-adds : (h : List Record) (now : ℕ) (user : User) (plan : Plan) (ask : Ask) → AddsTo h (list_after h now user plan ask)
planned-adds h now user plan ask = let m = moment_of h now user ask.request in list-adds (verdict_here h m user plan ask) h (put_here h m user plan ask)
