-- The record that a decision makes may be put next, and what is then answered.
use Rattle.std.proofs.Common.{◌≡◌, ℕ, suc, ◌+◌, ◌-◌, ◌≤◌, max, Bool, true, false, List, [], ◌∷◌, ◌++◌, Option, Some, None, Ok, length, append-nil, map, refl, sym, ap, subst, ◌∙◌, arith, option_map, All}
use Rattle.std.specs.Prelude.{◌==◌, filter_map, is_none, if◌then◌else◌, unwrap_or}
use Rattle.std.specs.List.{list_all, last_or}
use Rattle.std.proofs.lemmas.Bool.{le-leb, leb-true}
use Rattle.std.proofs.lemmas.List.Elements.{All-cons, All-filter, All-head, All-map, All-nil, All-tail}
use Rattle.qz_grading.specs.declared.question.Question.{Question}
use Rattle.qz_grading.specs.declared.refusal.AttemptId.{AttemptId}
use Rattle.qz_grading.specs.declared.response.Step.{Step}
use Rattle.qz_grading.specs.declared.response.Step.TheVariants as step
use Rattle.qz_grading.specs.declared.outcome.Moved.{Moved}
use Rattle.qz_grading.specs.declared.outcome.Moved.TheVariants as moved_as
use Rattle.qz_grading.specs.Behaviours.{moved}
use Rattle.qz_grading.specs.Questions.{IsQuestion}
use Rattle.qz_terms.specs.declared.ask.Ask.{Ask}
use Rattle.qz_terms.specs.declared.people.Caller.{Caller}
use Rattle.qz_terms.specs.declared.people.User.{User}
use Rattle.qz_terms.specs.declared.plan.Plan.{Plan}
use Rattle.qz_terms.specs.declared.plan.Planned.{Planned}
use Rattle.qz_terms.specs.declared.record.Event.{Event}
use Rattle.qz_terms.specs.declared.record.Event.TheVariants as event
use Rattle.qz_terms.specs.declared.record.How.{How}
use Rattle.qz_terms.specs.declared.record.How.TheVariants as how
use Rattle.qz_terms.specs.declared.record.Learned.{Learned}
use Rattle.qz_terms.specs.declared.record.Record.{Record}
use Rattle.qz_terms.specs.declared.reply.Done.TheVariants as done
use Rattle.qz_terms.specs.declared.reply.Reply.{Reply}
use Rattle.qz_terms.specs.declared.reply.Reply.TheVariants as reply
use Rattle.qz_terms.specs.declared.request.Request.{Request}
use Rattle.qz_terms.specs.declared.request.Request.TheVariants as request
use Rattle.qz_terms.specs.Access.{settled_by}
use Rattle.qz_terms.specs.Answer.{acted_or_noted, answer_here, bind, event_here, is_overdue, list_after, looked_by, max_now, moment_of, named_user, new_versions, put_here, record_under, said, same_version, started_by, stepped_by}
use Rattle.qz_terms.specs.Cause.{Granted, Repeated, by_key, cause_here, forbidden, spells, is_keyed, missing_attempt, missing_here, missing_slot, verdict_here}
use Rattle.qz_terms.specs.Kept.{AreLearned, AreQuestions, IsKept, IsKeptPlan, KeepsAsked, KeepsEvent, has_terms, is_bound, is_moment, is_planned, is_step}
use Rattle.qz_terms.specs.Legal.{is_plan_for}
use Rattle.qz_terms.specs.Lists.{once}
use Rattle.qz_terms.specs.History.{owned_moment, time}
use Rattle.qz_terms.specs.History as history
use Rattle.qz_terms.proofs.Standing.{free-by, never-granted}
use Rattle.qz_terms.proofs.Walks.{last_told_in}
use Rattle.qz_shard.specs.declared.decision.Decision.TheVariants as decision
use Rattle.qz_shard.specs.Answering.{IsAnswered, IsPosed}
use Rattle.qz_shard.specs.Decisions.{IsDecision, IsRepeated}
use Rattle.qz_shard.specs.Holdings.{Holding, StartsHere, is_change, older}
use Rattle.qz_book.specs.Held.{IsHeld, is_asked_event}
use Rattle.qz_book.specs.Nexts.{IsNext}
use Rattle.qz_shard.specs.Puts.{IsPutWith, record_by}
use Rattle.qz_shard.proofs.Allowing.{IsGranted, IsOn, acted, ask_of, ended, noted, first-none, made_ready, on-allowed, on-step, start-allowed}
use Rattle.qz_lives.proofs.Keeping.{All-seam, and-left, and-right}
use Rattle.qz_legal.proofs.Learning.{learned_all}
use Rattle.qz_lives.proofs.Legality.{told_event, told-pair}

-- ---- what is kept of a moment

moment-within : (a b : ℕ) → is_moment a ≡ true → is_moment b ≡ true → is_moment (max a b) ≡ true
moment-within a b is also =
    let one : a ≤ 4102444799 = leb-true a 4102444799 is in
    let other : b ≤ 4102444799 = leb-true b 4102444799 also in
    le-leb (max a b) 4102444799 (omega arith)

owned-kept : (u m : ℕ) (r : Record) (b : Bool) → (r.owner == u) ≡ b → (if b then Some r.moment else None) ≡ Some m → is_moment r.moment ≡ true → is_moment m ≡ true
owned-kept u m r true is told kept = let same : r.moment ≡ m = cc in ap is_moment (sym same) ∙ kept
owned-kept u m r false is told kept = absurd cc

last-kept : (h : List Record) (u : ℕ) (o : Option ℕ) → All IsKept h → last_or None (filter_map (owned_moment u) h) ≡ o → is_moment (unwrap_or o 0) ≡ true
last-kept h u None kept is = refl
last-kept h u (Some m) kept is =
    let t = last_told_in (owned_moment u) h m is in
    let all : All IsKept (t.front ++ t.item ∷ t.rest) = subst (All IsKept) t.stands kept in
    owned-kept u m t.item (t.item.owner == u) refl t.tells (All-seam IsKept t.front t.item t.rest all).moment

pub time-kept : (h : List Record) (u now : ℕ) → All IsKept h → is_moment now ≡ true → is_moment (time h u now) ≡ true
time-kept h u now kept is = moment-within now _ is (last-kept h u _ kept refl)

-- ---- what is kept of an event

bounds-kept : (at : ℕ) (ss : List Planned) → list_all is_planned ss ≡ true → list_all is_bound (map (bind at) ss) ≡ true
bounds-kept at [] all = refl
bounds-kept at (s ∷ ss) all = rw (and-left (is_planned s) (list_all is_planned ss) all, bounds-kept at ss (and-right (is_planned s) (list_all is_planned ss) all)) refl

length-bounds : (at : ℕ) (ss : List Planned) → length (map (bind at) ss) ≡ length ss
length-bounds at [] = refl
length-bounds at (s ∷ ss) = ap suc (length-bounds at ss)

abbrev IsLearnable : Learned → Type 0
IsLearnable l = IsQuestion l.question

All-once : (xs : List Learned) → All IsLearnable xs → All IsLearnable (once same_version xs)
All-once [] all = all
All-once (x ∷ xs) all = All-cons IsLearnable x _ (All-head IsLearnable x xs all) (All-filter _ IsLearnable _ (All-once xs (All-tail IsLearnable x xs all)))

All-learned : (ss : List Planned) (qs : List Question) → All IsQuestion qs → All IsLearnable (learned_all ss qs)
All-learned [] qs all = All-nil IsLearnable
All-learned (s ∷ ss) [] all = All-nil IsLearnable
All-learned (s ∷ ss) (q ∷ qs) all = All-cons IsLearnable _ _ (All-head IsQuestion q qs all) (All-learned ss qs (All-tail IsQuestion q qs all))

pub learned-kept : (h : List Record) (ss : List Planned) (qs : List Question) → AreQuestions qs → AreLearned (new_versions h (learned_all ss qs))
learned-kept h ss qs all = All-map IsQuestion (λ (l : Learned). l.question) (new_versions h (learned_all ss qs)) (All-filter (λ (l : Learned). is_none (history.version h l.entry l.version)) IsLearnable (once same_version (learned_all ss qs)) (All-once (learned_all ss qs) (All-learned ss qs all)))

start-event-kept : (h : List Record) (user : User) (plan : Plan) → IsKeptPlan plan → KeepsEvent (started_by h user plan)
start-event-kept h user plan kept = (rw (length-bounds plan.at plan.slots, kept.few) (bounds-kept plan.at plan.slots kept.slots), learned-kept h plan.slots plan.questions kept.questions)

-- ---- the next record

event-kept : (index count : ℕ) (h : List Record) (now : ℕ) (user : User) (plan : Plan) (key : Option (List ℕ)) (u : ℕ) (e : Event)
    → All IsKept h → is_moment now ≡ true → IsKeptPlan plan → KeepsEvent e → true ≡ has_terms e → IsKept (record_under (time h u now) user u key plan e)
event-kept index count h now user plan key u e kept is planned keeps terms = record { moment = time-kept h u now kept is; terms = terms; settings = planned.settings; event = keeps }

-- what is known where a decision makes an event
pub record IsMaking (index count : ℕ) (h : List Record) (now : ℕ) (user : User) (plan : Plan) (who : Caller) (key : Option (List ℕ)) (x : Request) (e : Event) : Type 0 where
  pub held : IsHeld index count h
  pub keyed : is_keyed (ask_of who key x) ≡ true
  pub of_quiz : is_plan_for h plan x ≡ true
  pub plan_kept : IsKeptPlan plan
  pub asked_kept : KeepsAsked x
  pub moment : is_moment now ≡ true
  pub newer : older h plan x ≡ None
  pub granted : verdict_here h (moment_of h now user x) user plan (ask_of who key x) ≡ Granted
  pub there : missing_here h user x ≡ None
  pub makes : event_here h (moment_of h now user x) user plan x ≡ told_event (named_user user x) e

granting : (index count : ℕ) (h : List Record) (now : ℕ) (user : User) (plan : Plan) (who : Caller) (key : Option (List ℕ)) (x : Request) (e : Event) → IsMaking index count h now user plan who key x e → IsGranted index count h (moment_of h now user x) user plan who key x
granting index count h now user plan who key x e m = record { legal = m.held.legal; keyed = m.keyed; of_quiz = m.of_quiz; granted = m.granted }

step-kept : (v : Moved) (a : AttemptId) (k : ℕ) (s : Step) → is_step s ≡ true → KeepsEvent (acted_or_noted v a k s)
step-kept moved_as.Kept a k s keeps = keeps
step-kept moved_as.Same a k s keeps = keeps

settles-by : (overdue : Bool) (u o : ℕ) (a : AttemptId) (w : How) (e : Event) → (if overdue then told_event u (event.Ended a w) else None) ≡ told_event o e → event.Ended a w ≡ e
settles-by true u o a w e is = (told-pair u o (event.Ended a w) e is).1
settles-by false u o a w e is = absurd cc

first-attempt : (h : List Record) (user : User) (a : AttemptId) (k : ℕ) → missing_slot h user a k ≡ None → missing_attempt h user a ≡ None
first-attempt h user a k there = first-none (missing_attempt h user a) _ there

on-asked : (a : AttemptId) (e : Event) → IsOn a e → is_asked_event e ≡ true
on-asked a e (acted b k s) = refl
on-asked a e (noted b k s) = refl
on-asked a e (ended b how) = refl

on-terms : (a : AttemptId) (e : Event) → IsOn a e → true ≡ has_terms e
on-terms a e (acted b k s) = refl
on-terms a e (noted b k s) = refl
on-terms a e (ended b how) = refl

-- of an event on an attempt
next-on : (index count : ℕ) (h : List Record) (now : ℕ) (user : User) (plan : Plan) (who : Caller) (key : Option (List ℕ)) (x : Request) (a : AttemptId) (e : Event)
    → IsGranted index count h (time h a.user now) user plan who key x → IsGranted index count h (time h a.user now) user (made_ready plan) who key x → missing_attempt h user a ≡ None → IsOn a e
    → put_here h (time h a.user now) user (made_ready plan) (ask_of who key x) ≡ Some (record_under (time h a.user now) user a.user key plan e)
    → All IsKept h → is_moment now ≡ true → IsKeptPlan plan → KeepsEvent e
    → IsNext index count h (record_under (time h a.user now) user a.user key plan e)
next-on index count h now user plan who key x a e g ready there on put kept is planned keeps = record {
  allowed = on-allowed index count h now user plan who key x a e g ready there on put;
  kept = event-kept index count h now user plan key a.user e kept is planned keeps (on-terms a e on);
  asked = on-asked a e on;
}

abbrev NextOf : ℕ → ℕ → List Record → ℕ → User → Plan → Option (List ℕ) → Request → Event → Type 0
NextOf index count h now user plan key x e = IsNext index count h (record_under (moment_of h now user x) user (named_user user x) key plan e)

again-granted : (index count : ℕ) (h : List Record) (m : ℕ) (user : User) (plan : Plan) (who : Caller) (key : Option (List ℕ)) (x : Request) → IsGranted index count h m user plan who key x → is_plan_for h (made_ready plan) x ≡ true → verdict_here h m user (made_ready plan) (ask_of who key x) ≡ Granted → IsGranted index count h m user (made_ready plan) who key x
again-granted index count h m user plan who key x g of_quiz granted = record { legal = g.legal; keyed = g.keyed; of_quiz = of_quiz; granted = granted }

pub next-made : (index count : ℕ) (h : List Record) (now : ℕ) (user : User) (plan : Plan) (who : Caller) (key : Option (List ℕ)) (x : Request) (e : Event)
    → is_change x ≡ true → StartsHere (record { index = index; count = count; records = h }) user plan x → IsMaking index count h now user plan who key x e → NextOf index count h now user plan key x e
next-made index count h now user plan who key (request.Start quiz) e change here m =
    let made : started_by h user plan ≡ e = (told-pair user.number user.number (started_by h user plan) e m.makes).1 in
    let g = granting index count h now user plan who key (request.Start quiz) e m in
    subst (NextOf index count h now user plan key (request.Start quiz)) made (record {
      allowed = start-allowed index count h now user plan who key quiz g here.0 here.1 m.newer;
      kept = event-kept index count h now user plan key user.number (started_by h user plan) m.held.kept m.moment m.plan_kept (start-event-kept h user plan m.plan_kept) refl;
      asked = refl;
    })
next-made index count h now user plan who key (request.Save a k c r) e change here m =
    let x = request.Save a k c r in
    let s : Step = step.Save (record { answer = r; certainty = c }) in
    let made : stepped_by h a k s ≡ e = (told-pair a.user a.user (stepped_by h a k s) e m.makes).1 in
    let g = granting index count h now user plan who key x e m in
    next-on index count h now user plan who key x a e g (again-granted index count h (time h a.user now) user plan who key x g m.of_quiz m.granted) (first-attempt h user a k m.there)
    (subst (IsOn a) made (on-step (moved (history.steps h a k) s) a k s)) (ap (λ (d : Event). Some (record_under (time h a.user now) user a.user key plan d)) made) m.held.kept m.moment m.plan_kept
    (subst KeepsEvent made (step-kept (moved (history.steps h a k) s) a k s m.asked_kept))
next-made index count h now user plan who key (request.Submit a k c r) e change here m =
    let x = request.Submit a k c r in
    let s : Step = step.Submit (record { answer = r; certainty = c }) in
    let made : stepped_by h a k s ≡ e = (told-pair a.user a.user (stepped_by h a k s) e m.makes).1 in
    let g = granting index count h now user plan who key x e m in
    next-on index count h now user plan who key x a e g (again-granted index count h (time h a.user now) user plan who key x g m.of_quiz m.granted) (first-attempt h user a k m.there)
    (subst (IsOn a) made (on-step (moved (history.steps h a k) s) a k s)) (ap (λ (d : Event). Some (record_under (time h a.user now) user a.user key plan d)) made) m.held.kept m.moment m.plan_kept
    (subst KeepsEvent made (step-kept (moved (history.steps h a k) s) a k s m.asked_kept))
next-made index count h now user plan who key (request.Again a k) e change here m =
    let x = request.Again a k in
    let made : event.Acted a k step.Again ≡ e = (told-pair a.user a.user (event.Acted a k step.Again) e m.makes).1 in
    let g = granting index count h now user plan who key x e m in
    next-on index count h now user plan who key x a e g (again-granted index count h (time h a.user now) user plan who key x g m.of_quiz m.granted) (first-attempt h user a k m.there)
    (subst (IsOn a) made (acted a k step.Again)) (ap (λ (d : Event). Some (record_under (time h a.user now) user a.user key plan d)) made) m.held.kept m.moment m.plan_kept
    (subst KeepsEvent made refl)
next-made index count h now user plan who key (request.Finish a) e change here m =
    let x = request.Finish a in
    let made : event.Ended a how.Finished ≡ e = (told-pair a.user a.user (event.Ended a how.Finished) e m.makes).1 in
    let g = granting index count h now user plan who key x e m in
    next-on index count h now user plan who key x a e g (again-granted index count h (time h a.user now) user plan who key x g m.of_quiz m.granted) m.there
    (subst (IsOn a) made (ended a how.Finished)) (ap (λ (d : Event). Some (record_under (time h a.user now) user a.user key plan d)) made) m.held.kept m.moment m.plan_kept
    (subst KeepsEvent made tt)
next-made index count h now user plan who key (request.Mark a k mark) e change here m =
    let x = request.Mark a k mark in
    let d : Event = event.Acted a k (step.Mark mark (max_now h a k)) in
    let made : d ≡ e = (told-pair a.user a.user d e m.makes).1 in
    let g = granting index count h now user plan who key x e m in
    next-on index count h now user plan who key x a e g (again-granted index count h (time h a.user now) user plan who key x g m.of_quiz m.granted) (first-attempt h user a k m.there)
    (subst (IsOn a) made (acted a k (step.Mark mark (max_now h a k)))) (ap (λ (d : Event). Some (record_under (time h a.user now) user a.user key plan d)) made) m.held.kept m.moment m.plan_kept
    (subst KeepsEvent made refl)
next-made index count h now user plan who key (request.Settle a) e change here m =
    let x = request.Settle a in
    let made : event.Ended a (settled_by plan.settings.handling) ≡ e = settles-by (is_overdue h (time h a.user now) plan a) a.user a.user a (settled_by plan.settings.handling) e m.makes in
    let g = granting index count h now user plan who key x e m in
    let put : put_here h (time h a.user now) user (made_ready plan) (ask_of who key x) ≡ Some (record_under (time h a.user now) user a.user key plan e) =
    ap (option_map (λ (d : ℕ × Event). record_under (time h a.user now) user d.0 key plan d.1)) m.makes in
    next-on index count h now user plan who key x a e g (again-granted index count h (time h a.user now) user plan who key x g m.of_quiz m.granted) m.there
    (subst (IsOn a) made (ended a (settled_by plan.settings.handling))) put m.held.kept m.moment m.plan_kept (subst KeepsEvent made tt)
next-made index count h now user plan who key x e change here m = absurd cc

-- ---- the answer by the verdict

pub answer-repeated : (h : List Record) (now : ℕ) (user : User) (plan : Plan) (ask : Ask) (l : List Record) (r : Record) → verdict_here h (moment_of h now user ask.request) user plan ask ≡ Repeated l r → (answer_here h now user plan ask ≡ said l r) × (list_after h now user plan ask ≡ h)
answer-repeated h now user plan ask l r is = (rw is refl, rw is refl)

pub answer-granted : (h : List Record) (now : ℕ) (user : User) (plan : Plan) (ask : Ask) (u : ℕ) (e : Event) → verdict_here h (moment_of h now user ask.request) user plan ask ≡ Granted → event_here h (moment_of h now user ask.request) user plan ask.request ≡ told_event u e
    → (answer_here h now user plan ask ≡ said (h ++ record_under (moment_of h now user ask.request) user u ask.key plan e ∷ []) (record_under (moment_of h now user ask.request) user u ask.key plan e))
    × (list_after h now user plan ask ≡ h ++ record_under (moment_of h now user ask.request) user u ask.key plan e ∷ [])
answer-granted h now user plan ask u e is made = (rw (is, made) refl, rw (is, made) refl)

idle-look : (h : List Record) (moment : ℕ) (user : User) (plan : Plan) (x : Request) → is_change x ≡ true → looked_by h moment user plan x ≡ done.Idle
idle-look h moment user plan (request.View a k) change = absurd cc
idle-look h moment user plan (request.Total a) change = absurd cc
idle-look h moment user plan (request.Page a) change = absurd cc
idle-look h moment user plan (request.Grade q owner) change = absurd cc
idle-look h moment user plan x change = refl

-- there was nothing to do
pub answer-idle : (h : List Record) (now : ℕ) (user : User) (plan : Plan) (ask : Ask) → is_change ask.request ≡ true → verdict_here h (moment_of h now user ask.request) user plan ask ≡ Granted → event_here h (moment_of h now user ask.request) user plan ask.request ≡ None
    → (answer_here h now user plan ask ≡ reply.Ok (history.place h (named_user user ask.request)) done.Idle) × (list_after h now user plan ask ≡ h)
answer-idle h now user plan ask change is none = (rw (is, none, idle-look h (moment_of h now user ask.request) user plan ask.request change) refl, rw (is, none) (append-nil h))

-- ---- a request that was decided

pub repeated-answer : (h : List Record) (now moment : ℕ) (user : User) (plan : Plan) (ask : Ask) (told : Reply) → moment ≡ moment_of h now user ask.request → IsRepeated told (verdict_here h moment user plan ask) → IsAnswered h now user plan ask told h
repeated-answer h now moment user plan ask told at repeated =
    let here : IsRepeated told (verdict_here h (moment_of h now user ask.request) user plan ask) = subst (λ (m : ℕ). IsRepeated told (verdict_here h m user plan ask)) at repeated in
    let answer = answer-repeated h now user plan ask here.list here.own here.verdict in
    record { reply = here.says ∙ sym answer.0; list = sym answer.1 }

idle-answer-here : (h : List Record) (now : ℕ) (user : User) (plan : Plan) (ask : Ask) (told : Reply) → is_change ask.request ≡ true → IsDecision h (moment_of h now user ask.request) user plan ask decision.Idle → told ≡ reply.Ok (history.place h (named_user user ask.request)) done.Idle → IsAnswered h now user plan ask told h
idle-answer-here h now user plan ask told change idle says =
    let answer = answer-idle h now user plan ask change idle.0 idle.1 in
    record { reply = says ∙ sym answer.0; list = sym answer.1 }

pub idle-answer : (g h : List Record) (now moment : ℕ) (user : User) (plan : Plan) (ask : Ask) (told : Reply) → g ≡ h → moment ≡ moment_of g now user ask.request → is_change ask.request ≡ true → IsDecision g moment user plan ask decision.Idle → told ≡ reply.Ok (history.place g (named_user user ask.request)) done.Idle → IsAnswered h now user plan ask told h
idle-answer g h now moment user plan ask told same at change idle says =
    subst (λ (t : List Record). IsAnswered t now user plan ask told t) same
    (idle-answer-here g now user plan ask told change (subst (λ (m : ℕ). IsDecision g m user plan ask decision.Idle) at idle) says)

decided-next-here : (s : Holding) (now : ℕ) (user : User) (plan : Plan) (ask : Ask) (e : Event) → IsHeld s.index s.count s.records → IsPosed s now user plan ask → IsDecision s.records (moment_of s.records now user ask.request) user plan ask (decision.Made e)
    → IsNext s.index s.count s.records (record_under (moment_of s.records now user ask.request) user (named_user user ask.request) ask.key plan e)
decided-next-here s now user plan ask e held posed d =
    let parts = free-by (forbidden user ask.request) (missing_here s.records user ask.request) (by_key (spells ask.request) user.number ask.key s.records) (cause_here s.records (moment_of s.records now user ask.request) user plan ask.request)
    (never-granted (spells ask.request) user.number ask.key s.records) d.0 in
    next-made s.index s.count s.records now user plan ask.caller ask.key ask.request e posed.change posed.here (record {
      held = held;
      keyed = posed.asked.keyed;
      of_quiz = posed.asked.of_quiz;
      plan_kept = posed.asked.kept_plan;
      asked_kept = posed.asked.kept_request;
      moment = posed.asked.kept_moment;
      newer = posed.newer;
      granted = d.0;
      there = parts.1;
      makes = d.1;
    })

pub decided-next : (s : Holding) (g : List Record) (now moment : ℕ) (user : User) (plan : Plan) (ask : Ask) (e : Event) (made : Record) → IsHeld s.index s.count s.records → IsPosed s now user plan ask → g ≡ s.records → moment ≡ moment_of g now user ask.request
    → IsDecision g moment user plan ask (decision.Made e) → made ≡ record_under moment user (named_user user ask.request) ask.key plan e → IsNext s.index s.count s.records made
decided-next s g now moment user plan ask e made held posed same at d is =
    let at_here : moment ≡ moment_of s.records now user ask.request = at ∙ ap (λ (t : List Record). moment_of t now user ask.request) same in
    let here : IsDecision s.records moment user plan ask (decision.Made e) = subst (λ (t : List Record). IsDecision t moment user plan ask (decision.Made e)) same d in
    let there : IsDecision s.records (moment_of s.records now user ask.request) user plan ask (decision.Made e) = subst (λ (m : ℕ). IsDecision s.records m user plan ask (decision.Made e)) at_here here in
    let made_is : made ≡ record_under (moment_of s.records now user ask.request) user (named_user user ask.request) ask.key plan e = is ∙ ap (λ (m : ℕ). record_under m user (named_user user ask.request) ask.key plan e) at_here in
    subst (IsNext s.index s.count s.records) (sym made_is) (decided-next-here s now user plan ask e held posed there)

granted-answer-here : (h new : List Record) (now : ℕ) (user : User) (plan : Plan) (ask : Ask) (e : Event) (told : Reply) → IsDecision h (moment_of h now user ask.request) user plan ask (decision.Made e) → IsPutWith h new (record_by (moment_of h now user ask.request) user plan ask e) told → IsAnswered h now user plan ask told new
granted-answer-here h new now user plan ask e told made put =
    let answer = answer-granted h now user plan ask (named_user user ask.request) e made.0 made.1 in
    record { reply = put.said_so ∙ sym answer.0; list = put.put ∙ sym answer.1 }

pub granted-answer : (g h new : List Record) (now moment : ℕ) (user : User) (plan : Plan) (ask : Ask) (e : Event) (told : Reply) → g ≡ h → moment ≡ moment_of g now user ask.request → IsDecision g moment user plan ask (decision.Made e) → IsPutWith h new (record_by moment user plan ask e) told → IsAnswered h now user plan ask told new
granted-answer g h new now moment user plan ask e told same at made put =
    let at_here : moment ≡ moment_of h now user ask.request = at ∙ ap (λ (t : List Record). moment_of t now user ask.request) same in
    granted-answer-here h new now user plan ask e told
    (subst (λ (t : List Record). IsDecision t (moment_of h now user ask.request) user plan ask (decision.Made e)) same (subst (λ (m : ℕ). IsDecision g m user plan ask (decision.Made e)) at_here made))
    (subst (λ (m : ℕ). IsPutWith h new (record_by m user plan ask e) told) at_here put)
