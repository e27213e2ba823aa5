-- What a request puts under the plan of its catalogue agrees with the catalogue.
use Rattle.std.proofs.Common.{◌≡◌, ℕ, Bool, true, false, ◌||◌, List, [], ◌∷◌, ◌++◌, Option, Some, None, length, take, drop, option_map, refl, sym, ap, subst, ◌∙◌, arith, append-nil}
use Rattle.std.specs.Prelude.{◌==◌, if◌then◌else◌, is_some, not, option_and_then}
use Rattle.std.proofs.lemmas.Bool.{eqb-true, le-leb}
use Rattle.std.proofs.lemmas.List.{take-append-drop, take_all}
use Rattle.qz_grading.specs.declared.outcome.Moved.{Moved}
use Rattle.qz_grading.specs.declared.outcome.Moved.TheVariants as moved_as
use Rattle.qz_grading.specs.declared.refusal.AttemptId.{AttemptId}
use Rattle.qz_grading.specs.declared.refusal.Refusal.{Refusal}
use Rattle.qz_grading.specs.declared.refusal.Refusal.TheVariants as refusal
use Rattle.qz_grading.specs.declared.response.Step.{Step}
use Rattle.qz_grading.specs.declared.response.Step.TheVariants as step
use Rattle.qz_grading.specs.Behaviours.{first_some, moved, when}
use Rattle.qz_grading.specs.Grading.{at_place}
use Rattle.qz_terms.specs.declared.ask.Ask.{Ask}
use Rattle.qz_terms.specs.declared.people.User.{User}
use Rattle.qz_terms.specs.declared.plan.Plan.{Plan}
use Rattle.qz_terms.specs.declared.record.Event.{Event}
use Rattle.qz_terms.specs.declared.record.Event.TheVariants as event
use Rattle.qz_terms.specs.declared.record.How.{How}
use Rattle.qz_terms.specs.declared.record.How.TheVariants as how
use Rattle.qz_terms.specs.declared.record.Record.{Record}
use Rattle.qz_terms.specs.declared.request.Request.{Request}
use Rattle.qz_terms.specs.declared.request.Request.TheVariants as request
use Rattle.qz_terms.specs.Access.{settled_by, start_cause}
use Rattle.qz_terms.specs.Answer.{acted_or_noted, attempt_named, event_here, is_overdue, list_after, list_with, max_now, moment_of, put_here, record_under, started_by, stepped_by, terms_under}
use Rattle.qz_terms.specs.Catalog as catalog
use Rattle.qz_terms.specs.Cause.{Denied, Granted, Repeated, Verdict, by_key, cause_here, forbidden, missing_here, spells, verdict_here}
use Rattle.qz_terms.specs.History as history
use Rattle.qz_terms.specs.History.{Start}
use Rattle.qz_terms.specs.Legal.{Agrees, AllAgree, EventAgrees, IsLegalCatalog, StepAgrees, TermsAgree}
use Rattle.qz_terms.specs.Lists.{only_if}
use Rattle.qz_terms.specs.SchoolAnswer.{plan_for}
use Rattle.qz_terms.proofs.Standing.{free-by, never-granted}
use Rattle.qz_terms.proofs.Walks.{first_told_in}
use Rattle.qz_school.specs.Agreement.{AgreesUnderAnOlder, AttemptsAreKnown, GoesOnAgreeing, HasQuizReady}
use Rattle.qz_school.proofs.Agreeing.{agrees-longer, all-empty, all-longer, all-push}
use Rattle.qz_school.proofs.Callers.{caller-placed}
use Rattle.qz_serial.proofs.Growing.{quiz-append}
use Rattle.qz_serial.proofs.Longer.{plan-there, quiz-stays, ready-stays, user-stays}
use Rattle.qz_serial.proofs.Places.{some-there}
use Rattle.qz_school.proofs.Slotting.{both-true, start-learns}
use Rattle.qz_serial.proofs.Plans.{planned-so}

-- ---- what is put under it

whole : (c : List Record) (n : ℕ) → n ≡ length c → take n c ≡ c
whole c n is = take_all n c (omega arith)

-- the terms under a plan that is ready
abbrev terms-agree : (c : List Record) (r : Record) (q u : ℕ) (plan : Plan) → r.terms ≡ Some (terms_under plan) → catalog.plan c q u ≡ Some plan → plan.ready ≡ true → TermsAgree c r q u
terms-agree c r q u plan terms told ready =
    let at = (planned-so c q u plan told).at in
    record {
      terms = terms_under plan;
      terms_are = terms;
      within = le-leb plan.at (length c) (omega arith);
      plan = plan;
      plan_is = rw (whole c plan.at at) told;
      settings = refl;
      ready = ready;
    }

-- ---- a start

ready-by : (b : Bool) (r : Refusal) (os : List (Option Refusal)) → first_some (when (not b) r ∷ os) ≡ None → b ≡ true
ready-by true r os none = refl
ready-by false r os none = absurd cc

first-none : (o p : Option Refusal) → first_some (o ∷ p ∷ []) ≡ None → o ≡ None
first-none None p none = refl
first-none (Some r) p none = absurd cc

start-ready : (h : List Record) (moment : ℕ) (user : User) (plan : Plan) (q : ℕ) → cause_here h moment user plan (request.Start q) ≡ None → plan.ready ≡ true
start-ready h moment user plan q none = ready-by plan.ready (refusal.NotOpen 0) _ (first-none (start_cause plan.settings plan.ready moment _ _) _ none)

start-agrees : (c h : List Record) (moment : ℕ) (user : User) (key : Option (List ℕ)) (plan : Plan) (q : ℕ) → IsLegalCatalog c → catalog.plan c q user.number ≡ Some plan → plan.ready ≡ true → at_place (catalog.users c) user.number ≡ Some user
    → EventAgrees c h (record_under moment user user.number key plan (started_by h user plan)) (started_by h user plan)
start-agrees c h moment user key plan q legal told ready there =
    let p = planned-so c q user.number plan told in
    let all = whole c plan.at p.at in
    let told_so : catalog.plan c plan.quiz user.number ≡ Some plan = subst (λ n. catalog.plan c n user.number ≡ Some plan) (sym p.quiz) told in
    record {
      its_terms = terms-agree c (record_under moment user user.number key plan (started_by h user plan)) plan.quiz user.number plan refl told_so ready;
      owner = rw (all, there) refl;
      behaviour = refl;
      bounds_are = refl;
      learns = rw (all, p.slots, p.questions) (start-learns c h q legal);
    }

-- ---- an attempt that agrees has a quiz that is ready, and a user

record IsKnown (c : List Record) (a : AttemptId) (q : ℕ) : Type 0 where
  ready : catalog.is_ready c q ≡ true
  quiz : is_some (at_place (catalog.quizzes c) q) ≡ true
  user : is_some (at_place (catalog.users c) a.user) ≡ true

begun-quiz : (a b : AttemptId) (s t : Start) (same : Bool) → history.same_attempt a b ≡ same → (if same then Some s else None) ≡ Some t → (t.quiz ≡ s.quiz) × (history.same_attempt a b ≡ true)
begun-quiz a b s t true is found = let first : s ≡ t = cc in (ap (λ (x : Start). x.quiz) (sym first), is)
begun-quiz a b s t false is found = absurd cc

one-user : (a b : AttemptId) → history.same_attempt a b ≡ true → b.user ≡ a.user
one-user a b same = sym (eqb-true a.user b.user (both-true (a.user == b.user) (a.nth == b.nth) same).0)

-- what is there in the first records is there
known-whole : (c : List Record) (n : ℕ) (a : AttemptId) (q : ℕ) → IsKnown (take n c) a q → IsKnown c a q
known-whole c n a q k =
    let quiz = some-there (at_place (catalog.quizzes (take n c)) q) k.quiz in
    let user = some-there (at_place (catalog.users (take n c)) a.user) k.user in
    subst (λ (d : List Record). IsKnown d a q) (take-append-drop n c) (record {
      ready = ready-stays (take n c) (drop n c) q k.ready;
      quiz = ap is_some (quiz-stays (take n c) (drop n c) q quiz.0 quiz.1);
      user = ap is_some (user-stays (take n c) (drop n c) a.user user.0 user.1);
    })

begun-known : (c l : List Record) (r : Record) (e : Event) (a : AttemptId) (s : Start) → EventAgrees c l r e → option_and_then (only_if (λ (x : Start). history.same_attempt a x.attempt)) (history.start_by r e) ≡ Some s → IsKnown c a s.quiz
begun-known c l r (event.Started quiz nth b bounds learned) a s agrees found =
    let t = agrees.its_terms in
    let p = planned-so (take t.terms.at c) quiz r.owner t.plan t.plan_is in
    let own : AttemptId = record { user = r.owner; nth = nth } in
    let begun = begun-quiz a own (record { attempt = own; moment = r.moment; quiz = quiz; behaviour = b; bounds = bounds }) s (history.same_attempt a own) refl found in
    let known : IsKnown (take t.terms.at c) a quiz = record {
      ready = sym p.ready ∙ t.ready;
      quiz = sym (plan-there (take t.terms.at c) quiz r.owner) ∙ ap is_some t.plan_is;
      user = subst (λ n. is_some (at_place (catalog.users (take t.terms.at c)) n) ≡ true) (one-user a own begun.1) agrees.owner;
    } in
    subst (IsKnown c a) (sym begun.0) (known-whole c t.terms.at a quiz known)
begun-known c l r e a s agrees found = absurd cc

known-by : (c h : List Record) (a : AttemptId) (q : ℕ) (o : Option Start) → AllAgree c h → history.start h a ≡ o → option_map (λ (s : Start). s.quiz) o ≡ Some q → IsKnown c a q
known-by c h a q None all is of_quiz = absurd cc
known-by c h a q (Some s) all is of_quiz =
    let begun = first_told_in (history.starts a) h s is in
    let agrees = all.each begun.front begun.item begun.rest begun.stands in
    let same : s.quiz ≡ q = cc in
    subst (IsKnown c a) same (begun-known c begun.front begun.item begun.item.event a s agrees.event begun.tells)

known : (c h : List Record) (a : AttemptId) (q : ℕ) → AllAgree c h → history.quiz h a ≡ Some q → IsKnown c a q
known c h a q all of_quiz = known-by c h a q (history.start h a) all refl of_quiz

pub known_law : AttemptsAreKnown
known_law = record {
  quiz = λ c h a q all of_quiz. (known c h a q all of_quiz).quiz;
  user = λ c h a q all of_quiz. (known c h a q all of_quiz).user;
}

-- ---- a step or an end

record Planning (c h : List Record) (a : AttemptId) (plan : Plan) : Type 0 where
  quiz : ℕ
  of_quiz : history.quiz h a ≡ Some quiz
  told : catalog.plan c quiz a.user ≡ Some plan

planning-by : (c h : List Record) (a : AttemptId) (plan : Plan) (o : Option ℕ) → history.quiz h a ≡ o → option_and_then (λ q. catalog.plan c q a.user) o ≡ Some plan → Planning c h a plan
planning-by c h a plan None is told = absurd cc
planning-by c h a plan (Some q) is told = record { quiz = q; of_quiz = is; told = told }

step-agrees : (c h : List Record) (r : Record) (a : AttemptId) (plan : Plan) (x : Request) → HasQuizReady c h x → attempt_named x ≡ Some a → r.terms ≡ Some (terms_under plan) → option_and_then (λ q. catalog.plan c q a.user) (history.quiz h a) ≡ Some plan → StepAgrees c h r a
step-agrees c h r a plan x there named terms told =
    let p = planning-by c h a plan (history.quiz h a) refl told in
    let ready = (planned-so c p.quiz a.user plan p.told).ready ∙ there.ready a p.quiz named p.of_quiz in
    record { quiz = p.quiz; of_quiz = p.of_quiz; its_terms = terms-agree c r p.quiz a.user plan terms p.told ready }

stepped-agrees : (c h : List Record) (r : Record) (v : Moved) (a : AttemptId) (k : ℕ) (s : Step) → StepAgrees c h r a → EventAgrees c h r (acted_or_noted v a k s)
stepped-agrees c h r moved_as.Kept a k s agrees = agrees
stepped-agrees c h r moved_as.Same a k s agrees = agrees

-- ---- one more record

record IsPutUnder (c h : List Record) (moment : ℕ) (user : User) (plan : Plan) (key : Option (List ℕ)) (x : Request) : Type 0 where
  legal : IsLegalCatalog c
  there : HasQuizReady c h x
  placed : (user.number == 0) || is_some (at_place (catalog.users c) user.number) ≡ true
  known : (user.number == 0) ≡ false → at_place (catalog.users c) user.number ≡ Some user
  planned : plan_for c h user x ≡ Some plan
  allowed : forbidden user x ≡ None
  causeless : cause_here h moment user plan x ≡ None

put-event : (c h : List Record) (moment : ℕ) (user : User) (plan : Plan) (key : Option (List ℕ)) (x : Request) (owner : ℕ) (e : Event) (r : Record) → IsPutUnder c h moment user plan key x
    → EventAgrees c h (record_under moment user owner key plan e) e → Some (record_under moment user owner key plan e) ≡ Some r → Agrees c h r
put-event c h moment user plan key x owner e r p agrees put =
    let same : record_under moment user owner key plan e ≡ r = cc in
    subst (Agrees c h) same (record { caller = p.placed; event = agrees })

not-worker : (user : User) (q : ℕ) (b : Bool) → (user.number == 0) ≡ b → forbidden user (request.Start q) ≡ None → (user.number == 0) ≡ false
not-worker user q true is allowed = let none : Some (refusal.Forbidden 3) ≡ None = rw is at allowed in absurd cc
not-worker user q false is allowed = is

put-step : (c h : List Record) (moment : ℕ) (user : User) (plan : Plan) (key : Option (List ℕ)) (x : Request) (a : AttemptId) (k : ℕ) (s : Step) (r : Record) → IsPutUnder c h moment user plan key x → attempt_named x ≡ Some a
    → option_and_then (λ q. catalog.plan c q a.user) (history.quiz h a) ≡ Some plan → Some (record_under moment user a.user key plan (stepped_by h a k s)) ≡ Some r → Agrees c h r
put-step c h moment user plan key x a k s r p named told put =
    let made = record_under moment user a.user key plan (stepped_by h a k s) in
    put-event c h moment user plan key x a.user (stepped_by h a k s) r p (stepped-agrees c h made (moved (history.steps h a k) s) a k s (step-agrees c h made a plan x p.there named refl told)) put

put-settled : (c h : List Record) (moment : ℕ) (user : User) (plan : Plan) (key : Option (List ℕ)) (x : Request) (a : AttemptId) (how : How) (r : Record) (overdue : Bool) → IsPutUnder c h moment user plan key x → attempt_named x ≡ Some a
    → option_and_then (λ q. catalog.plan c q a.user) (history.quiz h a) ≡ Some plan → option_map (λ (e : ℕ × Event). record_under moment user e.0 key plan e.1) (if overdue then Some (a.user, event.Ended a how) else None) ≡ Some r → Agrees c h r
put-settled c h moment user plan key x a how r true p named told put =
    put-event c h moment user plan key x a.user (event.Ended a how) r p (step-agrees c h (record_under moment user a.user key plan (event.Ended a how)) a plan x p.there named refl told) put
put-settled c h moment user plan key x a how r false p named told put = absurd cc

put-by : (c h : List Record) (moment : ℕ) (user : User) (plan : Plan) (key : Option (List ℕ)) (x : Request) (r : Record) → IsPutUnder c h moment user plan key x
    → option_map (λ (e : ℕ × Event). record_under moment user e.0 key plan e.1) (event_here h moment user plan x) ≡ Some r → Agrees c h r
put-by c h moment user plan key (request.Start q) r p put =
    let there = p.known (not-worker user q (user.number == 0) refl p.allowed) in
    put-event c h moment user plan key (request.Start q) user.number (started_by h user plan) r p (start-agrees c h moment user key plan q p.legal p.planned (start-ready h moment user plan q p.causeless) there) put
put-by c h moment user plan key (request.Save a k certainty response) r p put = put-step c h moment user plan key (request.Save a k certainty response) a k (step.Save (record { answer = response; certainty = certainty })) r p refl p.planned put
put-by c h moment user plan key (request.Submit a k certainty response) r p put = put-step c h moment user plan key (request.Submit a k certainty response) a k (step.Submit (record { answer = response; certainty = certainty })) r p refl p.planned put
put-by c h moment user plan key (request.Again a k) r p put =
    put-event c h moment user plan key (request.Again a k) a.user (event.Acted a k step.Again) r p (step-agrees c h (record_under moment user a.user key plan (event.Acted a k step.Again)) a plan (request.Again a k) p.there refl refl p.planned) put
put-by c h moment user plan key (request.Finish a) r p put =
    put-event c h moment user plan key (request.Finish a) a.user (event.Ended a how.Finished) r p (step-agrees c h (record_under moment user a.user key plan (event.Ended a how.Finished)) a plan (request.Finish a) p.there refl refl p.planned) put
put-by c h moment user plan key (request.Mark a k mark) r p put =
    let e = event.Acted a k (step.Mark mark (max_now h a k)) in
    put-event c h moment user plan key (request.Mark a k mark) a.user e r p (step-agrees c h (record_under moment user a.user key plan e) a plan (request.Mark a k mark) p.there refl refl p.planned) put
put-by c h moment user plan key (request.Settle a) r p put = put-settled c h moment user plan key (request.Settle a) a (settled_by plan.settings.handling) r (is_overdue h moment plan a) p refl p.planned put
put-by c h moment user plan key x r p put = absurd cc

-- what a request puts agrees with the catalogue that gave its plan
put-here-agrees : (c h : List Record) (moment : ℕ) (user : User) (plan : Plan) (ask : Ask) (r : Record) → IsLegalCatalog c → HasQuizReady c h ask.request → catalog.user_of c ask.caller ≡ Some user → plan_for c h user ask.request ≡ Some plan
    → verdict_here h moment user plan ask ≡ Granted → put_here h moment user plan ask ≡ Some r → Agrees c h r
put-here-agrees c h moment user plan ask r legal there found planned granted put =
    let parts = free-by (forbidden user ask.request) (missing_here h user ask.request) (by_key (spells ask.request) user.number ask.key h) (cause_here h moment user plan ask.request) (never-granted (spells ask.request) user.number ask.key h) granted in
    let placed = caller-placed c ask.caller user found in
    put-by c h moment user plan ask.key ask.request r (record {
      legal = legal;
      there = there;
      placed = placed.0;
      known = placed.1;
      planned = planned;
      allowed = parts.0;
      causeless = parts.3;
    }) put

list-agrees : (c h : List Record) (v : Verdict) (put : Option Record) → AllAgree c h → ((r : Record) → v ≡ Granted → put ≡ Some r → AllAgree c (h ++ r ∷ [])) → AllAgree c (list_with v h put)
list-agrees c h (Denied r) put all more = all
list-agrees c h (Repeated l r) put all more = all
list-agrees c h Granted None all more = subst (AllAgree c) (sym (append-nil h)) all
list-agrees c h Granted (Some r) all more = more r refl refl

-- the quiz of each attempt of a shard that agrees is ready
ready-there : (c h : List Record) (x : Request) → AllAgree c h → HasQuizReady c h x
ready-there c h x all = record { ready = λ a q named of_quiz. (known c h a q all of_quiz).ready }

put-agrees : (c h : List Record) (moment : ℕ) (user : User) (plan : Plan) (ask : Ask) (r : Record) → IsLegalCatalog c → AllAgree c h → catalog.user_of c ask.caller ≡ Some user → plan_for c h user ask.request ≡ Some plan
    → verdict_here h moment user plan ask ≡ Granted → put_here h moment user plan ask ≡ Some r → AllAgree c (h ++ r ∷ [])
put-agrees c h moment user plan ask r legal all found planned granted put =
    all-push c h r all (put-here-agrees c h moment user plan ask r legal (ready-there c h ask.request all) found planned granted put)

answered-agrees : (c h : List Record) (now : ℕ) (user : User) (plan : Plan) (ask : Ask) → IsLegalCatalog c → AllAgree c h → catalog.user_of c ask.caller ≡ Some user → plan_for c h user ask.request ≡ Some plan → AllAgree c (list_after h now user plan ask)
answered-agrees c h now user plan ask legal all found planned =
    let moment = moment_of h now user ask.request in
    list-agrees c h (verdict_here h moment user plan ask) (put_here h moment user plan ask) all (λ r granted put. put-agrees c h moment user plan ask r legal all found planned granted put)

pub agreeing_law : GoesOnAgreeing
agreeing_law = record { empty = all-empty; longer = all-longer; put = put-agrees; answered = answered-agrees }

-- ---- under an older catalogue

older-answered : (c rest h : List Record) (now : ℕ) (user : User) (plan : Plan) (ask : Ask) → IsLegalCatalog c → AllAgree (c ++ rest) h → HasQuizReady c h ask.request → catalog.user_of c ask.caller ≡ Some user → plan_for c h user ask.request ≡ Some plan
    → AllAgree (c ++ rest) (list_after h now user plan ask)
older-answered c rest h now user plan ask legal all there found planned =
    let moment = moment_of h now user ask.request in
    list-agrees (c ++ rest) h (verdict_here h moment user plan ask) (put_here h moment user plan ask) all
    (λ r granted put. all-push (c ++ rest) h r all (agrees-longer c rest h r (put-here-agrees c h moment user plan ask r legal there found planned granted put)))

one-quiz : (o : Option ℕ) (p : Option ℕ) (q : ℕ) → is_some o ≡ true → ((n : ℕ) → o ≡ Some n → p ≡ Some n) → p ≡ Some q → o ≡ Some q
one-quiz None p q some stays is = absurd cc
one-quiz (Some n) p q some stays is = let same : p ≡ Some n = stays n refl in cc

older-ready : (c h more : List Record) (x : Request) → AllAgree c h → ((a : AttemptId) → attempt_named x ≡ Some a → is_some (history.quiz h a) ≡ true) → HasQuizReady c (h ++ more) x
older-ready c h more x all there = record {
  ready = λ a q named of_quiz. (known c h a q all (one-quiz (history.quiz h a) (history.quiz (h ++ more) a) q (there a named) (λ n is. quiz-append h more a n (history.start h a) refl is) of_quiz)).ready;
}

pub older_law : AgreesUnderAnOlder
older_law = record { answered = older-answered; ready = older-ready }
