-- A record that a request makes may stand at the end of the list.
use Rattle.std.proofs.Common.{◌≡◌, ℕ, ltb, leb, Bool, true, false, not, ◌||◌, List, [], ◌∷◌, Option, Some, None, length, map, refl, ap, arith, eq-eqb}
use Rattle.std.specs.Prelude.{filter, is_none, if◌then◌else◌}
use Rattle.std.specs.List.{list_all}
use Rattle.std.proofs.lemmas.Bool.{ltb-false, le-leb}
use Rattle.qz_grading.specs.declared.outcome.Moved.{Moved}
use Rattle.qz_grading.specs.declared.outcome.Moved.TheVariants as moved
use Rattle.qz_grading.specs.declared.refusal.AttemptId.{AttemptId}
use Rattle.qz_grading.specs.declared.refusal.Refusal.{Refusal}
use Rattle.qz_grading.specs.declared.refusal.Refusal.TheVariants as refusal
use Rattle.qz_grading.specs.declared.refusal.Thing.TheVariants as thing
use Rattle.qz_grading.specs.declared.response.Step.{Step}
use Rattle.qz_grading.specs.Behaviours.{first_some, when}
use Rattle.qz_terms.specs.declared.ask.Ask.{Ask}
use Rattle.qz_terms.specs.declared.people.Caller.{Caller}
use Rattle.qz_terms.specs.declared.people.User.{User}
use Rattle.qz_terms.specs.declared.plan.Plan.{Plan}
use Rattle.qz_terms.specs.declared.plan.Planned.{Planned}
use Rattle.qz_terms.specs.declared.record.Event.{Event}
use Rattle.qz_terms.specs.declared.record.Event.TheVariants as event
use Rattle.qz_terms.specs.declared.record.How.{How}
use Rattle.qz_terms.specs.declared.record.Record.{Record}
use Rattle.qz_terms.specs.declared.request.Request.{Request}
use Rattle.qz_terms.specs.declared.request.Request.TheVariants as request
use Rattle.qz_terms.specs.Access.{start_cause}
use Rattle.qz_terms.specs.Answer.{acted_or_noted, bind, put_here, record_under, started_by, terms_under}
use Rattle.qz_terms.specs.Cause.{Granted, by_key, cause_here, has_key, is_anothers, is_keyed, missing_attempt, missing_here, spells, too_many, unfinished_at, verdict_here}
use Rattle.qz_terms.specs.Legal.{EventIsAllowed, IsAllowed, IsLegal, IsPut, bound_at, is_here, is_plan_for, new_key_by, owner_by}
use Rattle.qz_terms.specs.Lists.{first_of}
use Rattle.qz_terms.specs.History.{attempts, floor, start, time}
use Rattle.qz_shard.specs.Holdings.{older}
use Rattle.qz_lives.proofs.Keeping.{start-here}
use Rattle.qz_legal.proofs.Learning.{learns-new}
use Rattle.qz_terms.proofs.Standing.{free-by, never-granted, none-passes, unmapped}
use Rattle.qz_lives.proofs.Legality.{IsFree}

-- ---- the moment and the key

pub time-again : (h : List Record) (u now : ℕ) → time h u (time h u now) ≡ time h u now
time-again h u now = omega arith

new-key : (h : List Record) (is_same : Record → Bool) (caller : ℕ) (key : Option (List ℕ)) → by_key is_same caller key h ≡ None → new_key_by h caller key ≡ true
new-key h is_same caller None fresh = refl
new-key h is_same caller (Some key) fresh = ap not (none-passes (has_key caller key) h (unmapped _ (first_of (filter (has_key caller key) h)) fresh))

-- ---- an event on an attempt

pub data IsOn : AttemptId → Event → Type 0 where
  acted : (a : AttemptId) (k : ℕ) (s : Step) → IsOn a (event.Acted a k s)
  noted : (a : AttemptId) (k : ℕ) (s : Step) → IsOn a (event.Noted a k s)
  ended : (a : AttemptId) (how : How) → IsOn a (event.Ended a how)

pub on-step : (v : Moved) (a : AttemptId) (k : ℕ) (s : Step) → IsOn a (acted_or_noted v a k s)
on-step moved.Kept a k s = acted a k s
on-step moved.Same a k s = noted a k s

on-owner : (index count : ℕ) (r : Record) (a : AttemptId) (e : Event) → IsOn a e → r.owner ≡ a.user → is_here index count a.user ≡ true → owner_by index count r e ≡ true
on-owner index count r a e (acted b k s) owner here = rw (eq-eqb r.owner b.user owner, here) refl
on-owner index count r a e (noted b k s) owner here = rw (eq-eqb r.owner b.user owner, here) refl
on-owner index count r a e (ended b how) owner here = rw (eq-eqb r.owner b.user owner, here) refl

on-event : (h : List Record) (r : Record) (a : AttemptId) (e : Event) → IsOn a e → IsPut h r → EventIsAllowed h r e
on-event h r a e (acted b k s) put = put
on-event h r a e (noted b k s) put = put
on-event h r a e (ended b how) put = put

-- the attempt is there
started-some : {A : Type 0} (o : Option A) (b : Bool) (r : Refusal) → when (b || is_none o) r ≡ None → (x : A) × (o ≡ Some x)
started-some None true r e = absurd cc
started-some None false r e = absurd cc
started-some (Some x) b r e = (x, refl)

pub first-none : {A : Type 0} (o : Option A) (os : List (Option A)) → first_some (o ∷ os) ≡ None → o ≡ None
first-none None os e = refl
first-none (Some x) os e = absurd cc

pub there-here : (index count : ℕ) (h : List Record) (user : User) (a : AttemptId) → IsLegal index count h → missing_attempt h user a ≡ None → is_here index count a.user ≡ true
there-here index count h user a legal there =
    let begun = started-some (start h a) (is_anothers user a.user) (refusal.Unknown thing.Attempt) there in
    start-here index count h a begun.0 legal begun.1

-- ---- a start

ready-by : (b : Bool) (r : Refusal) (rest : List (Option Refusal)) → first_some (when (not b) r ∷ rest) ≡ None → b ≡ true
ready-by true r rest e = refl
ready-by false r rest e = absurd cc

bounds-at : (at : ℕ) (plan : Plan) (ss : List Planned) → list_all (bound_at (Some (terms_under plan))) (map (bind plan.at) ss) ≡ true
bounds-at at plan [] = refl
bounds-at at plan (s ∷ ss) = rw (eq-eqb plan.at plan.at refl) (bounds-at at plan ss)

newer-by : (at least : ℕ) (b : Bool) → ltb at least ≡ b → (if b then Some least else None) ≡ None → leb least at ≡ true
newer-by at least true is e = absurd cc
newer-by at least false is e = le-leb least at (ltb-false at least is)

abbrev pub ask_of : Caller → Option (List ℕ) → Request → Ask
ask_of who key x = record { caller = who; key = key; request = x }

-- what is known of a request that is granted
pub record IsGranted (index count : ℕ) (h : List Record) (moment : ℕ) (user : User) (plan : Plan) (who : Caller) (key : Option (List ℕ)) (x : Request) : Type 0 where
  pub legal : IsLegal index count h
  pub keyed : is_keyed (ask_of who key x) ≡ true
  pub of_quiz : is_plan_for h plan x ≡ true
  pub granted : verdict_here h moment user plan (ask_of who key x) ≡ Granted

free-of : (index count : ℕ) (h : List Record) (moment : ℕ) (user : User) (plan : Plan) (who : Caller) (key : Option (List ℕ)) (x : Request) → IsGranted index count h moment user plan who key x → IsFree h moment user plan key x
free-of index count h moment user plan who key x g =
    let parts = free-by _ (missing_here h user x) (by_key (spells x) user.number key h) (cause_here h moment user plan x) (never-granted (spells x) user.number key h) g.granted in
    record { allowed = parts.0; there = parts.1; fresh = parts.2; causeless = parts.3 }

abbrev record_of : ℕ → User → ℕ → Option (List ℕ) → Plan → Event → Record
record_of moment user o key plan e = record_under moment user o key plan e

pub start-allowed : (index count : ℕ) (h : List Record) (now : ℕ) (user : User) (plan : Plan) (who : Caller) (key : Option (List ℕ)) (quiz : ℕ)
    → IsGranted index count h (time h user.number now) user plan who key (request.Start quiz) → is_here index count user.number ≡ true → length plan.questions ≡ length plan.slots → older h plan (request.Start quiz) ≡ None
    → IsAllowed index count h (record_of (time h user.number now) user user.number key plan (started_by h user plan))
start-allowed index count h now user plan who key quiz g here whole newer =
    let moment = time h user.number now in
    let free = free-of index count h moment user plan who key (request.Start quiz) g in
    let causes = first-none (start_cause plan.settings plan.ready moment (length (attempts h quiz user.number)) (unfinished_at h plan.settings quiz user.number moment)) (too_many 1000 (length (attempts h quiz user.number)) ∷ []) free.causeless in
    record {
      owner = here;
      moment = time-again h user.number now;
      key = new-key h (spells (request.Start quiz)) user.number key free.fresh;
      event = record {
        is_put = record {
          user = user;
          plan = plan;
          ask = ask_of who key (request.Start quiz);
          keyed = g.keyed;
          by_caller = refl;
          under_terms = refl;
          of_quiz = g.of_quiz;
          when_ready = ready-by plan.ready (refusal.NotOpen 0) _ causes;
          granted = g.granted;
          put = refl;
        };
        learns = learns-new h plan.at plan.slots plan.questions whole;
        above_floor = newer-by plan.at (floor h plan.quiz) (ltb plan.at (floor h plan.quiz)) refl newer;
        at_terms = bounds-at plan.at plan plan.slots;
      };
    }

-- ---- a step or a finish

abbrev pub made_ready : Plan → Plan
made_ready plan = record plan { ready = true }

-- a request on an attempt asks nothing of whether the quiz is ready
pub on-allowed : (index count : ℕ) (h : List Record) (now : ℕ) (user : User) (plan : Plan) (who : Caller) (key : Option (List ℕ)) (x : Request) (a : AttemptId) (e : Event)
    → IsGranted index count h (time h a.user now) user plan who key x → IsGranted index count h (time h a.user now) user (made_ready plan) who key x
    → missing_attempt h user a ≡ None → IsOn a e → put_here h (time h a.user now) user (made_ready plan) (ask_of who key x) ≡ Some (record_of (time h a.user now) user a.user key plan e)
    → IsAllowed index count h (record_of (time h a.user now) user a.user key plan e)
on-allowed index count h now user plan who key x a e g ready there on put =
    let moment = time h a.user now in
    let free = free-of index count h moment user plan who key x g in
    let r : Record = record_of moment user a.user key plan e in
    let put_it : IsPut h r = record {
      user = user;
      plan = made_ready plan;
      ask = ask_of who key x;
      keyed = g.keyed;
      by_caller = refl;
      under_terms = refl;
      of_quiz = ready.of_quiz;
      when_ready = refl;
      granted = ready.granted;
      put = put;
    } in
    record {
      owner = on-owner index count r a e on refl (there-here index count h user a g.legal there);
      moment = time-again h a.user now;
      key = new-key h (spells x) user.number key free.fresh;
      event = on-event h r a e on put_it;
    }
