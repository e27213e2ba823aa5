-- What a legal list tells, of each record and of the lists before it.
use Rattle.std.proofs.Common.{◌≡◌, ℕ, inl, inr, Bool, true, false, List, [], ◌∷◌, ◌++◌, Option, Some, None, refl, sym, ap, subst, ◌∙◌, append_assoc, append-nil, option_map}
use Rattle.std.specs.Prelude.{if◌then◌else◌}
use Rattle.qz_grading.specs.declared.outcome.Moved.{Moved}
use Rattle.qz_grading.specs.declared.outcome.Moved.TheVariants as moved
use Rattle.qz_grading.specs.declared.refusal.AttemptId.{AttemptId}
use Rattle.qz_grading.specs.declared.response.Step.{Step}
use Rattle.qz_terms.specs.declared.plan.Plan.{Plan}
use Rattle.qz_terms.specs.declared.people.User.{User}
use Rattle.qz_terms.specs.declared.plan.Bound.{Bound}
use Rattle.qz_terms.specs.declared.record.Event.{Event}
use Rattle.qz_terms.specs.declared.record.Event.TheVariants as event
use Rattle.qz_terms.specs.declared.record.How.{How}
use Rattle.qz_terms.specs.declared.record.Learned.{Learned}
use Rattle.qz_terms.specs.declared.record.Record.{Record}
use Rattle.qz_terms.specs.declared.request.Request.{Request}
use Rattle.qz_terms.specs.declared.request.Request.TheVariants as request
use Rattle.qz_grading.specs.declared.outcome.Behaviour.{Behaviour}
use Rattle.qz_terms.specs.Answer.{acted_or_noted, event_here, record_under, is_overdue, started_by}
use Rattle.qz_terms.specs.Access.{settled_by}
use Rattle.qz_terms.specs.Cause.{by_key, cause_here, forbidden, missing_here, spells}
use Rattle.qz_terms.specs.Legal.{IsAllowed, IsLegal, IsPut}
use Rattle.qz_terms.specs.History.{next_attempt}
use Rattle.qz_terms.proofs.Standing.{free-by, never-granted}
use Rattle.qz_terms.proofs.Walks.{split-push}

-- ---- the lists before

-- what holds of the empty list and stays with each record holds of the whole list
go-on : {A : Type 0} (P : List A → Type 0) (h : List A) → ((l : List A) (x : A) (rest : List A) → h ≡ l ++ x ∷ rest → P l → P (l ++ x ∷ [])) → (l rest : List A) → h ≡ l ++ rest → P l → P h
go-on P h step l [] e p = subst P (sym (e ∙ append-nil l)) p
go-on P h step l (x ∷ rest) e p = go-on P h step (l ++ x ∷ []) rest (e ∙ sym (append_assoc l (x ∷ []) rest)) (step l x rest e p)

pub by-prefixes : {A : Type 0} (P : List A → Type 0) (h : List A) → P [] → ((l : List A) (x : A) (rest : List A) → h ≡ l ++ x ∷ rest → P l → P (l ++ x ∷ [])) → P h
by-prefixes P h none step = go-on P h step [] h refl none

pub legal-before : (index count : ℕ) (l rest : List Record) → IsLegal index count (l ++ rest) → IsLegal index count l
legal-before index count l rest legal = record {
  each = λ k r more e. legal.each k r (more ++ rest) (ap (λ (t : List Record). t ++ rest) e ∙ append_assoc k (r ∷ more) rest);
}

-- one more record that is allowed
pub legal-push : (index count : ℕ) (l : List Record) (r : Record) → IsLegal index count l → IsAllowed index count l r → IsLegal index count (l ++ r ∷ [])
legal-push index count l r legal allowed = record {
  each = λ k s rest e. elim (split-push l k r s rest e) [
    | inl same ↦ subst (λ (t : List Record). IsAllowed index count t s) same.0 (subst (λ (t : Record). IsAllowed index count l t) same.1 allowed)
    | inr behind ↦ legal.each k s behind.0 behind.1
  ];
}

-- ---- what a record that a request put tells

event-of : (moment : ℕ) (user : User) (key : Option (List ℕ)) (plan : Plan) (o : Option (ℕ × Event)) (r : Record) → option_map (λ (e : ℕ × Event). record_under moment user e.0 key plan e.1) o ≡ Some r → o ≡ Some (r.owner, r.event)
event-of moment user key plan None r e = absurd cc
event-of moment user key plan (Some d) r e =
    let same : record_under moment user d.0 key plan d.1 ≡ r = cc in
    ap (λ (t : Record). Some (t.owner, t.event)) same

pub event-put : (l : List Record) (r : Record) → (p : IsPut l r) → event_here l r.moment p.user p.plan p.ask.request ≡ Some (r.owner, r.event)
event-put l r p = event-of r.moment p.user p.ask.key p.plan (event_here l r.moment p.user p.plan p.ask.request) r p.put

-- ---- what a request that is granted tells

-- no refusal, and no kept reply
pub record IsFree (h : List Record) (moment : ℕ) (user : User) (plan : Plan) (key : Option (List ℕ)) (x : Request) : Type 0 where
  pub allowed : forbidden user x ≡ None
  pub there : missing_here h user x ≡ None
  pub fresh : by_key (spells x) user.number key h ≡ None
  pub causeless : cause_here h moment user plan x ≡ None

pub free-put : (l : List Record) (r : Record) → (p : IsPut l r) → IsFree l r.moment p.user p.plan p.ask.key p.ask.request
free-put l r p =
    let parts = free-by (forbidden p.user p.ask.request) (missing_here l p.user p.ask.request) (by_key (spells p.ask.request) p.user.number p.ask.key l) (cause_here l r.moment p.user p.plan p.ask.request)
    (never-granted (spells p.ask.request) p.user.number p.ask.key l) p.granted in
    record { allowed = parts.0; there = parts.1; fresh = parts.2; causeless = parts.3 }

-- ---- a start is numbered

abbrev pub told_event : ℕ → Event → Option (ℕ × Event)
told_event u e = Some (u, e)

pub told-pair : (a c : ℕ) (b d : Event) → told_event a b ≡ told_event c d → (a ≡ c) × (b ≡ d)
told-pair a c b d e =
    let first : ℕ × Event = (a, b) in
    let second : ℕ × Event = (c, d) in
    let same : first ≡ second = cc in
    (ap (λ (t : ℕ × Event). t.0) same, ap (λ (t : ℕ × Event). t.1) same)

abbrev settling : Bool → ℕ → AttemptId → How → Option (ℕ × Event)
settling overdue u a how = if overdue then told_event u (event.Ended a how) else None

not-started-by-step : (v : Moved) (a : AttemptId) (k : ℕ) (s : Step) (q n : ℕ) (b : Behaviour) (bs : List Bound) (ls : List Learned) → acted_or_noted v a k s ≡ event.Started q n b bs ls → ⊥
not-started-by-step moved.Kept a k s q n b bs ls e = absurd cc
not-started-by-step moved.Same a k s q n b bs ls e = absurd cc

not-started-by-settling : (overdue : Bool) (u : ℕ) (a : AttemptId) (how : How) (o q n : ℕ) (b : Behaviour) (bs : List Bound) (ls : List Learned) → settling overdue u a how ≡ told_event o (event.Started q n b bs ls) → ⊥
not-started-by-settling true u a how o q n b bs ls e = let other : event.Ended a how ≡ event.Started q n b bs ls = (told-pair u o _ _ e).1 in absurd cc
not-started-by-settling false u a how o q n b bs ls e = absurd cc

apart-acted : {a : AttemptId} {k : ℕ} {s : Step} {q n : ℕ} {b : Behaviour} {bs : List Bound} {ls : List Learned} → event.Acted a k s ≡ event.Started q n b bs ls → ⊥
apart-acted e = absurd cc

apart-ended : {a : AttemptId} {how : How} {q n : ℕ} {b : Behaviour} {bs : List Bound} {ls : List Learned} → event.Ended a how ≡ event.Started q n b bs ls → ⊥
apart-ended e = absurd cc

number-by : (l : List Record) (moment : ℕ) (user : User) (plan : Plan) (x : Request) (o q n : ℕ) (b : Behaviour) (bs : List Bound) (ls : List Learned) → event_here l moment user plan x ≡ told_event o (event.Started q n b bs ls) → n ≡ (next_attempt l o).nth
number-by l moment user plan (request.Start quiz) o q n b bs ls e =
    let told = told-pair user.number o (started_by l user plan) (event.Started q n b bs ls) e in
    let same : user.number ≡ o = told.0 in
    let event_is : started_by l user plan ≡ event.Started q n b bs ls = told.1 in
    let number : n ≡ (next_attempt l user.number).nth = cc in
    number ∙ ap (λ u. (next_attempt l u).nth) same
number-by l moment user plan (request.Save a k c r) o q n b bs ls e = absurd (not-started-by-step _ a k _ q n b bs ls (told-pair a.user o _ _ e).1)
number-by l moment user plan (request.Submit a k c r) o q n b bs ls e = absurd (not-started-by-step _ a k _ q n b bs ls (told-pair a.user o _ _ e).1)
number-by l moment user plan (request.Again a k) o q n b bs ls e = absurd (apart-acted (told-pair a.user o _ _ e).1)
number-by l moment user plan (request.Finish a) o q n b bs ls e = absurd (apart-ended (told-pair a.user o _ _ e).1)
number-by l moment user plan (request.Mark a k m) o q n b bs ls e = absurd (apart-acted (told-pair a.user o _ _ e).1)
number-by l moment user plan (request.Settle a) o q n b bs ls e = absurd (not-started-by-settling (is_overdue l moment plan a) a.user a (settled_by plan.settings.handling) o q n b bs ls e)
number-by l moment user plan x o q n b bs ls e = absurd cc

pub started-number : (l : List Record) (r : Record) (q n : ℕ) (b : Behaviour) (bs : List Bound) (ls : List Learned) → r.event ≡ event.Started q n b bs ls → IsPut l r → n ≡ (next_attempt l r.owner).nth
started-number l r q n b bs ls is p = number-by l r.moment p.user p.plan p.ask.request r.owner q n b bs ls (event-put l r p ∙ ap (λ (d : Event). Some (r.owner, d)) is)
