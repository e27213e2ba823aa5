-- What an allowed record does at a place of an attempt.
use Rattle.std.proofs.Common.{◌≡◌, ℕ, ℤ, ◌+◌, ◌≤◌, eqb, Bool, true, false, not, ◌&&◌, ◌||◌, List, [], ◌∷◌, ◌++◌, Option, Some, None, length, length-append, refl, sym, ap, subst, ◌∙◌, arith, eq-eqb, option_map}
use Rattle.std.specs.Prelude.{IfSome, filter, is_none, is_some, if◌then◌else◌, option_and_then, unwrap_or}
use Rattle.std.proofs.lemmas.Bool.{eqb-true}
use Rattle.std.proofs.lemmas.List.Elements.{filter-append}
use Rattle.qz_grading.specs.declared.outcome.Behaviour.{Behaviour}
use Rattle.qz_grading.specs.declared.outcome.Moved.{Moved}
use Rattle.qz_grading.specs.declared.outcome.Moved.TheVariants as moved_as
use Rattle.qz_grading.specs.declared.question.Question.{Question}
use Rattle.qz_grading.specs.declared.refusal.AttemptId.{AttemptId}
use Rattle.qz_grading.specs.declared.refusal.Refusal.{Refusal}
use Rattle.qz_grading.specs.declared.refusal.Refusal.TheVariants as refusal
use Rattle.qz_grading.specs.declared.refusal.Thing.TheVariants as thing
use Rattle.qz_grading.specs.declared.response.Step.{Step}
use Rattle.qz_grading.specs.declared.response.Step.TheVariants as step
use Rattle.qz_grading.specs.Behaviours.{first_some, moved, when}
use Rattle.qz_grading.specs.Slots.{step_cause}
use Rattle.qz_grading.specs.Steps.{given, is_finish}
use Rattle.qz_terms.specs.declared.people.User.{User}
use Rattle.qz_terms.specs.declared.plan.Bound.{Bound}
use Rattle.qz_terms.specs.declared.plan.Plan.{Plan}
use Rattle.qz_terms.specs.declared.record.Event.{Event}
use Rattle.qz_terms.specs.declared.record.Event.TheVariants as event
use Rattle.qz_terms.specs.declared.record.How.{How}
use Rattle.qz_terms.specs.declared.record.How.TheVariants as how
use Rattle.qz_terms.specs.declared.record.Learned.{Learned}
use Rattle.qz_terms.specs.declared.record.Record.{Record}
use Rattle.qz_terms.specs.declared.request.Request.{Request}
use Rattle.qz_terms.specs.declared.request.Request.TheVariants as request
use Rattle.qz_terms.specs.Access.{closed_at, expired, finish_cause, settled_by}
use Rattle.qz_terms.specs.Answer.{acted_or_noted, event_here, is_overdue, max_now}
use Rattle.qz_terms.specs.Cause.{answering_cause, cause_here, is_anothers, missing_attempt, missing_here, missing_slot, refusal_shown, sees_marks, slot_cause}
use Rattle.qz_terms.specs.Legal.{EventIsAllowed, IsLegal, IsPut}
use Rattle.qz_terms.specs.History.{Slot, Start, is_owned, started, bound, ended, ended_at, is_ended, quiz, same_attempt, slot, slot_with, start, steps, version}
use Rattle.qz_terms.specs.Lists.{how_many}
use Rattle.qz_terms.proofs.Standing.{unmapped}
use Rattle.qz_lives.proofs.Keeping.{and-left, and-right, start-record}
use Rattle.qz_lives.proofs.Legality.{event-put, free-put, started-number, told_event, told-pair}

-- ---- attempts

abbrev pub starts_one : ℕ → Record → Bool
starts_one u r = is_owned u r && is_some (started r)

-- how many attempts a user has started
abbrev pub made : List Record → ℕ → ℕ
made l u = how_many (starts_one u) l

abbrev pub attempt_of : ℕ → ℕ → AttemptId
attempt_of u n = record { user = u; nth = n }

alike : (u v n m : ℕ) → u ≡ v → n ≡ m → attempt_of u n ≡ attempt_of v m
alike u v n m users numbers = rw (users, numbers) refl

pub one-attempt : (a b : AttemptId) → same_attempt a b ≡ true → a ≡ b
one-attempt a b is = alike a.user b.user a.nth b.nth (eqb-true a.user b.user (and-left (eqb a.user b.user) (eqb a.nth b.nth) is)) (eqb-true a.nth b.nth (and-right (eqb a.user b.user) (eqb a.nth b.nth) is))

-- a start that stands in a list counts there
counted : (front rest : List Record) (r : Record) (u : ℕ) → starts_one u r ≡ true → made front u + 1 ≤ made (front ++ r ∷ rest) u
counted front rest r u is =
    let split : filter (starts_one u) (front ++ r ∷ rest) ≡ filter (starts_one u) front ++ filter (starts_one u) (r ∷ rest) = filter-append (starts_one u) front (r ∷ rest) in
    let one : filter (starts_one u) (r ∷ rest) ≡ r ∷ filter (starts_one u) rest = rw is refl in
    let long = length-append (filter (starts_one u) front) (filter (starts_one u) (r ∷ rest)) in
    let whole : made (front ++ r ∷ rest) u ≡ made front u + length (r ∷ filter (starts_one u) rest) = ap length split ∙ long ∙ ap (λ (t : List Record). made front u + length t) one in
    omega arith

-- an attempt that is started has a number that was given
pub number-given : (index count : ℕ) (l : List Record) (a : AttemptId) (s : Start) → IsLegal index count l → start l a ≡ Some s → a.nth ≤ made l a.user
number-given index count l a s legal is =
    let t = start-record l a s is in
    let allowed : EventIsAllowed t.front t.item (event.Started s.quiz a.nth s.behaviour s.bounds t.learned) = subst (EventIsAllowed t.front t.item) t.event (legal.each t.front t.item t.rest t.stands).event in
    let number = started-number t.front t.item s.quiz a.nth s.behaviour s.bounds t.learned t.event allowed.is_put in
    let begins : starts_one a.user t.item ≡ true = rw (eq-eqb t.item.owner a.user t.owner, t.event) refl in
    let more : made t.front a.user + 1 ≤ made l a.user = subst (λ (h : List Record). made t.front a.user + 1 ≤ made h a.user) (sym t.stands) (counted t.front t.rest t.item a.user begins) in
    let given : a.nth ≡ made t.front a.user + 1 = number ∙ ap (λ u. made t.front u + 1) t.owner in
    omega arith

-- ---- a step that is taken

-- it is taken on a slot that is there, and nothing holds against it
pub record IsActed (l : List Record) (a : AttemptId) (k : ℕ) (x : Step) : Type 0 where
  pub user : User
  pub there : missing_slot l user a k ≡ None
  pub causeless : (s : Slot) → slot l a k ≡ Some s → step_cause s.behaviour s.question s.bound.max s.steps x ≡ None
  pub max : IfSome (given x) (λ m. m.1 ≡ max_now l a k)
  pub unfinished : is_finish x ≡ false

free-by : (l : List Record) (moment : ℕ) (user : User) (plan : Plan) (a : AttemptId) (k : ℕ) (f : ℤ → Step) (o : Option Slot) (s : Slot) → o ≡ Some s
    → option_and_then (λ (s : Slot). option_map (refusal_shown (sees_marks l plan.settings user a moment)) (step_cause s.behaviour s.question s.bound.max s.steps (f s.bound.max))) o ≡ None
    → step_cause s.behaviour s.question s.bound.max s.steps (f s.bound.max) ≡ None
free-by l moment user plan a k f None s is none = absurd cc
free-by l moment user plan a k f (Some t) s is none =
    let same : t ≡ s = cc in
    subst (λ (x : Slot). step_cause x.behaviour x.question x.bound.max x.steps (f x.bound.max) ≡ None) same (unmapped (refusal_shown (sees_marks l plan.settings user a moment)) (step_cause t.behaviour t.question t.bound.max t.steps (f t.bound.max)) none)

pub free-slot : (l : List Record) (moment : ℕ) (user : User) (plan : Plan) (a : AttemptId) (k : ℕ) (f : ℤ → Step) (s : Slot) → slot l a k ≡ Some s → slot_cause l moment user plan a k f ≡ None → step_cause s.behaviour s.question s.bound.max s.steps (f s.bound.max) ≡ None
free-slot l moment user plan a k f s is none = free-by l moment user plan a k f (slot l a k) s is none

pub first-two : {A : Type 0} (o p : Option A) → first_some (o ∷ p ∷ []) ≡ None → (o ≡ None) × (p ≡ None)
first-two None None none = (refl, refl)
first-two None (Some x) none = absurd cc
first-two (Some x) p none = absurd cc

abbrev Same3 : AttemptId → ℕ → Step → AttemptId → ℕ → Step → Type 0
Same3 b j s a k x = (b ≡ a) × (j ≡ k) × (s ≡ x)

acted-same : (b : AttemptId) (j : ℕ) (s : Step) (a : AttemptId) (k : ℕ) (x : Step) → event.Acted b j s ≡ event.Acted a k x → Same3 b j s a k x
acted-same b j s a k x is = (cc, cc, cc)

step-acted : (v : Moved) (b : AttemptId) (j : ℕ) (s : Step) (a : AttemptId) (k : ℕ) (x : Step) → acted_or_noted v b j s ≡ event.Acted a k x → Same3 b j s a k x
step-acted moved_as.Kept b j s a k x is = acted-same b j s a k x is
step-acted moved_as.Same b j s a k x is = absurd cc

pub acted-as : (l : List Record) (b : AttemptId) (j : ℕ) (s : Step) (a : AttemptId) (k : ℕ) (x : Step) → Same3 b j s a k x → IsActed l b j s → IsActed l a k x
acted-as l b j s a k x same acted = subst (λ (y : Step). IsActed l a k y) same.2 (subst (λ (n : ℕ). IsActed l a n s) same.1 (subst (λ (c : AttemptId). IsActed l c j s) same.0 acted))

-- of a Save, a Submit or an Again
acted-answering : (l : List Record) (moment : ℕ) (user : User) (plan : Plan) (a : AttemptId) (k : ℕ) (x : Step) → missing_slot l user a k ≡ None → answering_cause l moment user plan a k x ≡ None → IfSome (given x) (λ m. m.1 ≡ max_now l a k) → is_finish x ≡ false → IsActed l a k x
acted-answering l moment user plan a k x there causeless max unfinished = record {
  user = user;
  there = there;
  causeless = λ s is. free-slot l moment user plan a k (λ max. x) s is (first-two _ (slot_cause l moment user plan a k (λ max. x)) causeless).1;
  max = max;
  unfinished = unfinished;
}

bound-in-asked : (s : Start) (b : Bound) (taken : List Step) (o : Option Question) (x : Slot) → option_map (slot_with s b taken) o ≡ Some x → x.bound ≡ b
bound-in-asked s b taken None x is = absurd cc
bound-in-asked s b taken (Some q) x is = let same : slot_with s b taken q ≡ x = cc in ap (λ (y : Slot). y.bound) (sym same)

bound-in : (l : List Record) (o : Option Start) (p : Option Bound) (taken : List Step) (x : Slot) → option_and_then (λ s. option_and_then (λ (b : Bound). option_map (slot_with s b taken) (version l b.entry b.version)) p) o ≡ Some x → p ≡ Some x.bound
bound-in l None p taken x is = absurd cc
bound-in l (Some s) None taken x is = absurd cc
bound-in l (Some s) (Some b) taken x is = ap (λ (d : Bound). Some d) (sym (bound-in-asked s b taken (version l b.entry b.version) x is))

-- the max mark bound to a slot
pub slot-max : (l : List Record) (a : AttemptId) (k : ℕ) (s : Slot) → slot l a k ≡ Some s → max_now l a k ≡ s.bound.max
slot-max l a k s is = let told : bound l a k ≡ Some s.bound = bound-in l (start l a) (bound l a k) (steps l a k) s is in rw told refl

acted-mark : (l : List Record) (moment : ℕ) (user : User) (plan : Plan) (a : AttemptId) (k : ℕ) (m : ℤ) → missing_slot l user a k ≡ None → slot_cause l moment user plan a k (λ max. step.Mark m max) ≡ None → IsActed l a k (step.Mark m (max_now l a k))
acted-mark l moment user plan a k m there causeless = record {
  user = user;
  there = there;
  causeless = λ s is. subst (λ (max : ℤ). step_cause s.behaviour s.question s.bound.max s.steps (step.Mark m max) ≡ None) (sym (slot-max l a k s is)) (free-slot l moment user plan a k (λ max. step.Mark m max) s is causeless);
  max = refl;
  unfinished = refl;
}

not-acted : {q n : ℕ} {b : Behaviour} {bs : List Bound} {ls : List Learned} {a : AttemptId} {k : ℕ} {x : Step} → event.Started q n b bs ls ≡ event.Acted a k x → ⊥
not-acted is = absurd cc

ended-not-acted : {b a : AttemptId} {how : How} {k : ℕ} {x : Step} → event.Ended b how ≡ event.Acted a k x → ⊥
ended-not-acted is = absurd cc

settled-not-acted : (overdue : Bool) (u o : ℕ) (b a : AttemptId) (w : How) (k : ℕ) (x : Step) → (if overdue then told_event u (event.Ended b w) else None) ≡ told_event o (event.Acted a k x) → ⊥
settled-not-acted true u o b a w k x is = ended-not-acted (told-pair u o _ _ is).1
settled-not-acted false u o b a w k x is = absurd cc

acted-by : (l : List Record) (moment : ℕ) (user : User) (plan : Plan) (x : Request) (o : ℕ) (a : AttemptId) (k : ℕ) (s : Step) → event_here l moment user plan x ≡ told_event o (event.Acted a k s) → missing_here l user x ≡ None → cause_here l moment user plan x ≡ None → IsActed l a k s
acted-by l moment user plan (request.Start quiz) o a k s made there causeless = absurd (not-acted (told-pair user.number o _ _ made).1)
acted-by l moment user plan (request.Save b j c r) o a k s made there causeless =
    let t : Step = step.Save (record { answer = r; certainty = c }) in
    acted-as l b j t a k s (step-acted (moved (steps l b j) t) b j t a k s (told-pair b.user o _ _ made).1) (acted-answering l moment user plan b j t there causeless tt refl)
acted-by l moment user plan (request.Submit b j c r) o a k s made there causeless =
    let t : Step = step.Submit (record { answer = r; certainty = c }) in
    acted-as l b j t a k s (step-acted (moved (steps l b j) t) b j t a k s (told-pair b.user o _ _ made).1) (acted-answering l moment user plan b j t there causeless tt refl)
acted-by l moment user plan (request.Again b j) o a k s made there causeless =
    acted-as l b j step.Again a k s (acted-same b j step.Again a k s (told-pair b.user o _ _ made).1) (acted-answering l moment user plan b j step.Again there causeless tt refl)
acted-by l moment user plan (request.Finish b) o a k s made there causeless = absurd (ended-not-acted (told-pair b.user o _ _ made).1)
acted-by l moment user plan (request.Mark b j m) o a k s made there causeless =
    acted-as l b j (step.Mark m (max_now l b j)) a k s (acted-same b j (step.Mark m (max_now l b j)) a k s (told-pair b.user o _ _ made).1) (acted-mark l moment user plan b j m there causeless)
acted-by l moment user plan (request.Settle b) o a k s made there causeless = absurd (settled-not-acted (is_overdue l moment plan b) b.user o b a (settled_by plan.settings.handling) k s made)
acted-by l moment user plan x o a k s made there causeless = absurd cc

pub acted-put : (l : List Record) (r : Record) (a : AttemptId) (k : ℕ) (x : Step) → r.event ≡ event.Acted a k x → IsPut l r → IsActed l a k x
acted-put l r a k x is p =
    let free = free-put l r p in
    acted-by l r.moment p.user p.plan p.ask.request r.owner a k x (event-put l r p ∙ ap (λ (d : Event). Some (r.owner, d)) is) free.there free.causeless

-- ---- an end

pub record IsEnding (l : List Record) (a : AttemptId) : Type 0 where
  pub user : User
  pub there : missing_attempt l user a ≡ None
  pub unended : is_ended l a ≡ false

not-closed : (o : Option How) (n : ℕ) → closed_at (option_map (λ h. n) o) ≡ None → is_some o ≡ false
not-closed None n none = refl
not-closed (Some h) n none = absurd cc

open-by : (l : List Record) (moment : ℕ) (plan : Plan) (a : AttemptId) (o : Option Start) → is_none o ≡ false → option_and_then (λ (s : Start). finish_cause plan.settings s.moment moment (ended_at l a)) o ≡ None → is_ended l a ≡ false
open-by l moment plan a None some none = absurd cc
open-by l moment plan a (Some s) some none = not-closed (ended l a) _ (first-two _ (closed_at (ended_at l a)) none).1

when-none : (b : Bool) (r : Refusal) → when b r ≡ None → b ≡ false
when-none true r none = absurd cc
when-none false r none = refl

or-right : (b c : Bool) → b || c ≡ false → c ≡ false
or-right true c none = absurd cc
or-right false c none = none

pub begun : (l : List Record) (user : User) (a : AttemptId) → missing_attempt l user a ≡ None → is_none (start l a) ≡ false
begun l user a there = or-right (is_anothers user a.user) (is_none (start l a)) (when-none (is_anothers user a.user || is_none (start l a)) (refusal.Unknown thing.Attempt) there)

pub ending-as : (l : List Record) (b a : AttemptId) → b ≡ a → IsEnding l b → IsEnding l a
ending-as l b a same ending = subst (IsEnding l) same ending

ended-same : (b a : AttemptId) (v w : How) → event.Ended b v ≡ event.Ended a w → b ≡ a
ended-same b a v w is = cc

step-not-ended : (v : Moved) (b : AttemptId) (j : ℕ) (s : Step) (a : AttemptId) (w : How) → acted_or_noted v b j s ≡ event.Ended a w → ⊥
step-not-ended moved_as.Kept b j s a w is = absurd cc
step-not-ended moved_as.Same b j s a w is = absurd cc

started-not-ended : {q n : ℕ} {b : Behaviour} {bs : List Bound} {ls : List Learned} {a : AttemptId} {w : How} → event.Started q n b bs ls ≡ event.Ended a w → ⊥
started-not-ended is = absurd cc

acted-not-ended : {b : AttemptId} {j : ℕ} {s : Step} {a : AttemptId} {w : How} → event.Acted b j s ≡ event.Ended a w → ⊥
acted-not-ended is = absurd cc

settled-open : (l : List Record) (e c : Bool) (u o : ℕ) (b a : AttemptId) (v w : How) → (if not e && c then told_event u (event.Ended b v) else None) ≡ told_event o (event.Ended a w) → (e ≡ false) × (b ≡ a)
settled-open l true c u o b a v w is = absurd cc
settled-open l false true u o b a v w is = (refl, ended-same b a v w (told-pair u o _ _ is).1)
settled-open l false false u o b a v w is = absurd cc

ended-by : (l : List Record) (moment : ℕ) (user : User) (plan : Plan) (x : Request) (o : ℕ) (a : AttemptId) (w : How) → event_here l moment user plan x ≡ told_event o (event.Ended a w) → missing_here l user x ≡ None → cause_here l moment user plan x ≡ None → IsEnding l a
ended-by l moment user plan (request.Start quiz) o a w made there causeless = absurd (started-not-ended (told-pair user.number o _ _ made).1)
ended-by l moment user plan (request.Save b j c r) o a w made there causeless = absurd (step-not-ended _ b j _ a w (told-pair b.user o _ _ made).1)
ended-by l moment user plan (request.Submit b j c r) o a w made there causeless = absurd (step-not-ended _ b j _ a w (told-pair b.user o _ _ made).1)
ended-by l moment user plan (request.Again b j) o a w made there causeless = absurd (acted-not-ended (told-pair b.user o _ _ made).1)
ended-by l moment user plan (request.Finish b) o a w made there causeless =
    ending-as l b a (ended-same b a how.Finished w (told-pair b.user o _ _ made).1) (record { user = user; there = there; unended = open-by l moment plan b (start l b) (begun l user b there) causeless })
ended-by l moment user plan (request.Mark b j m) o a w made there causeless = absurd (acted-not-ended (told-pair b.user o _ _ made).1)
ended-by l moment user plan (request.Settle b) o a w made there causeless =
    let told = settled-open l (is_ended l b) (unwrap_or (option_map (λ (s : Start). expired plan.settings s.moment moment) (start l b)) false) b.user o b a (settled_by plan.settings.handling) w made in
    ending-as l b a told.1 (record { user = user; there = there; unended = told.0 })
ended-by l moment user plan x o a w made there causeless = absurd cc

pub ended-put : (l : List Record) (r : Record) (a : AttemptId) (w : How) → r.event ≡ event.Ended a w → IsPut l r → IsEnding l a
ended-put l r a w is p =
    let free = free-put l r p in
    ended-by l r.moment p.user p.plan p.ask.request r.owner a w (event-put l r p ∙ ap (λ (d : Event). Some (r.owner, d)) is) free.there free.causeless

-- ---- a start, and a version that is bound

pub quiz-there : (o : Option Start) (q : ℕ) → option_map (λ (s : Start). s.quiz) o ≡ Some q → is_none o ≡ false
quiz-there None q is = absurd cc
quiz-there (Some s) q is = refl

pub begins-first : (index count : ℕ) (l : List Record) (u n : ℕ) (o : Option Start) → IsLegal index count l → n ≡ made l u + 1 → start l (attempt_of u n) ≡ o → o ≡ None
begins-first index count l u n None legal number is = refl
begins-first index count l u n (Some s) legal number is = let given : n ≤ made l u = number-given index count l (attempt_of u n) s legal is in absurd (omega arith)
