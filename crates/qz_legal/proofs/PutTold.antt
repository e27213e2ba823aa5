-- What a record that a request put tells, so that the record and the list alone decide.
use Rattle.std.proofs.Common.{◌≡◌, ℕ, Bool, true, false, not, ◌&&◌, ◌||◌, List, Option, Some, None, refl, sym, ap, subst, ◌∙◌, eq-eqb, option_map}
use Rattle.std.specs.Ordering.{int_eq}
use Rattle.std.specs.Prelude.{ℤ, ◌==◌, if◌then◌else◌, is_none, is_some, option_and_then}
use Rattle.std.proofs.lemmas.Bool.{and_from, eqb-true}
use Rattle.std.proofs.lemmas.Bool.Decides.{Decides-int_eq}
use Rattle.qz_grading.specs.declared.outcome.Moved.{Moved}
use Rattle.qz_grading.specs.declared.outcome.Moved.TheVariants as moved_as
use Rattle.qz_grading.specs.declared.refusal.AttemptId.{AttemptId}
use Rattle.qz_grading.specs.declared.refusal.Refusal.{Refusal}
use Rattle.qz_grading.specs.declared.refusal.Refusal.TheVariants as refusal
use Rattle.qz_grading.specs.declared.refusal.Thing.TheVariants as thing
use Rattle.qz_grading.specs.declared.response.Step.{Step}
use Rattle.qz_grading.specs.declared.response.Step.TheVariants as step
use Rattle.qz_grading.specs.Behaviours.{moved, when}
use Rattle.qz_grading.specs.Grading.{is_place}
use Rattle.qz_grading.specs.Slots.{step_cause}
use Rattle.qz_terms.specs.declared.access.Settings.{Settings}
use Rattle.qz_terms.specs.declared.people.Role.{Role}
use Rattle.qz_terms.specs.declared.people.Role.TheVariants as role
use Rattle.qz_terms.specs.declared.people.User.{User}
use Rattle.qz_terms.specs.declared.plan.Plan.{Plan}
use Rattle.qz_terms.specs.declared.record.Event.{Event}
use Rattle.qz_terms.specs.declared.record.Event.TheVariants as event
use Rattle.qz_terms.specs.declared.record.How.{How}
use Rattle.qz_terms.specs.declared.record.How.TheVariants as how
use Rattle.qz_terms.specs.declared.record.Record.{Record}
use Rattle.qz_terms.specs.declared.request.Request.{Request}
use Rattle.qz_terms.specs.declared.request.Request.TheVariants as request
use Rattle.qz_terms.specs.Access.{answer_cause, finish_cause, settled_by}
use Rattle.qz_terms.specs.Answer.{acted_or_noted, event_here, max_now, record_under, started_by, stepped_by}
use Rattle.qz_terms.specs.Cause.{answering_cause, is_anothers, is_keyless, is_student, is_student_by, missing_attempt, missing_slot, refusal_shown, role_may, sees_marks, slot_cause, time_cause}
use Rattle.qz_terms.specs.Legal.{IsPut, is_plan_for}
use Rattle.qz_terms.specs.History.{Slot, next_attempt, slot, slot_count, start, steps}
use Rattle.qz_terms.specs.History as history
use Rattle.qz_terms.proofs.Standing.{unmapped}
use Rattle.qz_legal.specs.Allowed.{answer_moves, can_act, can_answer, can_end_by, can_finish, can_mark, can_note, can_put, can_put_under, can_settle, can_start, has_asker, is_further, is_in_time, is_overdue, is_own, is_same, same_how, slot_refusal, starting_cause}
use Rattle.qz_lives.proofs.Effects.{first-two, slot-max}
use Rattle.qz_lives.proofs.Legality.{IsFree, event-put, free-put, told-pair, told_event}

-- ---- tests

pub none-of : {A : Type 0} (o : Option A) → is_none o ≡ true → o ≡ None
none-of None is = refl
none-of (Some x) is = absurd cc

pub is-none : {A : Type 0} (o : Option A) → o ≡ None → is_none o ≡ true
is-none None is = refl
is-none (Some x) is = absurd cc

pub none-some : {A : Type 0} (o : Option A) → is_none o ≡ false → is_some o ≡ true
none-some None is = absurd cc
none-some (Some x) is = refl

pub when-none : (b : Bool) (r : Refusal) → when b r ≡ None → b ≡ false
when-none true r none = absurd cc
when-none false r none = refl

pub not-false : (b : Bool) → not b ≡ false → b ≡ true
not-false true is = refl
not-false false is = absurd cc

pub or-false : (b c : Bool) → b || c ≡ false → (b ≡ false) × (c ≡ false)
or-false true c is = absurd cc
or-false false c is = (refl, is)

and-false : (b c : Bool) → b && c ≡ false → b ≡ true → c ≡ false
and-false true c is so = is
and-false false c is so = absurd cc

-- ---- who asked

-- where workers may not ask
asker-by : (worker may : Bool) (r : Refusal) → when (not (if worker then false else may)) r ≡ None → (worker ≡ false) × (may ≡ true)
asker-by true may r none = absurd cc
asker-by false may r none = (refl, not-false may (when-none (not may) r none))

student-by : (who : Role) → role_may who 3 ≡ true → is_student_by who ≡ true
student-by role.Manager may = absurd cc
student-by role.Teacher may = absurd cc
student-by role.Student may = refl

asked-by : (r : Record) (n : ℕ) → n ≡ r.caller → (n == 0) ≡ false → is_some r.key ≡ true → has_asker r ≡ true
asked-by r n caller user keyed =
    let number : (r.caller == 0) ≡ false = ap (λ m. m == 0) (sym caller) ∙ user in
    rw (number, keyed) refl

own-by : (r : Record) (u : ℕ) → r.caller ≡ u → has_asker r ≡ true → is_own r u ≡ true
own-by r u caller asked = rw (eq-eqb r.caller u caller, asked) refl

-- an attempt that isn't missing to a student is the student's own
record IsNamed (l : List Record) (user : User) (a : AttemptId) : Type 0 where
  others : is_anothers user a.user ≡ false
  begun : is_none (start l a) ≡ false

named : (l : List Record) (user : User) (a : AttemptId) → missing_attempt l user a ≡ None → IsNamed l user a
named l user a there =
    let both = or-false (is_anothers user a.user) (is_none (start l a)) (when-none (is_anothers user a.user || is_none (start l a)) (refusal.Unknown thing.Attempt) there) in
    record { others = both.0; begun = both.1 }

own-user : (user : User) (a : AttemptId) → is_student user ≡ true → is_anothers user a.user ≡ false → a.user ≡ user.number
own-user user a student others = eqb-true a.user user.number (not-false (a.user == user.number) (and-false (is_student user) (not (a.user == user.number)) others student))

-- ---- a slot that is named

place-named : (l : List Record) (user : User) (a : AttemptId) (k : ℕ) → missing_slot l user a k ≡ None → (missing_attempt l user a ≡ None) × (is_place (slot_count l a) k ≡ true)
place-named l user a k there =
    let both = first-two (missing_attempt l user a) (when (not (is_place (slot_count l a) k)) (refusal.Unknown thing.Slot)) there in
    (both.0, not-false (is_place (slot_count l a) k) (when-none (not (is_place (slot_count l a) k)) (refusal.Unknown thing.Slot) both.1))

-- a refusal that is shown otherwise is a refusal
hidden : (visible : Bool) (o : Option Slot) (x : Step) → option_and_then (λ (s : Slot). option_map (refusal_shown visible) (step_cause s.behaviour s.question s.bound.max s.steps x)) o ≡ None
    → option_and_then (λ (s : Slot). step_cause s.behaviour s.question s.bound.max s.steps x) o ≡ None
hidden visible None x none = refl
hidden visible (Some s) x none = unmapped (refusal_shown visible) (step_cause s.behaviour s.question s.bound.max s.steps x) none

pub shown : (visible : Bool) (o : Option Slot) (x : Step) → option_and_then (λ (s : Slot). step_cause s.behaviour s.question s.bound.max s.steps x) o ≡ None
    → option_and_then (λ (s : Slot). option_map (refusal_shown visible) (step_cause s.behaviour s.question s.bound.max s.steps x)) o ≡ None
shown visible None x none = refl
shown visible (Some s) x none = ap (option_map (refusal_shown visible)) none

-- the max mark of a mark is that of the slot
pub mark-cause : (l : List Record) (a : AttemptId) (k : ℕ) (m : ℤ) (visible : Bool) (o : Option Slot) → slot l a k ≡ o
    → option_and_then (λ (s : Slot). option_map (refusal_shown visible) (step_cause s.behaviour s.question s.bound.max s.steps (step.Mark m s.bound.max))) o
    ≡ option_and_then (λ (s : Slot). option_map (refusal_shown visible) (step_cause s.behaviour s.question s.bound.max s.steps (step.Mark m (max_now l a k)))) o
mark-cause l a k m visible None is = refl
mark-cause l a k m visible (Some s) is = ap (λ (max : ℤ). option_map (refusal_shown visible) (step_cause s.behaviour s.question s.bound.max s.steps (step.Mark m max))) (sym (slot-max l a k s is))

-- ---- what is known of a request that put a record

record IsAsking (l : List Record) (r : Record) (user : User) (plan : Plan) (x : Request) : Type 0 where
  by_caller : user.number ≡ r.caller
  ready : plan.ready ≡ true
  of_quiz : is_plan_for l plan x ≡ true
  free : IsFree l r.moment user plan r.key x

-- ---- a start

start-told : (l : List Record) (r : Record) (user : User) (plan : Plan) (q : ℕ) → IsAsking l r user plan (request.Start q) → is_some r.key ≡ true → user.number ≡ r.owner → can_start l r plan.settings plan.quiz (next_attempt l user.number).nth ≡ true
start-told l r user plan q w keyed owner =
    let asker = asker-by (user.number == 0) (role_may user.role 3) (refusal.Forbidden 3) w.free.allowed in
    let causeless : starting_cause l plan.settings true r.moment r.owner plan.quiz ≡ None =
    ap (starting_cause l plan.settings true r.moment r.owner) (eqb-true plan.quiz q w.of_quiz)
    ∙ ap (λ u. starting_cause l plan.settings true r.moment u q) (sym owner)
    ∙ ap (λ (b : Bool). starting_cause l plan.settings b r.moment user.number q) (sym w.ready)
    ∙ w.free.causeless in
    and_from (is_own r r.owner) _ (own-by r r.owner (sym w.by_caller ∙ owner) (asked-by r user.number w.by_caller asker.0 keyed))
    (and_from _ _ (eq-eqb (next_attempt l user.number).nth (next_attempt l r.owner).nth (ap (λ u. (next_attempt l u).nth) owner)) (is-none (starting_cause l plan.settings true r.moment r.owner plan.quiz) causeless))

-- ---- an answer

answer-told : (l : List Record) (r : Record) (user : User) (plan : Plan) (x : Request) (a : AttemptId) (k : ℕ) (s : Step) → IsAsking l r user plan x → is_some r.key ≡ true → (user.number == 0) ≡ false → role_may user.role 3 ≡ true
    → missing_slot l user a k ≡ None → answering_cause l r.moment user plan a k s ≡ None → can_answer l r plan.settings a k s ≡ true
answer-told l r user plan x a k s w keyed asker may there causeless =
    let place = place-named l user a k there in
    let name = named l user a place.0 in
    let own : a.user ≡ user.number = own-user user a (student-by user.role may) name.others in
    let causes = first-two (time_cause (λ began. answer_cause plan.settings began r.moment (history.ended_at l a)) l a) (slot_cause l r.moment user plan a k (λ max. s)) causeless in
    and_from (is_own r a.user) _ (own-by r a.user (sym w.by_caller ∙ sym own) (asked-by r user.number w.by_caller asker keyed))
    (and_from (is_in_time l plan.settings r.moment a) _ (is-none _ causes.0)
    (and_from (is_place (slot_count l a) k) _ place.1 (is-none (slot_refusal l a k s) (hidden (sees_marks l plan.settings user a r.moment) (slot l a k) s causes.1))))

moves-by : (l : List Record) (r : Record) (st : Settings) (a : AttemptId) (k : ℕ) (s : Step) (m : Moved) → can_answer l r st a k s ≡ true → moved (steps l a k) s ≡ m → answer_moves l r st a k s ≡ Some m
moves-by l r st a k s m can is = rw (can, is) refl

save-told : (l : List Record) (r : Record) (st : Settings) (a : AttemptId) (k : ℕ) (s : Step) (m : Moved) → can_act l r st a k s ≡ is_further (answer_moves l r st a k s) → can_note l r st a k s ≡ is_same (answer_moves l r st a k s)
    → can_answer l r st a k s ≡ true → moved (steps l a k) s ≡ m → can_put_under l r st (acted_or_noted m a k s) ≡ true
save-told l r st a k s moved_as.Kept acts notes can is = acts ∙ ap is_further (moves-by l r st a k s moved_as.Kept can is)
save-told l r st a k s moved_as.Same acts notes can is = notes ∙ ap is_same (moves-by l r st a k s moved_as.Same can is)

-- ---- a teacher's mark

mark-told : (l : List Record) (r : Record) (user : User) (plan : Plan) (x : Request) (a : AttemptId) (k : ℕ) (m : ℤ) → IsAsking l r user plan x → is_some r.key ≡ true → (user.number == 0) ≡ false
    → missing_slot l user a k ≡ None → slot_cause l r.moment user plan a k (λ max. step.Mark m max) ≡ None → can_mark l r a k m (max_now l a k) ≡ true
mark-told l r user plan x a k m w keyed asker there causeless =
    let visible = sees_marks l plan.settings user a r.moment in
    let place = place-named l user a k there in
    and_from (has_asker r) _ (asked-by r user.number w.by_caller asker keyed)
    (and_from (int_eq (max_now l a k) (max_now l a k)) _ ((Decides-int_eq (max_now l a k) (max_now l a k)).1 refl)
    (and_from (is_place (slot_count l a) k) _ place.1
    (is-none (slot_refusal l a k (step.Mark m (max_now l a k))) (hidden visible (slot l a k) (step.Mark m (max_now l a k)) (sym (mark-cause l a k m visible (slot l a k) refl) ∙ causeless)))))

-- ---- an end

finish-told : (l : List Record) (r : Record) (user : User) (plan : Plan) (a : AttemptId) → IsAsking l r user plan (request.Finish a) → is_some r.key ≡ true → can_finish l r plan.settings a how.Finished ≡ true
finish-told l r user plan a w keyed =
    let asker = asker-by (user.number == 0) (role_may user.role 3) (refusal.Forbidden 3) w.free.allowed in
    let name = named l user a w.free.there in
    let own : a.user ≡ user.number = own-user user a (student-by user.role asker.1) name.others in
    and_from (is_own r a.user) _ (own-by r a.user (sym w.by_caller ∙ sym own) (asked-by r user.number w.by_caller asker.0 keyed))
    (and_from (is_some (start l a)) _ (none-some (start l a) name.begun) (is-none (time_cause (λ began. finish_cause plan.settings began r.moment (history.ended_at l a)) l a) w.free.causeless))

finished-by : (l : List Record) (r : Record) (st : Settings) (a : AttemptId) (w : How) (key : Option (List ℕ)) → is_some key ≡ true → can_finish l r st a w ≡ true → can_end_by l r st a w key ≡ true
finished-by l r st a w None keyed can = absurd cc
finished-by l r st a w (Some key) keyed can = can

settled-by : (l : List Record) (r : Record) (st : Settings) (a : AttemptId) (w : How) (key : Option (List ℕ)) → is_none key ≡ true → can_settle l st r.moment a w ≡ true → can_end_by l r st a w key ≡ true
settled-by l r st a w None keyless can = can
settled-by l r st a w (Some key) keyless can = absurd cc

pub how-same : (w : How) → same_how w w ≡ true
how-same how.Finished = refl
how-same how.Abandoned = refl

settle-told : (l : List Record) (r : Record) (st : Settings) (a : AttemptId) (o : ℕ) (d : Event) (overdue : Bool) → is_overdue l st r.moment a ≡ overdue → is_none r.key ≡ true
    → (if overdue then told_event a.user (event.Ended a (settled_by st.handling)) else None) ≡ told_event o d → can_put_under l r st d ≡ true
settle-told l r st a o d true is keyless makes =
    let can : can_settle l st r.moment a (settled_by st.handling) ≡ true = and_from (is_overdue l st r.moment a) (same_how (settled_by st.handling) (settled_by st.handling)) is (how-same (settled_by st.handling)) in
    subst (λ (e : Event). can_put_under l r st e ≡ true) (told-pair a.user o (event.Ended a (settled_by st.handling)) d makes).1 (settled-by l r st a (settled_by st.handling) r.key keyless can)
settle-told l r st a o d false is keyless makes = absurd cc

-- ---- any request

abbrev Told : List Record → Record → Plan → Event → Type 0
Told l r plan d = can_put_under l r plan.settings d ≡ true

told-by : (l : List Record) (r : Record) (user : User) (plan : Plan) (x : Request) (d : Event) → IsAsking l r user plan x → (if is_keyless x then is_none r.key else is_some r.key) ≡ true → event_here l r.moment user plan x ≡ told_event r.owner d → Told l r plan d
told-by l r user plan (request.Start q) d w keyed makes =
    let made = told-pair user.number r.owner (started_by l user plan) d makes in
    subst (Told l r plan) made.1 (start-told l r user plan q w keyed made.0)
told-by l r user plan (request.Save a k c response) d w keyed makes =
    let s : Step = step.Save (record { answer = response; certainty = c }) in
    let made = told-pair a.user r.owner (stepped_by l a k s) d makes in
    let asker = asker-by (user.number == 0) (role_may user.role 3) (refusal.Forbidden 3) w.free.allowed in
    let can = answer-told l r user plan (request.Save a k c response) a k s w keyed asker.0 asker.1 w.free.there w.free.causeless in
    subst (Told l r plan) made.1 (save-told l r plan.settings a k s (moved (steps l a k) s) refl refl can refl)
told-by l r user plan (request.Submit a k c response) d w keyed makes =
    let s : Step = step.Submit (record { answer = response; certainty = c }) in
    let made = told-pair a.user r.owner (stepped_by l a k s) d makes in
    let asker = asker-by (user.number == 0) (role_may user.role 3) (refusal.Forbidden 3) w.free.allowed in
    let can = answer-told l r user plan (request.Submit a k c response) a k s w keyed asker.0 asker.1 w.free.there w.free.causeless in
    subst (Told l r plan) made.1 (save-told l r plan.settings a k s (moved (steps l a k) s) refl refl can refl)
told-by l r user plan (request.Again a k) d w keyed makes =
    let made = told-pair a.user r.owner (event.Acted a k step.Again) d makes in
    let asker = asker-by (user.number == 0) (role_may user.role 3) (refusal.Forbidden 3) w.free.allowed in
    let can = answer-told l r user plan (request.Again a k) a k step.Again w keyed asker.0 asker.1 w.free.there w.free.causeless in
    subst (Told l r plan) made.1 (ap is_some (moves-by l r plan.settings a k step.Again (moved (steps l a k) step.Again) can refl))
told-by l r user plan (request.Finish a) d w keyed makes =
    let made = told-pair a.user r.owner (event.Ended a how.Finished) d makes in
    subst (Told l r plan) made.1 (finished-by l r plan.settings a how.Finished r.key keyed (finish-told l r user plan a w keyed))
told-by l r user plan (request.Mark a k m) d w keyed makes =
    let made = told-pair a.user r.owner (event.Acted a k (step.Mark m (max_now l a k))) d makes in
    let asker = asker-by (user.number == 0) (role_may user.role 2) (refusal.Forbidden 2) w.free.allowed in
    subst (Told l r plan) made.1 (mark-told l r user plan (request.Mark a k m) a k m w keyed asker.0 w.free.there w.free.causeless)
told-by l r user plan (request.Settle a) d w keyed makes = settle-told l r plan.settings a r.owner d (is_overdue l plan.settings r.moment a) refl keyed makes
told-by l r user plan x d w keyed makes = absurd cc

key-of : (moment : ℕ) (user : User) (key : Option (List ℕ)) (plan : Plan) (o : Option (ℕ × Event)) (r : Record) → option_map (λ (e : ℕ × Event). record_under moment user e.0 key plan e.1) o ≡ Some r → key ≡ r.key
key-of moment user key plan None r e = absurd cc
key-of moment user key plan (Some d) r e =
    let same : record_under moment user d.0 key plan d.1 ≡ r = cc in
    ap (λ (t : Record). t.key) same

-- a record that a request put passes
pub put-told : (l : List Record) (r : Record) → IsPut l r → can_put l r ≡ true
put-told l r p =
    let key : p.ask.key ≡ r.key = key-of r.moment p.user p.ask.key p.plan (event_here l r.moment p.user p.plan p.ask.request) r p.put in
    let asking : IsAsking l r p.user p.plan p.ask.request = record {
      by_caller = p.by_caller;
      ready = p.when_ready;
      of_quiz = p.of_quiz;
      free = subst (λ (k : Option (List ℕ)). IsFree l r.moment p.user p.plan k p.ask.request) key (free-put l r p);
    } in
    let keyed : (if is_keyless p.ask.request then is_none r.key else is_some r.key) ≡ true = subst (λ (k : Option (List ℕ)). (if is_keyless p.ask.request then is_none k else is_some k) ≡ true) key p.keyed in
    let told : can_put_under l r p.plan.settings r.event ≡ true = told-by l r p.user p.plan p.ask.request r.event asking keyed (event-put l r p) in
    rw p.under_terms told
