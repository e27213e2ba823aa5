-- Of a record that passes, some user, plan and request that put it.
use Rattle.std.proofs.Common.{◌≡◌, ℕ, ◌≤◌, leb, Bool, true, false, not, ◌&&◌, ◌||◌, List, [], ◌∷◌, Option, Some, None, length, refl, sym, ap, ◌∙◌, eq-eqb, option_map, arith}
use Rattle.std.specs.List.{list_any}
use Rattle.std.specs.Ordering.{int_eq}
use Rattle.std.specs.Prelude.{ℤ, pos, ◌==◌, filter, if◌then◌else◌, is_none, is_some, unwrap_or}
use Rattle.std.proofs.lemmas.Bool.{and_parts, eqb-true, leb-true, not-true}
use Rattle.std.proofs.lemmas.Bool.Decides.{Decides-int_eq}
use Rattle.qz_grading.specs.declared.outcome.Behaviour.{Behaviour}
use Rattle.qz_grading.specs.declared.outcome.Behaviour.TheVariants as behaviour
use Rattle.qz_grading.specs.declared.outcome.Moved.{Moved}
use Rattle.qz_grading.specs.declared.outcome.Moved.TheVariants as moved_as
use Rattle.qz_grading.specs.declared.question.Question.{Question}
use Rattle.qz_grading.specs.declared.refusal.AttemptId.{AttemptId}
use Rattle.qz_grading.specs.declared.refusal.Refusal.{Refusal}
use Rattle.qz_grading.specs.declared.refusal.Refusal.TheVariants as refusal
use Rattle.qz_grading.specs.declared.response.Response.{Response}
use Rattle.qz_grading.specs.declared.response.Step.{Step}
use Rattle.qz_grading.specs.declared.response.Step.TheVariants as step
use Rattle.qz_grading.specs.Behaviours.{first_some, moved, when}
use Rattle.qz_grading.specs.Grading.{is_place}
use Rattle.qz_terms.specs.declared.access.Settings.{Settings}
use Rattle.qz_terms.specs.declared.ask.Ask.{Ask}
use Rattle.qz_terms.specs.declared.grades.Method.TheVariants as method
use Rattle.qz_terms.specs.declared.people.Caller.TheVariants as caller
use Rattle.qz_terms.specs.declared.people.Role.{Role}
use Rattle.qz_terms.specs.declared.people.Role.TheVariants as role
use Rattle.qz_terms.specs.declared.people.User.{User}
use Rattle.qz_terms.specs.declared.plan.Plan.{Plan}
use Rattle.qz_terms.specs.declared.plan.Planned.{Planned}
use Rattle.qz_terms.specs.declared.record.Event.{Event}
use Rattle.qz_terms.specs.declared.record.Event.TheVariants as event
use Rattle.qz_terms.specs.declared.record.How.{How}
use Rattle.qz_terms.specs.declared.record.How.TheVariants as how
use Rattle.qz_terms.specs.declared.record.Record.{Record}
use Rattle.qz_terms.specs.declared.record.Terms.{Terms}
use Rattle.qz_terms.specs.declared.request.Request.{Request}
use Rattle.qz_terms.specs.declared.request.Request.TheVariants as request
use Rattle.qz_terms.specs.Access.{answer_cause, expired, finish_cause, settled_by}
use Rattle.qz_terms.specs.Answer.{acted_or_noted, event_here, max_now, record_under}
use Rattle.qz_terms.specs.Cause.{by_key, cause_here, forbidden, has_key, is_anothers, is_keyed, missing_attempt, missing_here, missing_slot, repeated_or_reused, sees_marks, slot_cause, spells, time_cause}
use Rattle.qz_terms.specs.Legal.{IsPut, is_plan_for, new_key_by}
use Rattle.qz_terms.specs.Lists.{first_of, up_to_first}
use Rattle.qz_terms.specs.History.{Slot, Start, next_attempt, slot, slot_count, start, steps}
use Rattle.qz_terms.specs.History as history
use Rattle.qz_legal.specs.Allowed.{answer_moves, can_act, can_answer, can_end, can_end_by, can_finish, can_mark, can_note, can_settle, has_asker, is_further, is_in_time, is_overdue, is_own, is_same, same_how, slot_refusal, takes}
use Rattle.qz_lives.proofs.Legality.{told_event}
use Rattle.qz_legal.proofs.PutTold.{mark-cause, none-of, shown}

-- ---- a user, a plan and a request

abbrev pub asker : ℕ → Role → User
asker n who = record { number = n; name = []; role = who; token = [] }

abbrev pub plan_by : Terms → ℕ → Behaviour → List Planned → List Question → Plan
plan_by t q b slots questions = record {
  at = t.at;
  quiz = q;
  name = [];
  ready = true;
  behaviour = b;
  settings = t.settings;
  policy = record { method = method.Highest; grade = pos 0; sum = pos 0 };
  slots = slots;
  questions = questions;
}

-- the plan of a request on an attempt
abbrev plan_on : List Record → Terms → AttemptId → Plan
plan_on l t a = plan_by t (unwrap_or (history.quiz l a) 0) behaviour.Deferred [] []

abbrev pub ask_by : Record → Request → Ask
ask_by r x = record { caller = caller.Worker; key = r.key; request = x }

plan-for : (o : Option ℕ) → unwrap_or (option_map (λ q. unwrap_or o 0 == q) o) true ≡ true
plan-for None = refl
plan-for (Some q) = eq-eqb q q refl

-- ---- the key

none-first-step : {A : Type 0} (p : A → Bool) (x : A) (xs : List A) (b : Bool) → p x ≡ b → b || list_any p xs ≡ false → (list_any p xs ≡ false → first_of (filter p xs) ≡ None) → first_of (filter p (x ∷ xs)) ≡ None
none-first-step p x xs true is none rest = absurd cc
none-first-step p x xs false is none rest = rw is (rest none)

pub none-first : {A : Type 0} (p : A → Bool) (xs : List A) → list_any p xs ≡ false → first_of (filter p xs) ≡ None
none-first p [] none = refl
none-first p (x ∷ xs) none = none-first-step p x xs (p x) refl none (none-first p xs)

pub fresh-key : (is_same : Record → Bool) (n : ℕ) (key : Option (List ℕ)) (l : List Record) → new_key_by l n key ≡ true → by_key is_same n key l ≡ None
fresh-key is_same n None l new = refl
fresh-key is_same n (Some key) l new =
    ap (option_map (λ r. repeated_or_reused (is_same r) (up_to_first (has_key n key) l) r)) (none-first (has_key n key) l (not-true (list_any (has_key n key) l) new))

-- ---- what is granted puts the record

pub remade : (r : Record) (o : ℕ) (t : Terms) (e : Event) → r.owner ≡ o → r.terms ≡ Some t → r.event ≡ e → record { moment = r.moment; caller = r.caller; owner = o; key = r.key; terms = Some t; event = e } ≡ r
remade r o t e owner terms is =
    ap (λ (u : ℕ). let x : Record = record { moment = r.moment; caller = r.caller; owner = u; key = r.key; terms = Some t; event = e } in x) (sym owner)
    ∙ ap (λ (p : Option Terms). let x : Record = record { moment = r.moment; caller = r.caller; owner = r.owner; key = r.key; terms = p; event = e } in x) (sym terms)
    ∙ ap (λ (d : Event). let x : Record = record { moment = r.moment; caller = r.caller; owner = r.owner; key = r.key; terms = r.terms; event = d } in x) (sym is)

-- what a request is made of that puts a record
pub record IsAskedBy (l : List Record) (r : Record) (who : Role) (t : Terms) (plan : Plan) (x : Request) (o : ℕ) (e : Event) : Type 0 where
  pub keyed : is_keyed (ask_by r x) ≡ true
  pub terms : r.terms ≡ Some t
  pub at : plan.at ≡ t.at
  pub settings : plan.settings ≡ t.settings
  pub of_quiz : is_plan_for l plan x ≡ true
  pub ready : plan.ready ≡ true
  pub may : forbidden (asker r.caller who) x ≡ None
  pub there : missing_here l (asker r.caller who) x ≡ None
  pub new : new_key_by l r.caller r.key ≡ true
  pub free : cause_here l r.moment (asker r.caller who) plan x ≡ None
  pub owner : r.owner ≡ o
  pub event : r.event ≡ e
  pub makes : event_here l r.moment (asker r.caller who) plan x ≡ told_event o e

terms-same : (plan : Plan) (t : Terms) → plan.at ≡ t.at → plan.settings ≡ t.settings → Some (record { at = plan.at; settings = plan.settings }) ≡ Some t
terms-same plan t at settings =
    ap (λ (n : ℕ). let s : Terms = record { at = n; settings = plan.settings } in Some s) at
    ∙ ap (λ (p : Settings). let s : Terms = record { at = t.at; settings = p } in Some s) settings

pub asked-put : (l : List Record) (r : Record) (who : Role) (t : Terms) (plan : Plan) (x : Request) (o : ℕ) (e : Event) → IsAskedBy l r who t plan x o e → IsPut l r
asked-put l r who t plan x o e w =
    let user = asker r.caller who in
    let fresh : by_key (spells x) r.caller r.key l ≡ None = fresh-key (spells x) r.caller r.key l w.new in
    let same : Some (record { at = plan.at; settings = plan.settings }) ≡ Some t = terms-same plan t w.at w.settings in
    let put : record_under r.moment user o r.key plan e ≡ r =
    ap (λ (p : Option Terms). let s : Record = record { moment = r.moment; caller = r.caller; owner = o; key = r.key; terms = p; event = e } in s) same ∙ remade r o t e w.owner w.terms w.event in
    record {
      user = user;
      plan = plan;
      ask = ask_by r x;
      keyed = w.keyed;
      by_caller = refl;
      under_terms = w.terms ∙ sym same;
      of_quiz = w.of_quiz;
      when_ready = w.ready;
      granted = rw (w.may, w.there, fresh, w.free) refl;
      put = ap (option_map (λ (d : ℕ × Event). record_under r.moment user d.0 r.key plan d.1)) w.makes ∙ ap (λ (s : Record). Some s) put;
    }

-- ---- who asked

not-worker : (n : ℕ) → not (n == 0) ≡ true → (n == 0) ≡ false
not-worker n is = not-true (n == 0) is

-- a user who made an own record
pub record IsOwner (r : Record) (u : ℕ) : Type 0 where
  pub same : r.caller ≡ u
  pub user : (r.caller == 0) ≡ false
  pub keyed : is_some r.key ≡ true

pub owner-of : (r : Record) (u : ℕ) → is_own r u ≡ true → IsOwner r u
owner-of r u own =
    let parts = and_parts (r.caller == u) (has_asker r) own in
    let asker = and_parts (not (r.caller == 0)) (is_some r.key) parts.1 in
    record { same = eqb-true r.caller u parts.0; user = not-worker r.caller asker.0; keyed = asker.1 }

-- ---- a slot that takes a step

pub begun-by : (o : Option Start) (k : ℕ) → is_place (unwrap_or (option_map (λ (s : Start). length s.bounds) o) 0) k ≡ true → is_none o ≡ false
begun-by None k place =
    let parts = and_parts (leb 1 k) (leb k 0) place in
    absurd (let one : 1 ≤ k = leb-true 1 k parts.0 in let none : k ≤ 0 = leb-true k 0 parts.1 in omega arith)
begun-by (Some s) k place = refl

some-begun : {A : Type 0} (o : Option A) → is_some o ≡ true → is_none o ≡ false
some-begun None is = absurd cc
some-begun (Some x) is = refl

-- to a student an own attempt isn't missing, and to all others any
own-there : (l : List Record) (n : ℕ) (a : AttemptId) → n ≡ a.user → is_none (start l a) ≡ false → missing_attempt l (asker n role.Student) a ≡ None
own-there l n a own begun = let same : (a.user == n) ≡ true = eq-eqb a.user n (sym own) in rw (same, begun) refl

pub any-there : (l : List Record) (n : ℕ) (who : Role) (a : AttemptId) → is_anothers (asker n who) a.user ≡ false → is_none (start l a) ≡ false → missing_attempt l (asker n who) a ≡ None
any-there l n who a others begun = rw (others, begun) refl

pub slot-there : (l : List Record) (user : User) (a : AttemptId) (k : ℕ) → missing_attempt l user a ≡ None → is_place (slot_count l a) k ≡ true → missing_slot l user a k ≡ None
slot-there l user a k there place = rw (there, place) refl

both-none : {A : Type 0} (o p : Option A) → o ≡ None → p ≡ None → first_some (o ∷ p ∷ []) ≡ None
both-none o p one other = rw (one, other) refl

-- ---- a student's answer

pub record IsAnswer (l : List Record) (r : Record) (t : Terms) (a : AttemptId) (k : ℕ) (s : Step) : Type 0 where
  pub own : IsOwner r a.user
  pub there : missing_slot l (asker r.caller role.Student) a k ≡ None
  pub early : time_cause (λ began. answer_cause t.settings began r.moment (history.ended_at l a)) l a ≡ None
  pub free : slot_refusal l a k s ≡ None

answer-of : (l : List Record) (r : Record) (t : Terms) (a : AttemptId) (k : ℕ) (s : Step) → can_answer l r t.settings a k s ≡ true → IsAnswer l r t a k s
answer-of l r t a k s can =
    let one = and_parts (is_own r a.user) _ can in
    let two = and_parts (is_in_time l t.settings r.moment a) (takes l a k s) one.1 in
    let three = and_parts (is_place (slot_count l a) k) _ two.1 in
    let own = owner-of r a.user one.0 in
    record {
      own = own;
      there = slot-there l (asker r.caller role.Student) a k (own-there l r.caller a own.same (begun-by (start l a) k three.0)) three.0;
      early = none-of _ two.0;
      free = none-of (slot_refusal l a k s) three.1;
    }

-- the answer that moved the slot so
moved-of : (l : List Record) (r : Record) (t : Terms) (a : AttemptId) (k : ℕ) (s : Step) (can : Bool) (m : Moved) → can_answer l r t.settings a k s ≡ can → (if can then Some (moved (steps l a k) s) else None) ≡ Some m
    → (IsAnswer l r t a k s) × (moved (steps l a k) s ≡ m)
moved-of l r t a k s true m is told = (answer-of l r t a k s is, cc)
moved-of l r t a k s false m is told = absurd cc

further-of : (o : Option Moved) → is_further o ≡ true → o ≡ Some moved_as.Kept
further-of None is = absurd cc
further-of (Some moved_as.Kept) is = refl
further-of (Some moved_as.Same) is = absurd cc

same-of : (o : Option Moved) → is_same o ≡ true → o ≡ Some moved_as.Same
same-of None is = absurd cc
same-of (Some moved_as.Kept) is = absurd cc
same-of (Some moved_as.Same) is = refl

any-of : (o : Option Moved) → is_some o ≡ true → (m : Moved) × (o ≡ Some m)
any-of None is = absurd cc
any-of (Some m) is = (m, refl)

-- ---- what each event tells of its request

pub student-may : (n : ℕ) (r : Refusal) → (n == 0) ≡ false → when (not (if n == 0 then false else true)) r ≡ None
student-may n r user = rw user refl

settler-may : (n : ℕ) (r : Refusal) (worker : Bool) → (n == 0) ≡ worker → when (not (if n == 0 then true else true)) r ≡ None
settler-may n r true is = rw is refl
settler-may n r false is = rw is refl

-- what is known beside what passes
pub record IsOn (l : List Record) (r : Record) (t : Terms) (a : AttemptId) : Type 0 where
  pub owner : r.owner ≡ a.user
  pub terms : r.terms ≡ Some t
  pub new : new_key_by l r.caller r.key ≡ true

slot-free : (l : List Record) (r : Record) (t : Terms) (a : AttemptId) (k : ℕ) (s : Step) → IsAnswer l r t a k s → slot_cause l r.moment (asker r.caller role.Student) (plan_on l t a) a k (λ max. s) ≡ None
slot-free l r t a k s w = shown (sees_marks l t.settings (asker r.caller role.Student) a r.moment) (slot l a k) s w.free

save-put : (l : List Record) (r : Record) (t : Terms) (a : AttemptId) (k : ℕ) (s : Response) (m : Moved) → IsOn l r t a → (IsAnswer l r t a k (step.Save s)) × (moved (steps l a k) (step.Save s) ≡ m) → r.event ≡ acted_or_noted m a k (step.Save s) → IsPut l r
save-put l r t a k s m on w is = asked-put l r role.Student t (plan_on l t a) (request.Save a k s.certainty s.answer) a.user (acted_or_noted m a k (step.Save s)) (record {
  keyed = w.0.own.keyed;
  terms = on.terms;
  at = refl;
  settings = refl;
  of_quiz = plan-for (history.quiz l a);
  ready = refl;
  may = student-may r.caller (refusal.Forbidden 3) w.0.own.user;
  there = w.0.there;
  new = on.new;
  free = both-none _ _ w.0.early (slot-free l r t a k (step.Save s) w.0);
  owner = on.owner;
  event = is;
  makes = ap (λ (v : Moved). told_event a.user (acted_or_noted v a k (step.Save s))) w.1;
})

submit-put : (l : List Record) (r : Record) (t : Terms) (a : AttemptId) (k : ℕ) (s : Response) (m : Moved) → IsOn l r t a → (IsAnswer l r t a k (step.Submit s)) × (moved (steps l a k) (step.Submit s) ≡ m) → r.event ≡ acted_or_noted m a k (step.Submit s) → IsPut l r
submit-put l r t a k s m on w is = asked-put l r role.Student t (plan_on l t a) (request.Submit a k s.certainty s.answer) a.user (acted_or_noted m a k (step.Submit s)) (record {
  keyed = w.0.own.keyed;
  terms = on.terms;
  at = refl;
  settings = refl;
  of_quiz = plan-for (history.quiz l a);
  ready = refl;
  may = student-may r.caller (refusal.Forbidden 3) w.0.own.user;
  there = w.0.there;
  new = on.new;
  free = both-none _ _ w.0.early (slot-free l r t a k (step.Submit s) w.0);
  owner = on.owner;
  event = is;
  makes = ap (λ (v : Moved). told_event a.user (acted_or_noted v a k (step.Submit s))) w.1;
})

again-put : (l : List Record) (r : Record) (t : Terms) (a : AttemptId) (k : ℕ) → IsOn l r t a → IsAnswer l r t a k step.Again → r.event ≡ event.Acted a k step.Again → IsPut l r
again-put l r t a k on w is = asked-put l r role.Student t (plan_on l t a) (request.Again a k) a.user (event.Acted a k step.Again) (record {
  keyed = w.own.keyed;
  terms = on.terms;
  at = refl;
  settings = refl;
  of_quiz = plan-for (history.quiz l a);
  ready = refl;
  may = student-may r.caller (refusal.Forbidden 3) w.own.user;
  there = w.there;
  new = on.new;
  free = both-none _ _ w.early (slot-free l r t a k step.Again w);
  owner = on.owner;
  event = is;
  makes = refl;
})

mark-put : (l : List Record) (r : Record) (t : Terms) (a : AttemptId) (k : ℕ) (m max : ℤ) → IsOn l r t a → can_mark l r a k m max ≡ true → r.event ≡ event.Acted a k (step.Mark m max) → IsPut l r
mark-put l r t a k m max on can is =
    let teacher = asker r.caller role.Teacher in
    let one = and_parts (has_asker r) _ can in
    let two = and_parts (int_eq max (max_now l a k)) (takes l a k (step.Mark m max)) one.1 in
    let three = and_parts (is_place (slot_count l a) k) _ two.1 in
    let asked = and_parts (not (r.caller == 0)) (is_some r.key) one.0 in
    let same : max ≡ max_now l a k = (Decides-int_eq max (max_now l a k)).0 two.0 in
    let free : slot_refusal l a k (step.Mark m (max_now l a k)) ≡ None = ap (λ (n : ℤ). slot_refusal l a k (step.Mark m n)) (sym same) ∙ none-of (slot_refusal l a k (step.Mark m max)) three.1 in
    let visible = sees_marks l t.settings teacher a r.moment in
    let there = any-there l r.caller role.Teacher a refl (begun-by (start l a) k three.0) in
    asked-put l r role.Teacher t (plan_on l t a) (request.Mark a k m) a.user (event.Acted a k (step.Mark m max)) (record {
      keyed = asked.1;
      terms = on.terms;
      at = refl;
      settings = refl;
      of_quiz = plan-for (history.quiz l a);
      ready = refl;
      may = student-may r.caller (refusal.Forbidden 2) (not-worker r.caller asked.0);
      there = slot-there l teacher a k there three.0;
      new = on.new;
      free = mark-cause l a k m visible (slot l a k) refl ∙ shown visible (slot l a k) (step.Mark m (max_now l a k)) free;
      owner = on.owner;
      event = is;
      makes = ap (λ (n : ℤ). told_event a.user (event.Acted a k (step.Mark m n))) (sym same);
    })

how-of : (v w : How) → same_how v w ≡ true → v ≡ w
how-of how.Finished how.Finished same = refl
how-of how.Finished how.Abandoned same = absurd cc
how-of how.Abandoned how.Finished same = absurd cc
how-of how.Abandoned how.Abandoned same = refl

finish-put : (l : List Record) (r : Record) (t : Terms) (a : AttemptId) (w : How) → IsOn l r t a → can_finish l r t.settings a w ≡ true → r.event ≡ event.Ended a w → IsPut l r
finish-put l r t a w on can is =
    let one = and_parts (is_own r a.user) _ can in
    let two = and_parts (same_how w how.Finished) _ one.1 in
    let three = and_parts (is_some (start l a)) _ two.1 in
    let own = owner-of r a.user one.0 in
    asked-put l r role.Student t (plan_on l t a) (request.Finish a) a.user (event.Ended a w) (record {
      keyed = own.keyed;
      terms = on.terms;
      at = refl;
      settings = refl;
      of_quiz = plan-for (history.quiz l a);
      ready = refl;
      may = student-may r.caller (refusal.Forbidden 3) own.user;
      there = own-there l r.caller a own.same (some-begun (start l a) three.0);
      new = on.new;
      free = none-of (time_cause (λ began. finish_cause t.settings began r.moment (history.ended_at l a)) l a) three.1;
      owner = on.owner;
      event = is;
      makes = ap (λ (v : How). told_event a.user (event.Ended a v)) (sym (how-of w how.Finished two.0));
    })

overdue-begun : (o : Option Start) (over : Start → Bool) (ended : Bool) → not ended && unwrap_or (option_map over o) false ≡ true → is_none o ≡ false
overdue-begun None over true is = absurd cc
overdue-begun None over false is = absurd cc
overdue-begun (Some s) over ended is = refl

settle-put : (l : List Record) (r : Record) (t : Terms) (a : AttemptId) (w : How) → IsOn l r t a → is_none r.key ≡ true → can_settle l t.settings r.moment a w ≡ true → r.event ≡ event.Ended a w → IsPut l r
settle-put l r t a w on keyless can is =
    let one = and_parts (is_overdue l t.settings r.moment a) _ can in
    let begun = overdue-begun (start l a) (λ (b : Start). expired t.settings b.moment r.moment) (history.is_ended l a) one.0 in
    asked-put l r role.Manager t (plan_on l t a) (request.Settle a) a.user (event.Ended a w) (record {
      keyed = keyless;
      terms = on.terms;
      at = refl;
      settings = refl;
      of_quiz = plan-for (history.quiz l a);
      ready = refl;
      may = settler-may r.caller (refusal.Forbidden 4) (r.caller == 0) refl;
      there = any-there l r.caller role.Manager a refl begun;
      new = on.new;
      free = refl;
      owner = on.owner;
      event = is;
      makes = rw one.0 (ap (λ (v : How). told_event a.user (event.Ended a v)) (sym (how-of w (settled_by t.settings.handling) one.1)));
    })

-- ---- steps and ends

pub act-put : (l : List Record) (r : Record) (t : Terms) (a : AttemptId) (k : ℕ) (x : Step) → IsOn l r t a → can_act l r t.settings a k x ≡ true → r.event ≡ event.Acted a k x → IsPut l r
act-put l r t a k (step.Save s) on can is = save-put l r t a k s moved_as.Kept on (moved-of l r t a k (step.Save s) (can_answer l r t.settings a k (step.Save s)) moved_as.Kept refl (further-of (answer_moves l r t.settings a k (step.Save s)) can)) is
act-put l r t a k (step.Submit s) on can is = submit-put l r t a k s moved_as.Kept on (moved-of l r t a k (step.Submit s) (can_answer l r t.settings a k (step.Submit s)) moved_as.Kept refl (further-of (answer_moves l r t.settings a k (step.Submit s)) can)) is
act-put l r t a k step.Again on can is =
    let m = any-of (answer_moves l r t.settings a k step.Again) can in
    again-put l r t a k on (moved-of l r t a k step.Again (can_answer l r t.settings a k step.Again) m.0 refl m.1).0 is
act-put l r t a k (step.Mark m max) on can is = mark-put l r t a k m max on can is
act-put l r t a k step.Finish on can is = absurd cc

pub note-put : (l : List Record) (r : Record) (t : Terms) (a : AttemptId) (k : ℕ) (x : Step) → IsOn l r t a → can_note l r t.settings a k x ≡ true → r.event ≡ event.Noted a k x → IsPut l r
note-put l r t a k (step.Save s) on can is = save-put l r t a k s moved_as.Same on (moved-of l r t a k (step.Save s) (can_answer l r t.settings a k (step.Save s)) moved_as.Same refl (same-of (answer_moves l r t.settings a k (step.Save s)) can)) is
note-put l r t a k (step.Submit s) on can is = submit-put l r t a k s moved_as.Same on (moved-of l r t a k (step.Submit s) (can_answer l r t.settings a k (step.Submit s)) moved_as.Same refl (same-of (answer_moves l r t.settings a k (step.Submit s)) can)) is
note-put l r t a k step.Again on can is = absurd cc
note-put l r t a k (step.Mark m max) on can is = absurd cc
note-put l r t a k step.Finish on can is = absurd cc

end-by : (l : List Record) (r : Record) (t : Terms) (a : AttemptId) (w : How) (key : Option (List ℕ)) → r.key ≡ key → IsOn l r t a → can_end_by l r t.settings a w key ≡ true → r.event ≡ event.Ended a w → IsPut l r
end-by l r t a w None key on can is = settle-put l r t a w on (ap is_none key) can is
end-by l r t a w (Some k) key on can is = finish-put l r t a w on can is

pub end-put : (l : List Record) (r : Record) (t : Terms) (a : AttemptId) (w : How) → IsOn l r t a → can_end l r t.settings a w ≡ true → r.event ≡ event.Ended a w → IsPut l r
end-put l r t a w on can is = end-by l r t a w r.key refl on can is
