-- What is accepted with a key stands in the list from then on, and acts once.
use Rattle.std.proofs.Common.{◌≡◌, ℕ, Bool, true, false, cond, ◌&&◌, ◌||◌, List, [], ◌∷◌, ◌++◌, Option, Some, None, refl, sym, ap, subst, ◌∙◌, eq-eqb}
use Rattle.std.specs.Prelude.{◌==◌, bytes_eq, filter, filter_map, is_none, is_some, option_map, unwrap_or}
use Rattle.std.specs.List.{list_any}
use Rattle.std.proofs.lemmas.Bool.{eqb-true}
use Rattle.std.proofs.lemmas.Bool.Decides.{Decides-int_eq}
use Rattle.std.proofs.lemmas.List.Elements.{filter-append, filter_map-append}
use Rattle.qz_grading.specs.declared.outcome.Moved.{Moved}
use Rattle.qz_grading.specs.declared.outcome.Moved.TheVariants as moved_as
use Rattle.qz_grading.specs.declared.refusal.AttemptId.{AttemptId}
use Rattle.qz_grading.specs.declared.refusal.Refusal.{Refusal}
use Rattle.qz_grading.specs.declared.response.Answer.{Answer}
use Rattle.qz_grading.specs.declared.response.Answer.TheVariants as answer
use Rattle.qz_grading.specs.declared.response.Response.{Response}
use Rattle.qz_grading.specs.declared.response.Step.{Step}
use Rattle.qz_grading.specs.declared.response.Step.TheVariants as step
use Rattle.qz_grading.specs.Behaviours.{first_some, moved, when}
use Rattle.qz_grading.specs.Grading.{same, same_answer}
use Rattle.qz_terms.specs.declared.ask.Ask.{Ask}
use Rattle.qz_terms.specs.declared.people.Caller.{Caller}
use Rattle.qz_terms.specs.declared.people.User.{User}
use Rattle.qz_terms.specs.declared.plan.Plan.{Plan}
use Rattle.qz_terms.specs.declared.record.Event.{Event}
use Rattle.qz_terms.specs.declared.record.Event.TheVariants as event
use Rattle.qz_terms.specs.declared.record.How.TheVariants as how
use Rattle.qz_terms.specs.declared.record.Record.{Record}
use Rattle.qz_terms.specs.declared.reply.Done.{Done}
use Rattle.qz_terms.specs.declared.reply.Reply.{Reply}
use Rattle.qz_terms.specs.declared.reply.Reply.TheVariants as reply
use Rattle.qz_terms.specs.declared.request.Request.{Request}
use Rattle.qz_terms.specs.declared.request.Request.TheVariants as request
use Rattle.qz_terms.specs.Answer.{acted_or_noted, answer_here, event_here, list_after, looked, max_now, moment_of, put_here, record_under, reply_to, said, said_of_put, started_by, stepped_by}
use Rattle.qz_terms.specs.CatalogAnswer.{asks_catalog}
use Rattle.qz_terms.specs.Cause.{Denied, Granted, Repeated, Verdict, by_key, cause_here, denied, forbidden, has_key, is_keyed, is_keyless, missing_attempt, missing_here, missing_slot, repeated_or_reused, same_slot, same_step, spells, spells_by, verdict_here}
use Rattle.qz_terms.specs.History as history
use Rattle.qz_terms.specs.Laws.{ActsOnce, Stands}
use Rattle.qz_terms.specs.Legal.{is_plan_for}
use Rattle.qz_terms.specs.Lists.{first_of, up_to_first}
use Rattle.qz_terms.proofs.Readings.{first_of-append}

-- ---- the first that passes, in a longer list

or-left : (b c : Bool) → b || c ≡ false → b ≡ false
or-left true c is = absurd cc
or-left false c is = refl

or-right : (b c : Bool) → b || c ≡ false → c ≡ false
or-right true c is = absurd cc
or-right false c is = is

-- of some, none of which passes, and one that does
pub first-behind : {A : Type 0} (p : A → Bool) (l : List A) (x : A) (rest : List A) → list_any p l ≡ false → p x ≡ true → first_of (filter p (l ++ x ∷ rest)) ≡ Some x
first-behind p [] x rest none is = rw is refl
first-behind p (y ∷ l) x rest none is = let other : p y ≡ false = or-left (p y) (list_any p l) none in rw other (first-behind p l x rest (or-right (p y) (list_any p l) none) is)

pub up-behind : {A : Type 0} (p : A → Bool) (l : List A) (x : A) (rest : List A) → list_any p l ≡ false → p x ≡ true → up_to_first p (l ++ x ∷ rest) ≡ l ++ x ∷ []
up-behind p [] x rest none is = rw is refl
up-behind p (y ∷ l) x rest none is = let other : p y ≡ false = or-left (p y) (list_any p l) none in rw other (ap (λ (t : List _). y ∷ t) (up-behind p l x rest (or-right (p y) (list_any p l) none) is))

pub bytes-same : (xs : List ℕ) → bytes_eq xs xs ≡ true
bytes-same [] = refl
bytes-same (x ∷ xs) = rw (eq-eqb x x refl) (bytes-same xs)

none-passes-step : {A : Type 0} (p : A → Bool) (x : A) (xs : List A) (b : Bool) → p x ≡ b → first_of (filter p (x ∷ xs)) ≡ None → (first_of (filter p xs) ≡ None → list_any p xs ≡ false) → list_any p (x ∷ xs) ≡ false
none-passes-step p x xs true is none later = absurd cc
none-passes-step p x xs false is none later = rw is (later (rw is at none))

-- where there is no first, none passes
pub none-passes : {A : Type 0} (p : A → Bool) (xs : List A) → first_of (filter p xs) ≡ None → list_any p xs ≡ false
none-passes p [] none = refl
none-passes p (x ∷ xs) none = none-passes-step p x xs (p x) refl none (none-passes p xs)

up_to_first-step : {A : Type 0} (p : A → Bool) (y : A) (xs ys : List A) (x : A) (b : Bool) → p y ≡ b → first_of (filter p (y ∷ xs)) ≡ Some x → (first_of (filter p xs) ≡ Some x → up_to_first p (xs ++ ys) ≡ up_to_first p xs) → up_to_first p ((y ∷ xs) ++ ys) ≡ up_to_first p (y ∷ xs)
up_to_first-step p y xs ys x true is found later = rw is refl
up_to_first-step p y xs ys x false is found later = rw is (ap (λ (t : List _). y ∷ t) (later (rw is at found)))

-- what stands up to the first is no longer in a longer list
up_to_first-append : {A : Type 0} (p : A → Bool) (xs ys : List A) (x : A) → first_of (filter p xs) ≡ Some x → up_to_first p (xs ++ ys) ≡ up_to_first p xs
up_to_first-append p [] ys x found = absurd cc
up_to_first-append p (y ∷ xs) ys x found = up_to_first-step p y xs ys x (p y) refl found (up_to_first-append p xs ys x)

-- ---- keys

key-by : (is_same : Record → Bool) (p : Record → Bool) (h rest : List Record) (o : Option Record) (v : Verdict) → first_of (filter p h) ≡ o → option_map (λ r. repeated_or_reused (is_same r) (up_to_first p h) r) o ≡ Some v
    → option_map (λ r. repeated_or_reused (is_same r) (up_to_first p (h ++ rest)) r) (first_of (filter p (h ++ rest))) ≡ Some v
key-by is_same p h rest None v found told = absurd cc
key-by is_same p h rest (Some r) v found told =
    let first : first_of (filter p (h ++ rest)) ≡ Some r = ap first_of (filter-append p h rest) ∙ first_of-append (filter p h) (filter p rest) r found in
    rw (first, up_to_first-append p h rest r found) told

pub by_key-append : (is_same : Record → Bool) (caller : ℕ) (key : Option (List ℕ)) (h rest : List Record) (v : Verdict) → by_key is_same caller key h ≡ Some v → by_key is_same caller key (h ++ rest) ≡ Some v
by_key-append is_same caller None h rest v told = absurd cc
by_key-append is_same caller (Some key) h rest v told = key-by is_same (has_key caller key) h rest (first_of (filter (has_key caller key) h)) v refl told

pub unmapped : {A B : Type 0} (f : A → B) (o : Option A) → option_map f o ≡ None → o ≡ None
unmapped f None none = refl
unmapped f (Some x) none = absurd cc

-- a new key, behind which its record is put
pub by_key-push : (is_same : Record → Bool) (caller : ℕ) (key : List ℕ) (h : List Record) (r : Record) → by_key is_same caller (Some key) h ≡ None → has_key caller key r ≡ true → is_same r ≡ true
    → by_key is_same caller (Some key) (h ++ r ∷ []) ≡ Some (Repeated (h ++ r ∷ []) r)
by_key-push is_same caller key h r fresh has spelled =
    let p = has_key caller key in
    let none = none-passes p h (unmapped (λ s. repeated_or_reused (is_same s) (up_to_first p h) s) (first_of (filter p h)) fresh) in
    rw (first-behind p h r [] none has, up-behind p h r [] none has, spelled) refl

-- ---- what is there, in a longer list

first-there : (o : Option Refusal) (os : List (Option Refusal)) → first_some (o ∷ os) ≡ None → (o ≡ None) × (first_some os ≡ None)
first-there None os none = (refl, none)
first-there (Some r) os none = absurd cc

started-by : {A : Type 0} (o : Option A) (b : Bool) (r : Refusal) → when (b || is_none o) r ≡ None → (x : A) × (o ≡ Some x)
started-by None true r none = absurd cc
started-by None false r none = absurd cc
started-by (Some x) b r none = (x, refl)

start-append : (h rest : List Record) (user : User) (a : AttemptId) → missing_attempt h user a ≡ None → history.start (h ++ rest) a ≡ history.start h a
start-append h rest user a there =
    let begun = started-by (history.start h a) _ _ there in
    ap first_of (filter_map-append (history.starts a) h rest) ∙ first_of-append (filter_map (history.starts a) h) (filter_map (history.starts a) rest) begun.0 begun.1 ∙ sym begun.1

attempt-append : (h rest : List Record) (user : User) (a : AttemptId) → missing_attempt h user a ≡ None → missing_attempt (h ++ rest) user a ≡ None
attempt-append h rest user a there = rw (start-append h rest user a there) there

slot-append : (h rest : List Record) (user : User) (a : AttemptId) (k : ℕ) → missing_slot h user a k ≡ None → missing_slot (h ++ rest) user a k ≡ None
slot-append h rest user a k there =
    let parts = first-there (missing_attempt h user a) _ there in
    rw (start-append h rest user a parts.0) there

missing-append : (h rest : List Record) (user : User) (x : Request) → missing_here h user x ≡ None → missing_here (h ++ rest) user x ≡ None
missing-append h rest user (request.Save a k certainty response) there = slot-append h rest user a k there
missing-append h rest user (request.Submit a k certainty response) there = slot-append h rest user a k there
missing-append h rest user (request.Again a k) there = slot-append h rest user a k there
missing-append h rest user (request.Finish a) there = attempt-append h rest user a there
missing-append h rest user (request.Mark a k mark) there = slot-append h rest user a k there
missing-append h rest user (request.Settle a) there = attempt-append h rest user a there
missing-append h rest user (request.View a k) there = slot-append h rest user a k there
missing-append h rest user (request.Total a) there = attempt-append h rest user a there
missing-append h rest user (request.Page a) there = attempt-append h rest user a there
missing-append h rest user (request.Grade q owner) there = there
missing-append h rest user x there = there

stands-append : (h rest : List Record) (user : User) (ask : Ask) (told : Reply) → Stands h user ask told → Stands (h ++ rest) user ask told
stands-append h rest user ask told s = record {
  records = s.records;
  own = s.own;
  may = s.may;
  there = missing-append h rest user ask.request s.there;
  found = by_key-append (spells ask.request) user.number ask.key h rest (Repeated s.records s.own) s.found;
  said = s.said;
}

-- ---- a record spells the request that made it

answer-same : (a : Answer) → same_answer a a ≡ true
answer-same answer.Blank = refl
answer-same (answer.Pick n) = eq-eqb n n refl
answer-same (answer.Picks ns) = bytes-same ns
answer-same (answer.Match ns) = bytes-same ns
answer-same (answer.Words text) = bytes-same text

response-same : (r : Response) → same r r ≡ true
response-same r = rw (answer-same r.answer, eq-eqb r.certainty r.certainty refl) refl

attempt-same : (a : AttemptId) → history.same_attempt a a ≡ true
attempt-same a = rw (eq-eqb a.user a.user refl, eq-eqb a.nth a.nth refl) refl

-- an event spells a request
record Tells (x : Request) (o : Option (ℕ × Event)) : Type 0 where
  owner : ℕ
  event : Event
  made : o ≡ Some (owner, event)
  spelled : spells_by event x ≡ true

spells-step : (v : Moved) (a : AttemptId) (k : ℕ) (s : Step) (x : Request) → same_slot a k x ≡ true → same_step s x ≡ true → spells_by (acted_or_noted v a k s) x ≡ true
spells-step moved_as.Kept a k s x slot step = rw (slot, step) refl
spells-step moved_as.Same a k s x slot step = rw (slot, step) refl

slot-same : (a : AttemptId) (k : ℕ) → (history.same_attempt a a && (k == k)) ≡ true
slot-same a k = rw (attempt-same a, eq-eqb k k refl) refl

made : (h : List Record) (moment : ℕ) (user : User) (plan : Plan) (x : Request) → asks_catalog x ≡ false → is_keyless x ≡ false → is_plan_for h plan x ≡ true → Tells x (event_here h moment user plan x)
made h moment user plan (request.Start q) shard keyed of_quiz = record { owner = user.number; event = started_by h user plan; made = refl; spelled = rw (eqb-true plan.quiz q of_quiz) (eq-eqb q q refl) }
made h moment user plan (request.Save a k certainty response) shard keyed of_quiz =
    let r : Response = record { answer = response; certainty = certainty } in
    record { owner = a.user; event = stepped_by h a k (step.Save r); made = refl; spelled = spells-step (moved (history.steps h a k) (step.Save r)) a k (step.Save r) (request.Save a k certainty response) (slot-same a k) (response-same r) }
made h moment user plan (request.Submit a k certainty response) shard keyed of_quiz =
    let r : Response = record { answer = response; certainty = certainty } in
    record { owner = a.user; event = stepped_by h a k (step.Submit r); made = refl; spelled = spells-step (moved (history.steps h a k) (step.Submit r)) a k (step.Submit r) (request.Submit a k certainty response) (slot-same a k) (response-same r) }
made h moment user plan (request.Again a k) shard keyed of_quiz = record { owner = a.user; event = event.Acted a k step.Again; made = refl; spelled = rw (slot-same a k) refl }
made h moment user plan (request.Finish a) shard keyed of_quiz = record { owner = a.user; event = event.Ended a how.Finished; made = refl; spelled = attempt-same a }
made h moment user plan (request.Mark a k mark) shard keyed of_quiz = record { owner = a.user; event = event.Acted a k (step.Mark mark (max_now h a k)); made = refl; spelled = rw (slot-same a k) ((Decides-int_eq mark mark).1 refl) }
made h moment user plan x shard keyed of_quiz = absurd cc

-- ---- what comes of a request that is accepted

keyless-by : (b : Bool) (l : List Record) (r : Record) → repeated_or_reused b l r ≡ Granted → ⊥
keyless-by true l r is = absurd cc
keyless-by false l r is = absurd cc

never-granted-by : (is_same : Record → Bool) (l : List Record) (o : Option Record) → option_map (λ r. repeated_or_reused (is_same r) l r) o ≡ Some Granted → ⊥
never-granted-by is_same l None is = absurd cc
never-granted-by is_same l (Some r) is = keyless-by (is_same r) l r cc

-- no key alone lets a request through
pub never-granted : (is_same : Record → Bool) (caller : ℕ) (key : Option (List ℕ)) (h : List Record) → by_key is_same caller key h ≡ Some Granted → ⊥
never-granted is_same caller None h is = absurd cc
never-granted is_same caller (Some key) h is = never-granted-by is_same (up_to_first (has_key caller key) h) (first_of (filter (has_key caller key) h)) is

-- no refusal, and no kept reply
pub free-by : (f m : Option Refusal) (k : Option Verdict) (c : Option Refusal) → (k ≡ Some Granted → ⊥) → unwrap_or (first_some (denied f ∷ denied m ∷ k ∷ denied c ∷ [])) Granted ≡ Granted → (f ≡ None) × (m ≡ None) × (k ≡ None) × (c ≡ None)
free-by (Some f) m k c never e = absurd cc
free-by None (Some m) k c never e = absurd cc
free-by None None (Some k) c never e = absurd (never (let same : k ≡ Granted = e in ap (λ (v : Verdict). Some v) same))
free-by None None None (Some c) never e = absurd cc
free-by None None None None never e = (refl, refl, refl, refl)

-- it repeats a record, or nothing holds against it
pub data Comes (f m : Option Refusal) (k : Option Verdict) (c : Option Refusal) : Type 0 where
  repeats : (l : List Record) (r : Record) → f ≡ None → m ≡ None → k ≡ Some (Repeated l r) → Comes f m k c
  passes : f ≡ None → m ≡ None → k ≡ None → c ≡ None → Comes f m k c

pub comes : (f m : Option Refusal) (k : Option Verdict) (c : Option Refusal) (accepted : Reply) (place : ℕ) (d : Done) → (k ≡ Some Granted → ⊥) → reply_to (unwrap_or (first_some (denied f ∷ denied m ∷ k ∷ denied c ∷ [])) Granted) accepted ≡ reply.Ok place d → Comes f m k c
comes (Some r) m k c accepted place d never told = absurd cc
comes None (Some r) k c accepted place d never told = absurd cc
comes None None (Some (Denied r)) c accepted place d never told = absurd cc
comes None None (Some (Repeated l r)) c accepted place d never told = repeats l r refl refl refl
comes None None (Some Granted) c accepted place d never told = absurd (never refl)
comes None None None (Some r) accepted place d never told = absurd cc
comes None None None None accepted place d never told = passes refl refl refl refl

pub keyed-by : (b : Bool) → cond b false true ≡ true → b ≡ false
keyed-by true e = absurd cc
keyed-by false e = refl

abbrev asking : Caller → Option (List ℕ) → Request → Ask
asking who key x = record { caller = who; key = key; request = x }

-- it stands in the list that it leaves
stands-by : (h : List Record) (now : ℕ) (user : User) (plan : Plan) (who : Caller) (key : List ℕ) (x : Request) (place : ℕ) (d : Done) → is_keyless x ≡ false → asks_catalog x ≡ false → is_plan_for h plan x ≡ true
    → answer_here h now user plan (asking who (Some key) x) ≡ reply.Ok place d
    → Comes (forbidden user x) (missing_here h user x) (by_key (spells x) user.number (Some key) h) (cause_here h (moment_of h now user x) user plan x)
    → Stands (list_after h now user plan (asking who (Some key) x)) user (asking who (Some key) x) (reply.Ok place d)
stands-by h now user plan who key x place d keyed shard of_quiz told (repeats l r may there found) =
    let ask = asking who (Some key) x in
    let verdict : verdict_here h (moment_of h now user x) user plan ask ≡ Repeated l r = rw (may, there, found) refl in
    let answer : answer_here h now user plan ask ≡ said l r = rw verdict refl in
    let list : list_after h now user plan ask ≡ h = rw verdict refl in
    subst (λ (g : List Record). Stands g user ask (reply.Ok place d)) (sym list) (record { records = l; own = r; may = may; there = there; found = found; said = sym told ∙ answer })
stands-by h now user plan who key x place d keyed shard of_quiz told (passes may there fresh free) =
    let ask = asking who (Some key) x in
    let moment = moment_of h now user x in
    let e = made h moment user plan x shard keyed of_quiz in
    let r = record_under moment user e.owner (Some key) plan e.event in
    let verdict : verdict_here h moment user plan ask ≡ Granted = rw (may, there, fresh, free) refl in
    let answer : answer_here h now user plan ask ≡ said (h ++ r ∷ []) r = rw (verdict, e.made) refl in
    let list : list_after h now user plan ask ≡ h ++ r ∷ [] = rw (verdict, e.made) refl in
    let has : has_key user.number key r ≡ true = rw (eq-eqb user.number user.number refl) (bytes-same key) in
    subst (λ (g : List Record). Stands g user ask (reply.Ok place d)) (sym list) (record {
      records = h ++ r ∷ [];
      own = r;
      may = may;
      there = missing-append h (r ∷ []) user x there;
      found = by_key-push (spells x) user.number key h r fresh has e.spelled;
      said = sym told ∙ answer;
    })

stands-asked : (h : List Record) (now : ℕ) (user : User) (plan : Plan) (who : Caller) (key : Option (List ℕ)) (x : Request) (place : ℕ) (d : Done) → is_keyed (asking who key x) ≡ true → is_some key ≡ true → asks_catalog x ≡ false → is_plan_for h plan x ≡ true
    → answer_here h now user plan (asking who key x) ≡ reply.Ok place d → Stands (list_after h now user plan (asking who key x)) user (asking who key x) (reply.Ok place d)
stands-asked h now user plan who None x place d keyed some shard of_quiz told = absurd cc
stands-asked h now user plan who (Some key) x place d keyed some shard of_quiz told =
    let moment = moment_of h now user x in
    let ask = asking who (Some key) x in
    stands-by h now user plan who key x place d (keyed-by (is_keyless x) keyed) shard of_quiz told
    (comes (forbidden user x) (missing_here h user x) (by_key (spells x) user.number (Some key) h) (cause_here h moment user plan x) (said_of_put h (put_here h moment user plan ask) (looked h moment user plan x)) place d
    (never-granted (spells x) user.number (Some key) h) told)

answered-again : (h : List Record) (now : ℕ) (user : User) (plan : Plan) (ask : Ask) (told : Reply) → Stands h user ask told → (answer_here h now user plan ask ≡ told) × (list_after h now user plan ask ≡ h)
answered-again h now user plan ask told s =
    let verdict : verdict_here h (moment_of h now user ask.request) user plan ask ≡ Repeated s.records s.own = rw (s.may, s.there, s.found) refl in
    let answer : answer_here h now user plan ask ≡ said s.records s.own = rw verdict refl in
    (answer ∙ sym s.said, rw verdict refl)

pub once_law : ActsOnce
once_law = record {
  stands = λ h now user plan ask place d keyed some shard of_quiz told. stands-asked h now user plan ask.caller ask.key ask.request place d keyed some shard of_quiz told;
  stays = stands-append;
  again = answered-again;
}
