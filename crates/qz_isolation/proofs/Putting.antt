-- The record that a request puts is the same over lists that agree for its user, but for what a start learns, and so is what is said
-- of it.
use Rattle.std.proofs.Common.{◌≡◌, ℕ, ◌+◌, ◌&&◌, ◌||◌, Bool, true, false, not, List, [], ◌∷◌, ◌++◌, length, Option, Some, None, refl, ap, ◌∙◌, sym, eq-eqb, if◌then◌else◌}
use Rattle.std.specs.Prelude.{◌==◌, ℤ, pos, filter_map, is_none, is_some, map, option_and_then, option_map, option_to_list, unwrap_or}
use Rattle.std.specs.List.{list_all}
use Rattle.std.proofs.lemmas.Bool.{eqb-true}
use Rattle.std.proofs.lemmas.List.Folds.{list_all-append}
use Rattle.qz_lemmas.proofs.Bools.{and-left, and-right}
use Rattle.qz_grading.specs.declared.outcome.Moved.{Moved}
use Rattle.qz_grading.specs.declared.outcome.Moved.TheVariants as moved_as
use Rattle.qz_grading.specs.declared.refusal.AttemptId.{AttemptId}
use Rattle.qz_grading.specs.declared.refusal.Refusal.{Refusal}
use Rattle.qz_grading.specs.declared.response.Step.{Step}
use Rattle.qz_grading.specs.declared.response.Step.TheVariants as step
use Rattle.qz_grading.specs.Behaviours.{first_some, moved, when}
use Rattle.qz_grading.specs.Steps.{last_of}
use Rattle.qz_terms.specs.declared.people.User.{User}
use Rattle.qz_terms.specs.declared.plan.Bound.{Bound}
use Rattle.qz_terms.specs.declared.plan.Plan.{Plan}
use Rattle.qz_terms.specs.declared.record.Event.{Event}
use Rattle.qz_terms.specs.declared.record.Event.TheVariants as event
use Rattle.qz_terms.specs.declared.record.How.{How}
use Rattle.qz_terms.specs.declared.record.How.TheVariants as how
use Rattle.qz_terms.specs.declared.record.Record.{Record}
use Rattle.qz_terms.specs.declared.reply.Done.TheVariants as done
use Rattle.qz_terms.specs.declared.reply.Reply.{Reply}
use Rattle.qz_terms.specs.declared.reply.Reply.TheVariants as reply
use Rattle.qz_terms.specs.declared.request.Request.{Request}
use Rattle.qz_terms.specs.declared.request.Request.TheVariants as request
use Rattle.qz_terms.specs.Access.{due, expired, settled_by}
use Rattle.qz_terms.specs.Answer.{acted_or_noted, bind, event_here, looked, named_user, record_under, said, said_of_put, started_by}
use Rattle.qz_terms.specs.Cause.{missing_attempt, missing_here}
use Rattle.qz_terms.specs.History.{Start}
use Rattle.qz_terms.specs.History as history
use Rattle.qz_terms.specs.Kept.{has_terms}
use Rattle.qz_terms.specs.Laws.{AgreeFor, own_records, unlearned_event}
use Rattle.qz_terms.specs.Legal.{has_its_owner, is_here, owner_by}
use Rattle.qz_terms.specs.Lists.{first_of, only_if}
use Rattle.qz_terms.proofs.Isolated.{isolated_law}
use Rattle.qz_terms.proofs.Readings.{filter_map-other}
use Rattle.qz_terms.proofs.Walks.{how_many-push}
use Rattle.qz_isolation.proofs.Causes.{next-own}
use Rattle.qz_isolation.proofs.Looking.{looked-own}
use Rattle.qz_isolation.proofs.Own.{own-alone, own-append}
use Rattle.qz_isolation.proofs.Telling.{said-own}

-- ---- an attempt that is there belongs to the shard

if-true : {A : Type 0} (b : Bool) (x y : A) → (if b then Some x else None) ≡ Some y → b ≡ true
if-true true x y is = refl
if-true false x y is = absurd cc

here-by : (index count : ℕ) (a : AttemptId) (r : Record) (e : Event) (s : Start) → owner_by index count r e ≡ true → option_and_then (only_if (λ (t : Start). history.same_attempt a t.attempt)) (history.start_by r e) ≡ Some s → is_here index count a.user ≡ true
here-by index count a r (event.Started quiz nth behaviour bounds learned) s owner told =
    let its : AttemptId = record { user = r.owner; nth = nth } in
    let same = if-true (history.same_attempt a its) _ s told in
    ap (is_here index count) (eqb-true a.user r.owner (and-left (a.user == r.owner) (a.nth == nth) same)) ∙ owner
here-by index count a r e s owner told = absurd cc

here-step : (index count : ℕ) (a : AttemptId) (r : Record) (h : List Record) (o : Option Start) → history.starts a r ≡ o → has_its_owner index count r ≡ true → is_none (history.start (r ∷ h) a) ≡ false → (is_none (history.start h a) ≡ false → is_here index count a.user ≡ true) → is_here index count a.user ≡ true
here-step index count a r h None is owner there later = later (rw is at there)
here-step index count a r h (Some s) is owner there later = here-by index count a r r.event s owner is

here : (index count : ℕ) (a : AttemptId) (h : List Record) → list_all (has_its_owner index count) h ≡ true → is_none (history.start h a) ≡ false → is_here index count a.user ≡ true
here index count a [] all there = absurd cc
here index count a (r ∷ h) all there =
    here-step index count a r h (history.starts a r) refl (and-left (has_its_owner index count r) (list_all (has_its_owner index count) h) all) there (here index count a h (and-right (has_its_owner index count r) (list_all (has_its_owner index count) h) all))

there-by : {A : Type 0} (b : Bool) (o : Option A) (r : Refusal) → when (b || is_none o) r ≡ None → is_none o ≡ false
there-by true o r none = absurd cc
there-by false None r none = absurd cc
there-by false (Some x) r none = refl

first-none : (o p : Option Refusal) → first_some (o ∷ p ∷ []) ≡ None → o ≡ None
first-none None p none = refl
first-none (Some r) p none = absurd cc

-- ---- one record more of an attempt

-- the attempt that a step or an end is of
abbrev pub acts_on : Event → Option AttemptId
acts_on (event.Acted a k x) = Some a
acts_on (event.Noted a k x) = Some a
acts_on (event.Ended a how) = Some a
acts_on e = None

acting-owner : (index count : ℕ) (r : Record) (e : Event) (a : AttemptId) → acts_on e ≡ Some a → r.owner ≡ a.user → is_here index count a.user ≡ true → owner_by index count r e ≡ true
acting-owner index count r (event.Acted b k x) a is owner at = let same : a ≡ b = cc in rw (sym same, eq-eqb r.owner a.user owner) at
acting-owner index count r (event.Noted b k x) a is owner at = let same : a ≡ b = cc in rw (sym same, eq-eqb r.owner a.user owner) at
acting-owner index count r (event.Ended b how) a is owner at = let same : a ≡ b = cc in rw (sym same, eq-eqb r.owner a.user owner) at
acting-owner index count r e a is owner at = absurd cc

acting-terms : (e : Event) (a : AttemptId) → acts_on e ≡ Some a → has_terms e ≡ true
acting-terms (event.Acted b k x) a is = refl
acting-terms (event.Noted b k x) a is = refl
acting-terms (event.Ended b how) a is = refl
acting-terms e a is = absurd cc

acting-binds : (r : Record) (e : Event) (a b : AttemptId) (k : ℕ) → acts_on e ≡ Some a → history.binds_by b k r e ≡ None
acting-binds r (event.Acted c j x) a b k is = refl
acting-binds r (event.Noted c j x) a b k is = refl
acting-binds r (event.Ended c how) a b k is = refl
acting-binds r e a b k is = absurd cc

acting-learns : (e : Event) (a : AttemptId) (n v : ℕ) → acts_on e ≡ Some a → first_of (filter_map (history.learned_version n v) (history.learned_by e)) ≡ None
acting-learns (event.Acted c j x) a n v is = refl
acting-learns (event.Noted c j x) a n v is = refl
acting-learns (event.Ended c how) a n v is = refl
acting-learns e a n v is = absurd cc

all-more : (good : Record → Bool) (h : List Record) (r : Record) → list_all good h ≡ true → good r ≡ true → list_all good (h ++ r ∷ []) ≡ true
all-more good h r all one = list_all-append good h (r ∷ []) ∙ rw (all, one) refl

agree-more : (index count u : ℕ) (h g : List Record) (r : Record) (a : AttemptId) → AgreeFor index count u h g → has_its_owner index count r ≡ true → acts_on r.event ≡ Some a → AgreeFor index count u (h ++ r ∷ []) (g ++ r ∷ [])
agree-more index count u h g r a agree owner is = record {
  owners = all-more (has_its_owner index count) h r agree.owners owner;
  others = all-more (has_its_owner index count) g r agree.others owner;
  own = own-append u h (r ∷ []) ∙ ap (λ (t : List Record). t ++ own_records u (r ∷ [])) agree.own ∙ sym (own-append u g (r ∷ []));
  versions = λ b k d mine bound.
      let before : history.bound h b k ≡ Some d = ap last_of (sym (filter_map-other (history.binds b k) h r (acting-binds r r.event a b k is))) ∙ bound in
      let none = acting-learns r.event a d.entry d.version is in
      let same : (l : List Record) → history.version (l ++ r ∷ []) d.entry d.version ≡ history.version l d.entry d.version = λ l. ap first_of (filter_map-other (history.learns d.entry d.version) l r none) in
      same h ∙ agree.versions b k d mine before ∙ sym (same g);
}

said-acting : (index count moment : ℕ) (user : User) (key : Option (List ℕ)) (plan : Plan) (a : AttemptId) (h g : List Record) (e : Event) → acts_on e ≡ Some a → is_here index count a.user ≡ true → AgreeFor index count a.user h g
    → said (h ++ record_under moment user a.user key plan e ∷ []) (record_under moment user a.user key plan e) ≡ said (g ++ record_under moment user a.user key plan e ∷ []) (record_under moment user a.user key plan e)
said-acting index count moment user key plan a h g e is at agree =
    let r = record_under moment user a.user key plan e in
    let owner = acting-owner index count r e a is refl at in
    said-own index count (h ++ r ∷ []) (g ++ r ∷ []) r r refl (acting-terms e a is) owner (agree-more index count a.user h g r a agree owner is)

-- ---- the events of requests

abbrev step_event : List Step → AttemptId → ℕ → Step → Event
step_event taken a k x = acted_or_noted (moved taken x) a k x

moved-acts : (v : Moved) (a : AttemptId) (k : ℕ) (x : Step) → acts_on (acted_or_noted v a k x) ≡ Some a
moved-acts moved_as.Kept a k x = refl
moved-acts moved_as.Same a k x = refl

abbrev marked_event : Option Bound → AttemptId → ℕ → ℤ → Event
marked_event b a k mark = event.Acted a k (step.Mark mark (unwrap_or (option_map (λ (d : Bound). d.max) b) (pos 0)))

abbrev pub is_over : Plan → ℕ → Option Start → Option How → Bool
is_over plan moment s end = not (is_some end) && unwrap_or (option_map (λ (t : Start). expired plan.settings t.moment moment) s) false

abbrev pub settling_event : Bool → Plan → AttemptId → Option (ℕ × Event)
settling_event over plan a = if over then Some (a.user, event.Ended a (settled_by plan.settings.handling)) else None

-- ---- what is put

abbrev pub as_record : ℕ → User → Option (List ℕ) → Plan → ℕ × Event → Record
as_record moment user key plan e = record_under moment user e.0 key plan e.1

abbrev pub put_of : List Record → ℕ → User → Plan → Option (List ℕ) → Request → Option Record
put_of h moment user plan key x = option_map (as_record moment user key plan) (event_here h moment user plan x)

abbrev forget : ℕ × Event → ℕ × Event
forget e = (e.0, unlearned_event e.1)

events-own : (index count moment : ℕ) (user : User) (plan : Plan) (h g : List Record) (x : Request) → AgreeFor index count (named_user user x) h g → option_map forget (event_here h moment user plan x) ≡ option_map forget (event_here g moment user plan x)
events-own index count moment user plan h g (request.Start quiz) agree = λ i. Some (user.number, event.Started plan.quiz (next-own index count user.number h g agree i).nth plan.behaviour (map (bind plan.at) plan.slots) [])
events-own index count moment user plan h g (request.Save a k certainty response) agree = λ i. Some (a.user, unlearned_event (step_event (isolated_law.steps index count a k h g agree i) a k (step.Save (record { answer = response; certainty = certainty }))))
events-own index count moment user plan h g (request.Submit a k certainty response) agree = λ i. Some (a.user, unlearned_event (step_event (isolated_law.steps index count a k h g agree i) a k (step.Submit (record { answer = response; certainty = certainty }))))
events-own index count moment user plan h g (request.Again a k) agree = refl
events-own index count moment user plan h g (request.Finish a) agree = refl
events-own index count moment user plan h g (request.Mark a k mark) agree = λ i. Some (a.user, marked_event (isolated_law.bound index count a k h g agree i) a k mark)
events-own index count moment user plan h g (request.Settle a) agree = λ i. option_map forget (settling_event (is_over plan moment (isolated_law.start index count a h g agree i) (isolated_law.ended index count a h g agree i)) plan a)
events-own index count moment user plan h g x agree = refl

own-put-by : (u moment : ℕ) (user : User) (key : Option (List ℕ)) (plan : Plan) (o p : Option (ℕ × Event)) → option_map forget o ≡ option_map forget p
    → own_records u (option_to_list (option_map (as_record moment user key plan) o)) ≡ own_records u (option_to_list (option_map (as_record moment user key plan) p))
own-put-by u moment user key plan None None same = refl
own-put-by u moment user key plan None (Some d) same = absurd cc
own-put-by u moment user key plan (Some e) None same = absurd cc
own-put-by u moment user key plan (Some e) (Some d) same =
    let events : forget e ≡ forget d = cc in
    own-alone u (as_record moment user key plan e) (as_record moment user key plan d) (ap (as_record moment user key plan) events)

-- the same but for what was learned
pub own-put : (index count u moment : ℕ) (user : User) (plan : Plan) (key : Option (List ℕ)) (h g : List Record) (x : Request) → AgreeFor index count (named_user user x) h g
    → own_records u (option_to_list (put_of h moment user plan key x)) ≡ own_records u (option_to_list (put_of g moment user plan key x))
own-put index count u moment user plan key h g x agree = own-put-by u moment user key plan (event_here h moment user plan x) (event_here g moment user plan x) (events-own index count moment user plan h g x agree)

-- ---- what is said of it

owned-more : (h : List Record) (r : Record) → history.place (h ++ r ∷ []) r.owner ≡ history.place h r.owner + 1
owned-more h r = how_many-push (history.is_owned r.owner) h r true (eq-eqb r.owner r.owner refl)

starting-said : (index count moment : ℕ) (user : User) (plan : Plan) (key : Option (List ℕ)) (h g : List Record) → AgreeFor index count user.number h g
    → said (h ++ record_under moment user user.number key plan (started_by h user plan) ∷ []) (record_under moment user user.number key plan (started_by h user plan))
    ≡ said (g ++ record_under moment user user.number key plan (started_by g user plan) ∷ []) (record_under moment user user.number key plan (started_by g user plan))
starting-said index count moment user plan key h g agree =
    let r = record_under moment user user.number key plan (started_by h user plan) in
    let s = record_under moment user user.number key plan (started_by g user plan) in
    let place : history.place (h ++ r ∷ []) user.number ≡ history.place (g ++ s ∷ []) user.number = owned-more h r ∙ ap (λ n. n + 1) (isolated_law.place index count user.number h g agree) ∙ sym (owned-more g s) in
    λ i. reply.Ok (place i) (done.Started (record { user = user.number; nth = (next-own index count user.number h g agree i).nth }) (length (map (bind plan.at) plan.slots)) (due plan.settings moment))

-- a step, of an attempt that is there
stepping-said : (index count moment : ℕ) (user : User) (plan : Plan) (key : Option (List ℕ)) (a : AttemptId) (k : ℕ) (x : Step) (h g : List Record) → AgreeFor index count a.user h g → is_here index count a.user ≡ true
    → said (h ++ record_under moment user a.user key plan (step_event (history.steps h a k) a k x) ∷ []) (record_under moment user a.user key plan (step_event (history.steps h a k) a k x))
    ≡ said (g ++ record_under moment user a.user key plan (step_event (history.steps g a k) a k x) ∷ []) (record_under moment user a.user key plan (step_event (history.steps g a k) a k x))
stepping-said index count moment user plan key a k x h g agree at =
    (λ i. let r = record_under moment user a.user key plan (step_event (isolated_law.steps index count a k h g agree i) a k x) in said (h ++ r ∷ []) r)
    ∙ said-acting index count moment user key plan a h g (step_event (history.steps g a k) a k x) (moved-acts (moved (history.steps g a k) x) a k x) at agree

marking-said : (index count moment : ℕ) (user : User) (plan : Plan) (key : Option (List ℕ)) (a : AttemptId) (k : ℕ) (mark : ℤ) (h g : List Record) → AgreeFor index count a.user h g → is_here index count a.user ≡ true
    → said (h ++ record_under moment user a.user key plan (marked_event (history.bound h a k) a k mark) ∷ []) (record_under moment user a.user key plan (marked_event (history.bound h a k) a k mark))
    ≡ said (g ++ record_under moment user a.user key plan (marked_event (history.bound g a k) a k mark) ∷ []) (record_under moment user a.user key plan (marked_event (history.bound g a k) a k mark))
marking-said index count moment user plan key a k mark h g agree at =
    (λ i. let r = record_under moment user a.user key plan (marked_event (isolated_law.bound index count a k h g agree i) a k mark) in said (h ++ r ∷ []) r)
    ∙ said-acting index count moment user key plan a h g (marked_event (history.bound g a k) a k mark) refl at agree

settling-by : (index count moment : ℕ) (user : User) (plan : Plan) (key : Option (List ℕ)) (a : AttemptId) (h g : List Record) (over : Bool) (look other : Reply) → AgreeFor index count a.user h g → is_here index count a.user ≡ true → look ≡ other
    → said_of_put h (option_map (as_record moment user key plan) (settling_event over plan a)) look ≡ said_of_put g (option_map (as_record moment user key plan) (settling_event over plan a)) other
settling-by index count moment user plan key a h g true look other agree at same = said-acting index count moment user key plan a h g (event.Ended a (settled_by plan.settings.handling)) refl at agree
settling-by index count moment user plan key a h g false look other agree at same = same

attempt-here : (index count : ℕ) (user : User) (a : AttemptId) (h g : List Record) → AgreeFor index count a.user h g → missing_attempt g user a ≡ None → is_here index count a.user ≡ true
attempt-here index count user a h g agree there = here index count a g agree.others (there-by _ (history.start g a) _ there)

-- of the record put, or of a look
pub accepted-own : (index count moment : ℕ) (user : User) (plan : Plan) (key : Option (List ℕ)) (h g : List Record) (x : Request) → AgreeFor index count (named_user user x) h g → missing_here g user x ≡ None
    → said_of_put h (put_of h moment user plan key x) (looked h moment user plan x) ≡ said_of_put g (put_of g moment user plan key x) (looked g moment user plan x)
accepted-own index count moment user plan key h g (request.Start quiz) agree there = starting-said index count moment user plan key h g agree
accepted-own index count moment user plan key h g (request.Save a k certainty response) agree there =
    stepping-said index count moment user plan key a k (step.Save (record { answer = response; certainty = certainty })) h g agree (attempt-here index count user a h g agree (first-none _ _ there))
accepted-own index count moment user plan key h g (request.Submit a k certainty response) agree there =
    stepping-said index count moment user plan key a k (step.Submit (record { answer = response; certainty = certainty })) h g agree (attempt-here index count user a h g agree (first-none _ _ there))
accepted-own index count moment user plan key h g (request.Again a k) agree there = said-acting index count moment user key plan a h g (event.Acted a k step.Again) refl (attempt-here index count user a h g agree (first-none _ _ there)) agree
accepted-own index count moment user plan key h g (request.Finish a) agree there = said-acting index count moment user key plan a h g (event.Ended a how.Finished) refl (attempt-here index count user a h g agree there) agree
accepted-own index count moment user plan key h g (request.Mark a k mark) agree there = marking-said index count moment user plan key a k mark h g agree (attempt-here index count user a h g agree (first-none _ _ there))
accepted-own index count moment user plan key h g (request.Settle a) agree there =
    let over = is_over plan moment (history.start g a) (history.ended g a) in
    (λ i. said_of_put h (option_map (as_record moment user key plan) (settling_event (is_over plan moment (isolated_law.start index count a h g agree i) (isolated_law.ended index count a h g agree i)) plan a)) (looked h moment user plan (request.Settle a)))
    ∙ settling-by index count moment user plan key a h g over (looked h moment user plan (request.Settle a)) (looked g moment user plan (request.Settle a)) agree (attempt-here index count user a h g agree there) (looked-own index count moment user plan h g (request.Settle a) agree)
accepted-own index count moment user plan key h g x agree there = looked-own index count moment user plan h g x agree
