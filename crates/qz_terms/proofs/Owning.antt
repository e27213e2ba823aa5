-- No answer tells of what is outside of the lists: no cause of a refusal does.
use Rattle.std.proofs.Common.{◌≡◌, ℕ, ℤ, Bool, true, false, cond, not, List, [], ◌∷◌, Option, Some, None, length, refl}
use Rattle.std.specs.Prelude.{◌&&◌, ◌==◌, nat_le, nat_lt, option_map, option_and_then, unwrap_or}
use Rattle.qz_grading.specs.declared.outcome.Behaviour.{Behaviour}
use Rattle.qz_grading.specs.declared.outcome.State.{State}
use Rattle.qz_grading.specs.declared.question.Question.{Question}
use Rattle.qz_grading.specs.declared.refusal.AttemptId.{AttemptId}
use Rattle.qz_grading.specs.declared.refusal.Refusal.{Refusal}
use Rattle.qz_grading.specs.declared.refusal.Refusal.TheVariants as refusal
use Rattle.qz_grading.specs.declared.refusal.Thing.TheVariants as thing
use Rattle.qz_grading.specs.declared.response.Step.{Step}
use Rattle.qz_grading.specs.declared.response.Step.TheVariants as step
use Rattle.qz_grading.specs.Behaviours.{barred_showing, comes_late, first_some, is_response, is_wrong_action, needs_again, when}
use Rattle.qz_grading.specs.Slots.{is_full_for, is_misfit, is_out_of_range, slot_state, step_cause}
use Rattle.qz_grading.specs.Steps.{has_finish, is_mark}
use Rattle.qz_terms.specs.declared.access.Settings.{Settings}
use Rattle.qz_terms.specs.declared.ask.Ask.{Ask}
use Rattle.qz_terms.specs.declared.people.User.{User}
use Rattle.qz_terms.specs.declared.plan.Job.{Job}
use Rattle.qz_terms.specs.declared.plan.Plan.{Plan}
use Rattle.qz_terms.specs.declared.record.Record.{Record}
use Rattle.qz_terms.specs.declared.reply.Done.{Done}
use Rattle.qz_terms.specs.declared.reply.Done.TheVariants as done
use Rattle.qz_terms.specs.declared.reply.Reply.{Reply}
use Rattle.qz_terms.specs.declared.reply.Reply.TheVariants as reply
use Rattle.qz_terms.specs.declared.request.Request.{Request}
use Rattle.qz_terms.specs.declared.request.Request.TheVariants as request
use Rattle.qz_terms.specs.declared.request.Whom.{Whom}
use Rattle.qz_terms.specs.declared.request.Whom.TheVariants as whom
use Rattle.qz_terms.specs.Access.{answer_cause, closed_at, finish_cause, if_set, is_past, late, start_cause}
use Rattle.qz_terms.specs.Answer.{answer_here, done_place, looked, looked_by, moment_of, named_user, put_by_job, put_here, reply_to, said_of_put, work_answer}
use Rattle.qz_terms.specs.CatalogAnswer.{asks_catalog, catalog_answer, catalog_verdict, looked_in_by, put_in, record_in}
use Rattle.qz_terms.specs.SchoolAnswer.{answer_among, answer_by, first_refusal, job_answer, part_at, part_of, plan_for, refusal_among, school_answer_by, shard_answer}
use Rattle.qz_terms.specs.Catalog as catalog
use Rattle.qz_terms.specs.Cause.{Denied, Granted, Repeated, Verdict, answering_cause, by_key, cause_here, cause_in, change_cause, denied, forbidden, missing_here, missing_in, missing_shard, missing_slot, missing_whom, refusal_shown, repeated_or_reused, slot_cause, verdict_here, verdict_in}
use Rattle.qz_terms.specs.History.{Slot, Start}
use Rattle.qz_terms.specs.History as history
use Rattle.qz_terms.specs.Laws.{AnswersAreOwn, is_from_outside, tells_of_outside}

-- ---- the first of some

-- whether what is there keeps a test
abbrev keeps : {A : Type 0} → (A → Bool) → Option A → Bool
keeps p None = true
keeps p (Some x) = p x

first-keeps : {A : Type 0} (p : A → Bool) (o : Option A) (os : List (Option A)) → keeps p o ≡ true → keeps p (first_some os) ≡ true → keeps p (first_some (o ∷ os)) ≡ true
first-keeps p None os one others = others
first-keeps p (Some x) os one others = one

map-keeps : {A B : Type 0} (p : B → Bool) (f : A → B) (o : Option A) → ((x : A) → p (f x) ≡ true) → keeps p (option_map f o) ≡ true
map-keeps p f None each = refl
map-keeps p f (Some x) each = each x

then-keeps : {A B : Type 0} (p : B → Bool) (f : A → Option B) (o : Option A) → ((x : A) → keeps p (f x) ≡ true) → keeps p (option_and_then f o) ≡ true
then-keeps p f None each = refl
then-keeps p f (Some x) each = each x

abbrev is_own : Refusal → Bool
is_own r = not (is_from_outside r)

when-own : (b : Bool) (r : Refusal) → is_own r ≡ true → keeps is_own (when b r) ≡ true
when-own true r own = own
when-own false r own = refl

more-own : (b : Bool) (r : Refusal) (os : List (Option Refusal)) → is_own r ≡ true → keeps is_own (first_some os) ≡ true → keeps is_own (first_some (when b r ∷ os)) ≡ true
more-own true r os own others = own
more-own false r os own others = others

late-own : (b : Bool) (due : Option ℕ) → keeps is_own (late b due) ≡ true
late-own true None = refl
late-own true (Some d) = refl
late-own false due = refl

closed-own : (ended : Option ℕ) → keeps is_own (closed_at ended) ≡ true
closed-own None = refl
closed-own (Some n) = refl

two-own : (o k : Option Refusal) → keeps is_own o ≡ true → keeps is_own k ≡ true → keeps is_own (first_some (o ∷ k ∷ [])) ≡ true
two-own o k one other = first-keeps is_own o (k ∷ []) one (first-keeps is_own k [] other refl)

three-own : (o k m : Option Refusal) → keeps is_own o ≡ true → keeps is_own k ≡ true → keeps is_own m ≡ true → keeps is_own (first_some (o ∷ k ∷ m ∷ [])) ≡ true
three-own o k m one other third = first-keeps is_own o (k ∷ m ∷ []) one (two-own k m other third)

-- ---- what isn't there

whom-own : (c : List Record) (w : Whom) (n : ℕ) → keeps is_own (missing_whom c w n) ≡ true
whom-own c whom.User n = when-own _ _ refl
whom-own c whom.Group n = when-own _ _ refl

missing-own : (c : List Record) (x : Request) → keeps is_own (missing_in c x) ≡ true
missing-own c (request.Member g u) = two-own _ _ (when-own _ _ refl) (when-own _ _ refl)
missing-own c (request.Edit e gift) = when-own _ _ refl
missing-own c (request.Tune e p hints) = when-own _ _ refl
missing-own c (request.Slot q e max) = two-own _ _ (when-own _ _ refl) (when-own _ _ refl)
missing-own c (request.Ready q) = when-own _ _ refl
missing-own c (request.Remax q k max) = two-own _ _ (when-own _ _ refl) (when-own _ _ refl)
missing-own c (request.Policy q method grade) = when-own _ _ refl
missing-own c (request.Times q opens closes limit allowed handling grace review) = when-own _ _ refl
missing-own c (request.Override q w n opens closes limit allowed) = two-own _ _ (when-own _ _ refl) (whom-own c w n)
missing-own c (request.Regrade q) = when-own _ _ refl
missing-own c (request.Start q) = when-own _ _ refl
missing-own c (request.Work job shard) = when-own _ _ refl
missing-own c (request.Grade q u) = two-own _ _ (when-own _ _ refl) (when-own _ _ refl)
missing-own c (request.Report q) = when-own _ _ refl
missing-own c (request.Bank e v) = two-own _ _ (when-own _ _ refl) (when-own _ _ refl)
missing-own c x = refl

missing_shard-own : (count : ℕ) (x : Request) → keeps is_own (missing_shard count x) ≡ true
missing_shard-own count (request.Work job shard) = when-own _ _ refl
missing_shard-own count (request.Live shard a) = when-own _ _ refl
missing_shard-own count x = refl

missing_slot-own : (h : List Record) (user : User) (a : AttemptId) (k : ℕ) → keeps is_own (missing_slot h user a k) ≡ true
missing_slot-own h user a k = two-own _ _ (when-own _ _ refl) (when-own _ _ refl)

missing_here-own : (h : List Record) (user : User) (x : Request) → keeps is_own (missing_here h user x) ≡ true
missing_here-own h user (request.Save a k certainty response) = missing_slot-own h user a k
missing_here-own h user (request.Submit a k certainty response) = missing_slot-own h user a k
missing_here-own h user (request.Again a k) = missing_slot-own h user a k
missing_here-own h user (request.Finish a) = when-own _ _ refl
missing_here-own h user (request.Mark a k mark) = missing_slot-own h user a k
missing_here-own h user (request.Settle a) = when-own _ _ refl
missing_here-own h user (request.View a k) = missing_slot-own h user a k
missing_here-own h user (request.Total a) = when-own _ _ refl
missing_here-own h user (request.Page a) = when-own _ _ refl
missing_here-own h user (request.Grade q owner) = when-own _ _ refl
missing_here-own h user x = refl

-- ---- the causes behind the key, in the catalogue

change-own : (c : List Record) (entry : ℕ) (x : Request) → keeps is_own (change_cause c entry x) ≡ true
change-own c entry x = two-own _ _ (when-own _ _ refl) (when-own _ _ refl)

ready-own : (c : List Record) (q : ℕ) → keeps is_own (closed_at (catalog.ready_at c q)) ≡ true
ready-own c q = closed-own (catalog.ready_at c q)

cause-own : (c : List Record) (r : Record) (x : Request) → keeps is_own (cause_in c r x) ≡ true
cause-own c r (request.User name role token) = two-own _ _ (map-keeps is_own refusal.KeyReused (catalog.token_place c token) (λ place. refl)) (when-own _ _ refl)
cause-own c r (request.Group name) = when-own _ _ refl
cause-own c r (request.Import gift) = two-own _ _ (when-own _ _ refl) (when-own _ _ refl)
cause-own c r (request.Edit e gift) = change-own c e (request.Edit e gift)
cause-own c r (request.Tune e p hints) = change-own c e (request.Tune e p hints)
cause-own c r (request.Quiz name behaviour) = when-own _ _ refl
cause-own c r (request.Slot q e max) = three-own _ _ _ (ready-own c q) (when-own _ _ refl) (when-own _ _ refl)
cause-own c r (request.Ready q) = ready-own c q
cause-own c r (request.Remax q k max) = when-own _ _ refl
cause-own c r (request.Override q w n opens closes limit allowed) = when-own _ _ refl
cause-own c r (request.Regrade q) = two-own _ _ (when-own _ _ refl) (when-own _ _ refl)
cause-own c r x = refl

-- ---- and in a shard

barred-own : (shown : State) (b : Behaviour) (q : Question) (s : List Step) (x : Step) → keeps is_own (barred_showing shown b q s x) ≡ true
barred-own shown b q s x =
    three-own (when (is_wrong_action b q s x) (refusal.WrongAction b)) (when (comes_late b q s x) (refusal.SlotEnded shown)) (when (is_response x && needs_again b q s) refusal.NeedsTryAgain)
    (when-own (is_wrong_action b q s x) (refusal.WrongAction b) refl) (when-own (comes_late b q s x) (refusal.SlotEnded shown) refl) (when-own (is_response x && needs_again b q s) refusal.NeedsTryAgain refl)

full-own : (s : List Step) (x : Step) → keeps is_own (is_full_for s x) ≡ true
full-own s x = two-own _ _ (when-own _ _ refl) (when-own _ _ refl)

step-own : (b : Behaviour) (q : Question) (max : ℤ) (s : List Step) (x : Step) → keeps is_own (step_cause b q max s x) ≡ true
step-own b q max s x =
    let shown = slot_state b q s in
    let last = is_full_for s x ∷ [] in
    let unfinished = when (is_mark x && not (has_finish s)) refusal.NotFinished ∷ last in
    let out = when (is_out_of_range max x) (refusal.OutOfRange max) ∷ unfinished in
    first-keeps is_own (barred_showing shown b q s x) (when (is_misfit b q x) refusal.Misfit ∷ out) (barred-own shown b q s x)
    (more-own (is_misfit b q x) refusal.Misfit out refl (more-own (is_out_of_range max x) (refusal.OutOfRange max) unfinished refl
    (more-own (is_mark x && not (has_finish s)) refusal.NotFinished last refl (first-keeps is_own (is_full_for s x) [] (full-own s x) refl))))

shown-own : (visible : Bool) (r : Refusal) → is_from_outside (refusal_shown visible r) ≡ is_from_outside r
shown-own visible (refusal.SlotEnded s) = refl
shown-own visible r = refl

shown-keeps : (visible : Bool) (o : Option Refusal) → keeps is_own o ≡ true → keeps is_own (option_map (refusal_shown visible) o) ≡ true
shown-keeps visible None own = refl
shown-keeps visible (Some r) own = rw (shown-own visible r) own

slot-own : (h : List Record) (moment : ℕ) (user : User) (plan : Plan) (a : AttemptId) (k : ℕ) (x : ℤ → Step) → keeps is_own (slot_cause h moment user plan a k x) ≡ true
slot-own h moment user plan a k x = then-keeps is_own _ _ (λ (s : Slot). shown-keeps _ _ (step-own s.behaviour s.question s.bound.max s.steps (x s.bound.max)))

answer-own : (s : Settings) (began moment : ℕ) (ended : Option ℕ) → keeps is_own (answer_cause s began moment ended) ≡ true
answer-own s began moment ended = two-own _ _ (late-own _ _) (closed-own ended)

finish-own : (s : Settings) (began moment : ℕ) (ended : Option ℕ) → keeps is_own (finish_cause s began moment ended) ≡ true
finish-own s began moment ended = two-own _ _ (late-own _ _) (closed-own ended)

start-own : (s : Settings) (ready : Bool) (moment made : ℕ) (unfinished : Option AttemptId) → keeps is_own (start_cause s ready moment made unfinished) ≡ true
start-own s ready moment made unfinished =
    let closed = late (is_past (if_set s.closes s.closes) moment) (Some s.closes) in
    let none_left = when (not (s.allowed == 0) && nat_le s.allowed made) (refusal.NoAttemptsLeft s.allowed) in
    let others = closed ∷ none_left ∷ option_map refusal.Unfinished unfinished ∷ [] in
    more-own (not ready) (refusal.NotOpen 0) (when (nat_lt moment s.opens) (refusal.NotOpen s.opens) ∷ others) refl
    (more-own (nat_lt moment s.opens) (refusal.NotOpen s.opens) others refl
    (three-own closed none_left (option_map refusal.Unfinished unfinished) (late-own (is_past (if_set s.closes s.closes) moment) (Some s.closes)) (when-own _ _ refl) (map-keeps is_own refusal.Unfinished unfinished (λ a. refl))))

answering-own : (h : List Record) (moment : ℕ) (user : User) (plan : Plan) (a : AttemptId) (k : ℕ) (x : Step) → keeps is_own (answering_cause h moment user plan a k x) ≡ true
answering-own h moment user plan a k x =
    two-own _ _ (then-keeps is_own _ _ (λ (s : Start). answer-own plan.settings s.moment moment _)) (slot-own h moment user plan a k (λ max. x))

cause_here-own : (h : List Record) (moment : ℕ) (user : User) (plan : Plan) (x : Request) → keeps is_own (cause_here h moment user plan x) ≡ true
cause_here-own h moment user plan (request.Start q) = two-own _ _ (start-own plan.settings plan.ready moment _ _) (when-own _ _ refl)
cause_here-own h moment user plan (request.Save a k certainty response) = answering-own h moment user plan a k (step.Save (record { answer = response; certainty = certainty }))
cause_here-own h moment user plan (request.Submit a k certainty response) = answering-own h moment user plan a k (step.Submit (record { answer = response; certainty = certainty }))
cause_here-own h moment user plan (request.Again a k) = answering-own h moment user plan a k step.Again
cause_here-own h moment user plan (request.Finish a) = then-keeps is_own _ _ (λ (s : Start). finish-own plan.settings s.moment moment _)
cause_here-own h moment user plan (request.Mark a k mark) = slot-own h moment user plan a k (λ max. step.Mark mark max)
cause_here-own h moment user plan x = refl

-- ---- verdicts

abbrev is_own_verdict : Verdict → Bool
is_own_verdict (Denied r) = is_own r
is_own_verdict v = true

denied-own : (o : Option Refusal) → keeps is_own o ≡ true → keeps is_own_verdict (denied o) ≡ true
denied-own None own = refl
denied-own (Some r) own = own

reused-own : (same : Bool) (l : List Record) (r : Record) → is_own_verdict (repeated_or_reused same l r) ≡ true
reused-own true l r = refl
reused-own false l r = refl

key-own : (is_same : Record → Bool) (caller : ℕ) (key : Option (List ℕ)) (l : List Record) → keeps is_own_verdict (by_key is_same caller key l) ≡ true
key-own is_same caller None l = refl
key-own is_same caller (Some key) l = map-keeps is_own_verdict _ _ (λ r. reused-own (is_same r) _ r)

granted-own : (o : Option Verdict) → keeps is_own_verdict o ≡ true → is_own_verdict (unwrap_or o Granted) ≡ true
granted-own None own = refl
granted-own (Some v) own = own

verdict-own : (one other last : Option Refusal) (key : Option Verdict) → keeps is_own one ≡ true → keeps is_own other ≡ true → keeps is_own_verdict key ≡ true → keeps is_own last ≡ true
    → is_own_verdict (unwrap_or (first_some (denied one ∷ denied other ∷ key ∷ denied last ∷ [])) Granted) ≡ true
verdict-own one other last key first second third fourth =
    granted-own _ (first-keeps is_own_verdict _ _ (denied-own one first) (first-keeps is_own_verdict _ _ (denied-own other second) (first-keeps is_own_verdict _ _ third (first-keeps is_own_verdict _ _ (denied-own last fourth) refl))))

forbidden-own : (user : User) (x : Request) → keeps is_own (forbidden user x) ≡ true
forbidden-own user x = when-own _ _ refl

verdict_here-own : (h : List Record) (moment : ℕ) (user : User) (plan : Plan) (ask : Ask) → is_own_verdict (verdict_here h moment user plan ask) ≡ true
verdict_here-own h moment user plan ask = verdict-own _ _ _ _ (forbidden-own user ask.request) (missing_here-own h user ask.request) (key-own _ user.number ask.key h) (cause_here-own h moment user plan ask.request)

verdict_in-own : (c : List Record) (user : User) (r : Record) (ask : Ask) → is_own_verdict (verdict_in c user r ask) ≡ true
verdict_in-own c user r ask = verdict-own _ _ _ _ (forbidden-own user ask.request) (missing-own c ask.request) (key-own _ user.number ask.key c) (cause-own c r ask.request)

-- ---- answers

not-own : (b : Bool) → not b ≡ true → b ≡ false
not-own true e = absurd cc
not-own false e = refl

refused-own : (o : Option Refusal) (told : Reply) → keeps is_own o ≡ true → tells_of_outside told ≡ false → tells_of_outside (unwrap_or (option_map reply.Refused o) told) ≡ false
refused-own None told own later = later
refused-own (Some r) told own later = not-own (is_from_outside r) own

put-own : (l : List Record) (put : Option Record) (place : ℕ) (d : Done) → tells_of_outside (said_of_put l put (reply.Ok place d)) ≡ false
put-own l None place d = refl
put-own l (Some r) place d = refl

reply-own : (v : Verdict) (accepted : Reply) → is_own_verdict v ≡ true → tells_of_outside accepted ≡ false → tells_of_outside (reply_to v accepted) ≡ false
reply-own (Denied r) accepted own later = not-own (is_from_outside r) own
reply-own (Repeated l r) accepted own later = refl
reply-own Granted accepted own later = later

here-own : (h : List Record) (now : ℕ) (user : User) (plan : Plan) (ask : Ask) → tells_of_outside (answer_here h now user plan ask) ≡ false
here-own h now user plan ask =
    let moment = moment_of h now user ask.request in
    reply-own (verdict_here h moment user plan ask) (said_of_put h (put_here h moment user plan ask) (looked h moment user plan ask.request)) (verdict_here-own h moment user plan ask)
    (put-own h (put_here h moment user plan ask) (history.place h (named_user user ask.request)) (looked_by h moment user plan ask.request))

-- what is answered where something is there, and else
or-own : {A : Type 0} (f : A → Reply) (o : Option A) (r : Reply) → ((x : A) → tells_of_outside (f x) ≡ false) → tells_of_outside r ≡ false → tells_of_outside (unwrap_or (option_map f o) r) ≡ false
or-own f None r each none = none
or-own f (Some x) r each none = each x

catalog-own : (c : List Record) (now : ℕ) (user : User) (ask : Ask) → tells_of_outside (catalog_answer c now user ask) ≡ false
catalog-own c now user ask =
    let place_and_look = reply.Ok (length c) (looked_in_by c ask.request) in
    reply-own (catalog_verdict c now user ask) (said_of_put c (put_in c now user ask) place_and_look) (verdict_in-own c user (record_in c now user ask) ask) (put-own c (put_in c now user ask) (length c) (looked_in_by c ask.request))

shard-own : (c h : List Record) (now : ℕ) (user : User) (ask : Ask) → tells_of_outside (shard_answer c h now user ask) ≡ false
shard-own c h now user ask = or-own (λ plan. answer_here h now user plan ask) (plan_for c h user ask.request) (reply.Refused (refusal.Unknown thing.Attempt)) (λ plan. here-own h now user plan ask) refl

by_list-own : (b : Bool) (c h : List Record) (now : ℕ) (user : User) (ask : Ask) → tells_of_outside (cond b (catalog_answer c now user ask) (shard_answer c h now user ask)) ≡ false
by_list-own true c h now user ask = catalog-own c now user ask
by_list-own false c h now user ask = shard-own c h now user ask

job-own : (c h : List Record) (now : ℕ) (user : User) (number : ℕ) → tells_of_outside (job_answer c h now user number) ≡ false
job-own c h now user number = or-own (work_answer h now user.number) (catalog.job c number) (reply.Refused (refusal.Unknown thing.Job)) (λ (job : Job). put-own h (put_by_job h now user.number job) (done_place h job.number) (done.AlreadyDone job.number)) refl

by-own : (c h : List Record) (now : ℕ) (user : User) (ask : Ask) (x : Request) → tells_of_outside (answer_by c h now user ask x) ≡ false
by-own c h now user ask (request.Work job shard) = job-own c h now user job
by-own c h now user ask (request.Live shard a) = refl
by-own c h now user ask (request.Report q) = refl
by-own c h now user ask x = by_list-own (asks_catalog x) c h now user ask

among-own : (c : List Record) (count : ℕ) (user : User) (x : Request) → keeps is_own (refusal_among c count user x) ≡ true
among-own c count user x = two-own (first_refusal c user x) (missing_shard count x) (two-own _ _ (forbidden-own user x) (missing-own c x)) (missing_shard-own count x)

answer_among-own : (c : List Record) (parts : List (List Record)) (now : ℕ) (user : User) (ask : Ask) (x : Request) → tells_of_outside (answer_among c parts now user ask x) ≡ false
answer_among-own c parts now user ask (request.Report q) = refl
answer_among-own c parts now user ask x = by-own c (part_at parts (part_of (length parts) user x)) now user ask x

school-own : (c : List Record) (parts : List (List Record)) (now : ℕ) (ask : Ask) (user : User) → tells_of_outside (school_answer_by c parts now ask user) ≡ false
school-own c parts now ask user = refused-own _ _ (among-own c (length parts) user ask.request) (answer_among-own c parts now user ask ask.request)

pub owning_law : AnswersAreOwn
owning_law = record { own = λ c parts now ask. or-own (λ (user : User). school_answer_by c parts now ask user) (catalog.user_of c ask.caller) (reply.Refused refusal.UnknownToken) (λ (user : User). school-own c parts now ask user) refl }
