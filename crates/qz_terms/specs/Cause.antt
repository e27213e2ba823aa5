-- Why a request is refused: the first of the causes, in their order, that holds.
use Rattle.std.specs.Ordering.{int_eq}
use Rattle.std.specs.Prelude.{ℕ, ◌+◌, ◌*◌, max, Bool, true, false, not, ◌&&◌, ◌||◌, List, [], ◌∷◌, length, ℤ, pos, is_none, is_some, if◌then◌else◌, nat_lt, nat_le, ◌==◌, int_lt, Some, None, bytes_eq, filter, filter_map, Option, unwrap_or, option_map, option_and_then}
use Rattle.qz_decimal.specs.Numbers.{one}
use Rattle.qz_grading.specs.declared.limits.TheConstants.{MOST_TOGETHER}
use Rattle.qz_grading.specs.declared.question.Bank.{Bank}
use Rattle.qz_grading.specs.declared.question.Kind.{Kind}
use Rattle.qz_grading.specs.declared.question.Kind.TheVariants as kind
use Rattle.qz_grading.specs.declared.question.Question.{Question}
use Rattle.qz_grading.specs.declared.refusal.AttemptId.{AttemptId}
use Rattle.qz_grading.specs.declared.refusal.Refusal.{Refusal}
use Rattle.qz_grading.specs.declared.refusal.Refusal.TheVariants as refusal
use Rattle.qz_grading.specs.declared.refusal.Thing.TheVariants as thing
use Rattle.qz_grading.specs.declared.response.Step.{Step}
use Rattle.qz_grading.specs.declared.response.Step.TheVariants as step
use Rattle.qz_grading.specs.Behaviours.{first_some, when}
use Rattle.qz_grading.specs.Canonical.{canonical_size}
use Rattle.qz_grading.specs.Grading.{at_place, is_place, same}
use Rattle.qz_grading.specs.Slots.{step_cause}
use Rattle.qz_terms.specs.declared.access.Settings.{Settings}
use Rattle.qz_terms.specs.declared.ask.Ask.{Ask}
use Rattle.qz_terms.specs.declared.limits.TheConstants.{MOST_ATTEMPTS, MOST_ENTRIES, MOST_GROUPS, MOST_JOBS, MOST_OVERRIDES, MOST_QUIZZES, MOST_RECORD, MOST_SLOTS, MOST_USERS, MOST_VERSIONS}
use Rattle.qz_terms.specs.declared.people.Role.{Role}
use Rattle.qz_terms.specs.declared.people.Role.TheVariants as role
use Rattle.qz_terms.specs.declared.people.User.{User}
use Rattle.qz_terms.specs.declared.plan.Plan.{Plan}
use Rattle.qz_terms.specs.declared.plan.Planned.{Planned}
use Rattle.qz_terms.specs.declared.record.Event.{Event}
use Rattle.qz_terms.specs.declared.record.Event.TheVariants as event
use Rattle.qz_terms.specs.declared.record.Record.{Record}
use Rattle.qz_terms.specs.declared.request.Request.{Request}
use Rattle.qz_terms.specs.declared.request.Request.TheVariants as request
use Rattle.qz_terms.specs.declared.request.Whom.{Whom}
use Rattle.qz_terms.specs.declared.request.Whom.TheVariants as whom
use Rattle.qz_terms.specs.Access.{answer_cause, expired, finish_cause, start_cause}
use Rattle.qz_terms.specs.Catalog as catalog
use Rattle.qz_terms.specs.History.{Slot, Start}
use Rattle.qz_terms.specs.History as history
use Rattle.qz_terms.specs.Lists.{first_of, in_order, up_to_first}
use Rattle.qz_terms.specs.Sameness.{same_request}
use Rattle.qz_terms.specs.Spelling.{spelling}
use Rattle.qz_terms.specs.Review.{shown_state, shows_marks}

-- ---- the rules of callers

abbrev pub rule_of : Request → ℕ
rule_of (request.User name role token) = 1
rule_of (request.Group name) = 1
rule_of (request.Member group user) = 1
rule_of (request.Start quiz) = 3
rule_of (request.Save attempt slot certainty response) = 3
rule_of (request.Submit attempt slot certainty response) = 3
rule_of (request.Again attempt slot) = 3
rule_of (request.Finish attempt) = 3
rule_of (request.Work job shard) = 4
rule_of (request.Settle attempt) = 4
rule_of (request.Live shard attempt) = 4
rule_of request.Jobs = 4
rule_of (request.View attempt slot) = 5
rule_of (request.Total attempt) = 5
rule_of (request.Page attempt) = 5
rule_of (request.Grade quiz user) = 5
rule_of x = 2

-- students answer, teachers make quizzes and mark, managers make users too, and all may look
abbrev pub role_may : Role → ℕ → Bool
role_may role.Manager rule = not (rule == 3)
role_may role.Teacher rule = not (rule == 3) && not (rule == 1)
role_may role.Student rule = (rule == 3) || (rule == 5)

-- a worker has the number 0
abbrev pub may_ask : User → Request → Bool
may_ask user x = if user.number == 0 then rule_of x == 4 else role_may user.role (rule_of x)

abbrev pub forbidden : User → Request → Option Refusal
forbidden user x = when (not (may_ask user x)) (refusal.Forbidden (rule_of x))

abbrev pub is_student_by : Role → Bool
is_student_by role.Student = true
is_student_by r = false

abbrev pub is_student : User → Bool
is_student user = is_student_by user.role

-- ---- what isn't there

abbrev pub missing_user : List Record → ℕ → Option Refusal
missing_user c u = when (is_none (at_place (catalog.users c) u)) (refusal.Unknown thing.User)

abbrev pub missing_group : List Record → ℕ → Option Refusal
missing_group c g = when (is_none (at_place (catalog.groups c) g)) (refusal.Unknown thing.Group)

abbrev pub missing_entry : List Record → ℕ → Option Refusal
missing_entry c e = when (is_none (at_place (catalog.entries c) e)) (refusal.Unknown thing.Entry)

abbrev pub missing_quiz : List Record → ℕ → Option Refusal
missing_quiz c q = when (is_none (at_place (catalog.quizzes c) q)) (refusal.Unknown thing.Quiz)

abbrev pub missing_whom : List Record → Whom → ℕ → Option Refusal
missing_whom c whom.User n = missing_user c n
missing_whom c whom.Group n = missing_group c n

-- what a request names that the catalogue doesn't have, the first in the order of the request's words
abbrev pub missing_in : List Record → Request → Option Refusal
missing_in c (request.Member group user) = first_some (missing_group c group ∷ missing_user c user ∷ [])
missing_in c (request.Edit entry gift) = missing_entry c entry
missing_in c (request.Tune entry penalty hints) = missing_entry c entry
missing_in c (request.Slot quiz entry max) = first_some (missing_quiz c quiz ∷ missing_entry c entry ∷ [])
missing_in c (request.Ready quiz) = missing_quiz c quiz
missing_in c (request.Remax quiz slot max) = first_some (missing_quiz c quiz ∷ when (is_none (at_place (catalog.slots c quiz) slot)) (refusal.Unknown thing.Slot) ∷ [])
missing_in c (request.Policy quiz method grade) = missing_quiz c quiz
missing_in c (request.Times quiz opens closes limit allowed handling grace review) = missing_quiz c quiz
missing_in c (request.Override quiz whom number opens closes limit allowed) = first_some (missing_quiz c quiz ∷ missing_whom c whom number ∷ [])
missing_in c (request.Regrade quiz) = missing_quiz c quiz
missing_in c (request.Start quiz) = missing_quiz c quiz
missing_in c (request.Work job shard) = when (is_none (at_place (catalog.jobs c) job)) (refusal.Unknown thing.Job)
missing_in c (request.Grade quiz user) = first_some (missing_quiz c quiz ∷ missing_user c user ∷ [])
missing_in c (request.Report quiz) = missing_quiz c quiz
missing_in c (request.Bank entry version) = first_some (missing_entry c entry ∷ when (is_none (catalog.version c entry version)) (refusal.Unknown thing.Version) ∷ [])
missing_in c x = None

-- of so many shards, numbered from 0, the one that a worker's request names
abbrev pub missing_shard : ℕ → Request → Option Refusal
missing_shard count (request.Work job shard) = when (nat_le count shard) (refusal.Unknown thing.Shard)
missing_shard count (request.Live shard attempt) = when (nat_le count shard) (refusal.Unknown thing.Shard)
missing_shard count x = None

-- to a student what belongs to another isn't there
abbrev pub is_anothers : User → ℕ → Bool
is_anothers user owner = is_student user && not (owner == user.number)

abbrev pub missing_attempt : List Record → User → AttemptId → Option Refusal
missing_attempt h user a = when (is_anothers user a.user || is_none (history.start h a)) (refusal.Unknown thing.Attempt)

abbrev pub missing_slot : List Record → User → AttemptId → ℕ → Option Refusal
missing_slot h user a k = first_some (missing_attempt h user a ∷ when (not (is_place (history.slot_count h a) k)) (refusal.Unknown thing.Slot) ∷ [])

-- what a request names that the shard doesn't have
abbrev pub missing_here : List Record → User → Request → Option Refusal
missing_here h user (request.Save attempt slot certainty response) = missing_slot h user attempt slot
missing_here h user (request.Submit attempt slot certainty response) = missing_slot h user attempt slot
missing_here h user (request.Again attempt slot) = missing_slot h user attempt slot
missing_here h user (request.Finish attempt) = missing_attempt h user attempt
missing_here h user (request.Mark attempt slot mark) = missing_slot h user attempt slot
missing_here h user (request.Settle attempt) = missing_attempt h user attempt
missing_here h user (request.View attempt slot) = missing_slot h user attempt slot
missing_here h user (request.Total attempt) = missing_attempt h user attempt
missing_here h user (request.Page attempt) = missing_attempt h user attempt
missing_here h user (request.Grade quiz owner) = when (is_anothers user owner) (refusal.Unknown thing.User)
missing_here h user x = None

-- ---- keys

-- what comes of a request: it is refused, it repeats the last of these records, or neither
pub data Verdict : Type 0 where
  Denied : Refusal → Verdict
  Repeated : List Record → Record → Verdict
  Granted : Verdict

abbrev pub has_key_by : List ℕ → Option (List ℕ) → Bool
has_key_by key None = false
has_key_by key (Some k) = bytes_eq k key

-- a record with this caller and key
abbrev pub has_key : ℕ → List ℕ → Record → Bool
has_key caller key r = (r.caller == caller) && has_key_by key r.key

-- the place that the reply for the last record of a list carries
abbrev pub place_by : List Record → Record → Event → ℕ
place_by l r (event.Founded shards token) = length l
place_by l r (event.Asked x) = length l
place_by l r (event.JobDone job quiz position) = length l
place_by l r e = history.place l r.owner

abbrev pub said_at : List Record → Record → ℕ
said_at l r = place_by l r r.event

abbrev pub repeated_or_reused : Bool → List Record → Record → Verdict
repeated_or_reused true l r = Repeated l r
repeated_or_reused false l r = Denied (refusal.KeyReused (said_at l r))

-- a request that only looks has no key, nor has a settling, or a worker's work
abbrev pub is_keyless : Request → Bool
is_keyless (request.Work job shard) = true
is_keyless (request.Settle attempt) = true
is_keyless (request.Live shard attempt) = true
is_keyless request.Jobs = true
is_keyless (request.View attempt slot) = true
is_keyless (request.Total attempt) = true
is_keyless (request.Page attempt) = true
is_keyless (request.Grade quiz owner) = true
is_keyless (request.Report quiz) = true
is_keyless (request.Bank entry version) = true
is_keyless x = false

abbrev pub is_keyed : Ask → Bool
is_keyed ask = if is_keyless ask.request then is_none ask.key else is_some ask.key

-- a key that stands in the list with the same request is answered again; with another it is refused
abbrev pub by_key : (Record → Bool) → ℕ → Option (List ℕ) → List Record → Option Verdict
by_key is_same caller None l = None
by_key is_same caller (Some key) l = option_map (λ r. repeated_or_reused (is_same r) (up_to_first (has_key caller key) l) r) (first_of (filter (has_key caller key) l))

abbrev pub denied : Option Refusal → Option Verdict
denied r = option_map Denied r

-- ---- the catalogue

abbrev pub same_request_by : Option Request → Request → Bool
same_request_by None x = false
same_request_by (Some kept) x = same_request kept x

-- the same request as a value
abbrev pub keeps_request : Request → Record → Bool
keeps_request x r = same_request_by (catalog.asked r) x

abbrev pub too_many : ℕ → ℕ → Option Refusal
too_many most count = when (nat_le most count) (refusal.TooMany most)

-- the greatest max mark for a question
abbrev pub most_for_kind : Kind → ℤ
most_for_kind kind.Description = pos 0
most_for_kind k = pos (10000 * one)

abbrev pub greatest_max : List Record → ℕ → ℤ
greatest_max c entry = unwrap_or (option_map (λ (q : Question). most_for_kind q.kind) (catalog.version c entry (catalog.latest c entry))) (pos 0)

abbrev pub bad_max : List Record → ℕ → ℤ → Option Refusal
bad_max c entry max = when (int_lt max (pos 0) || int_lt (greatest_max c entry) max) (refusal.OutOfRange (greatest_max c entry))

abbrev pub slot_entry : List Record → ℕ → ℕ → ℕ
slot_entry c quiz k = unwrap_or (option_map (λ (s : Planned). s.entry) (at_place (catalog.slots c quiz) k)) 0

abbrev pub already_ready : List Record → ℕ → Option Refusal
already_ready c quiz = option_map refusal.Closed (catalog.ready_at c quiz)

abbrev pub newer_version : List Record → ℕ → Request → Option Question
newer_version c entry x = option_map (λ old. catalog.changed_by old x) (catalog.version c entry (catalog.latest c entry))

-- an edit or a tuning
abbrev pub change_cause : List Record → ℕ → Request → Option Refusal
change_cause c entry x = first_some (
    too_many MOST_VERSIONS (catalog.latest c entry)
    ∷ when (unwrap_or (option_map (λ q. nat_lt MOST_TOGETHER (canonical_size q)) (newer_version c entry x)) false) (refusal.TooMany MOST_TOGETHER)
    ∷ [])

abbrev pub import_cause : List Record → Bank → Record → Option Refusal
import_cause c gift r = first_some (
    when (nat_lt MOST_ENTRIES (length (catalog.entries c) + length gift.items)) (refusal.TooMany MOST_ENTRIES)
    ∷ when (nat_lt MOST_RECORD (length (spelling r))) (refusal.TooMany MOST_RECORD)
    ∷ [])

abbrev pub overridden : Option Request → Option (ℕ × (ℕ × ℕ))
overridden (Some (request.Override quiz whom.User number opens closes limit allowed)) = Some (quiz, (0, number))
overridden (Some (request.Override quiz whom.Group number opens closes limit allowed)) = Some (quiz, (1, number))
overridden x = None

abbrev pub override_before : ℕ × (ℕ × ℕ) → ℕ × (ℕ × ℕ) → Bool
override_before a b = nat_lt a.0 b.0 || ((a.0 == b.0) && (nat_lt a.1.0 b.1.0 || ((a.1.0 == b.1.0) && nat_lt a.1.1 b.1.1)))

-- for how many quizzes and users or groups something is set otherwise
abbrev pub override_count : List Record → ℕ
override_count c = length (in_order override_before (filter_map (λ r. overridden (catalog.asked r)) c))

-- the causes behind the key, where the record is the one that the request would make
abbrev pub cause_in : List Record → Record → Request → Option Refusal
cause_in c r (request.User name role token) = first_some (option_map refusal.KeyReused (catalog.token_place c token) ∷ too_many MOST_USERS (length (catalog.users c)) ∷ [])
cause_in c r (request.Group name) = too_many MOST_GROUPS (length (catalog.groups c))
cause_in c r (request.Import gift) = import_cause c gift r
cause_in c r (request.Edit entry gift) = change_cause c entry (request.Edit entry gift)
cause_in c r (request.Tune entry penalty hints) = change_cause c entry (request.Tune entry penalty hints)
cause_in c r (request.Quiz name behaviour) = too_many MOST_QUIZZES (length (catalog.quizzes c))
cause_in c r (request.Slot quiz entry max) = first_some (already_ready c quiz ∷ bad_max c entry max ∷ too_many MOST_SLOTS (length (catalog.slots c quiz)) ∷ [])
cause_in c r (request.Ready quiz) = already_ready c quiz
cause_in c r (request.Remax quiz slot max) = bad_max c (slot_entry c quiz slot) max
cause_in c r (request.Override quiz whom number opens closes limit allowed) = too_many MOST_OVERRIDES (override_count c)
cause_in c r (request.Regrade quiz) = first_some (when (not (catalog.is_ready c quiz)) (refusal.NotOpen 0) ∷ too_many MOST_JOBS (length (catalog.jobs c)) ∷ [])
cause_in c r x = None

-- ---- a shard

abbrev pub same_step : Step → Request → Bool
same_step (step.Save r) (request.Save attempt slot certainty response) = same r (record { answer = response; certainty = certainty })
same_step (step.Submit r) (request.Submit attempt slot certainty response) = same r (record { answer = response; certainty = certainty })
same_step step.Again (request.Again attempt slot) = true
same_step (step.Mark m max) (request.Mark attempt slot mark) = int_eq m mark
same_step s x = false

abbrev pub same_slot : AttemptId → ℕ → Request → Bool
same_slot a k (request.Save attempt slot certainty response) = history.same_attempt a attempt && (k == slot)
same_slot a k (request.Submit attempt slot certainty response) = history.same_attempt a attempt && (k == slot)
same_slot a k (request.Again attempt slot) = history.same_attempt a attempt && (k == slot)
same_slot a k (request.Mark attempt slot mark) = history.same_attempt a attempt && (k == slot)
same_slot a k x = false

abbrev pub is_start_of : ℕ → Request → Bool
is_start_of q (request.Start quiz) = quiz == q
is_start_of q x = false

abbrev pub is_finish_of : AttemptId → Request → Bool
is_finish_of a (request.Finish attempt) = history.same_attempt a attempt
is_finish_of a x = false

abbrev pub spells_by : Event → Request → Bool
spells_by (event.Started quiz nth behaviour bounds learned) x = is_start_of quiz x
spells_by (event.Acted attempt slot s) x = same_slot attempt slot x && same_step s x
spells_by (event.Noted attempt slot s) x = same_slot attempt slot x && same_step s x
spells_by (event.Ended attempt how) x = is_finish_of attempt x
spells_by e x = false

-- whether a record with a key was made by the same request
abbrev pub spells : Request → Record → Bool
spells x r = spells_by r.event x

-- a student is shown own marks as the settings say; all others are shown all
abbrev pub sees_marks : List Record → Settings → User → AttemptId → ℕ → Bool
sees_marks h s user a moment = not (is_student user) || shows_marks s (history.is_ended h a) moment

abbrev pub refusal_shown : Bool → Refusal → Refusal
refusal_shown visible (refusal.SlotEnded s) = refusal.SlotEnded (shown_state visible s)
refusal_shown visible r = r

-- a step on a slot
abbrev pub slot_cause : List Record → ℕ → User → Plan → AttemptId → ℕ → (ℤ → Step) → Option Refusal
slot_cause h moment user plan a k x = option_and_then (λ (s : Slot). option_map (refusal_shown (sees_marks h plan.settings user a moment)) (step_cause s.behaviour s.question s.bound.max s.steps (x s.bound.max))) (history.slot h a k)

abbrev pub time_cause : (ℕ → Option Refusal) → List Record → AttemptId → Option Refusal
time_cause since h a = option_and_then (λ (s : Start). since s.moment) (history.start h a)

-- a Save, a Submit or an Again
abbrev pub answering_cause : List Record → ℕ → User → Plan → AttemptId → ℕ → Step → Option Refusal
answering_cause h moment user plan a k x = first_some (
    time_cause (λ began. answer_cause plan.settings began moment (history.ended_at h a)) h a
    ∷ slot_cause h moment user plan a k (λ max. x)
    ∷ [])

-- it hasn't ended and isn't expired
abbrev pub goes_on : List Record → Settings → ℕ → AttemptId → Bool
goes_on h s moment a = not (history.is_ended h a) && not (unwrap_or (option_map (λ (b : Start). expired s b.moment moment) (history.start h a)) false)

-- the first attempt at a quiz that goes on
abbrev pub unfinished_at : List Record → Settings → ℕ → ℕ → ℕ → Option AttemptId
unfinished_at h s q u moment = first_of (filter (goes_on h s moment) (history.attempts h q u))

-- the causes behind the key
abbrev pub cause_here : List Record → ℕ → User → Plan → Request → Option Refusal
cause_here h moment user plan (request.Start quiz) = first_some (
    start_cause plan.settings plan.ready moment (length (history.attempts h quiz user.number)) (unfinished_at h plan.settings quiz user.number moment)
    ∷ too_many MOST_ATTEMPTS (length (history.attempts h quiz user.number))
    ∷ [])
cause_here h moment user plan (request.Save attempt slot certainty response) = answering_cause h moment user plan attempt slot (step.Save (record { answer = response; certainty = certainty }))
cause_here h moment user plan (request.Submit attempt slot certainty response) = answering_cause h moment user plan attempt slot (step.Submit (record { answer = response; certainty = certainty }))
cause_here h moment user plan (request.Again attempt slot) = answering_cause h moment user plan attempt slot step.Again
cause_here h moment user plan (request.Finish attempt) = time_cause (λ began. finish_cause plan.settings began moment (history.ended_at h attempt)) h attempt
cause_here h moment user plan (request.Mark attempt slot mark) = slot_cause h moment user plan attempt slot (λ max. step.Mark mark max)
cause_here h moment user plan x = None

-- the verdict over one shard's list, for a user and a plan, at the moment of the request
abbrev pub verdict_here : List Record → ℕ → User → Plan → Ask → Verdict
verdict_here h moment user plan ask = unwrap_or (first_some (
    denied (forbidden user ask.request)
    ∷ denied (missing_here h user ask.request)
    ∷ by_key (spells ask.request) user.number ask.key h
    ∷ denied (cause_here h moment user plan ask.request)
    ∷ [])) Granted

-- the verdict over the catalogue's list, where the record is the one that the request would make
abbrev pub verdict_in : List Record → User → Record → Ask → Verdict
verdict_in c user r ask = unwrap_or (first_some (
    denied (forbidden user ask.request)
    ∷ denied (missing_in c ask.request)
    ∷ by_key (keeps_request ask.request) user.number ask.key c
    ∷ denied (cause_in c r ask.request)
    ∷ [])) Granted
