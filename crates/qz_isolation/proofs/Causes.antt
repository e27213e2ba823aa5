-- What is missing and why a request is refused are the same over lists that agree for the user.
use Rattle.std.proofs.Common.{◌≡◌, ℕ, ◌+◌, ◌&&◌, ◌||◌, Bool, true, false, not, List, [], ◌∷◌, length, Option, Some, None, refl, ap, ◌∙◌, sym}
use Rattle.std.specs.Prelude.{ℤ, filter, filter_map, is_none, is_some, option_and_then, option_map, unwrap_or}
use Rattle.qz_grading.specs.declared.question.Question.{Question}
use Rattle.qz_grading.specs.declared.refusal.AttemptId.{AttemptId}
use Rattle.qz_grading.specs.declared.refusal.Refusal.TheVariants as refusal
use Rattle.qz_grading.specs.declared.refusal.Thing.TheVariants as thing
use Rattle.qz_grading.specs.declared.response.Step.{Step}
use Rattle.qz_grading.specs.declared.response.Step.TheVariants as step
use Rattle.qz_grading.specs.Behaviours.{first_some, when}
use Rattle.qz_grading.specs.Grading.{is_place}
use Rattle.qz_grading.specs.Slots.{step_cause}
use Rattle.qz_terms.specs.declared.access.Settings.{Settings}
use Rattle.qz_terms.specs.declared.people.User.{User}
use Rattle.qz_terms.specs.declared.plan.Bound.{Bound}
use Rattle.qz_terms.specs.declared.plan.Plan.{Plan}
use Rattle.qz_terms.specs.declared.record.Event.{Event}
use Rattle.qz_terms.specs.declared.record.Event.TheVariants as event
use Rattle.qz_terms.specs.declared.record.Record.{Record}
use Rattle.qz_terms.specs.declared.request.Request.{Request}
use Rattle.qz_terms.specs.declared.request.Request.TheVariants as request
use Rattle.qz_terms.specs.Access.{answer_cause, finish_cause, start_cause}
use Rattle.qz_terms.specs.Answer.{named_user}
use Rattle.qz_terms.specs.Cause.{cause_here, is_anothers, is_student, missing_attempt, missing_here, missing_slot, refusal_shown, sees_marks, slot_cause, time_cause, too_many}
use Rattle.qz_terms.specs.History.{Slot, Start}
use Rattle.qz_terms.specs.History as history
use Rattle.qz_terms.specs.Laws.{AgreeFor, unlearned, unlearned_event}
use Rattle.qz_terms.specs.Legal.{has_its_owner, owner_by}
use Rattle.qz_terms.specs.Lists.{places_to, up_to_first}
use Rattle.qz_terms.specs.Review.{shows_marks}
use Rattle.qz_terms.proofs.Isolated.{isolated_law}
use Rattle.qz_isolation.proofs.Alike.{fronts-own, other-attempt}
use Rattle.qz_isolation.proofs.Attempts.{unfinished-own}
use Rattle.qz_isolation.proofs.Own.{TestsOwn, own-count, own-many}

-- ---- more readings

abbrev slot_of : Option Start → Option Bound → List Step → (ℕ → ℕ → Option Question) → Option Slot
slot_of s b taken version = option_and_then (λ s. option_and_then (λ (d : Bound). option_map (history.slot_with s d taken) (version d.entry d.version)) b) s

slot-same : (s : Option Start) (b : Option Bound) (taken : List Step) (v w : ℕ → ℕ → Option Question) → ((d : Bound) → b ≡ Some d → v d.entry d.version ≡ w d.entry d.version) → slot_of s b taken v ≡ slot_of s b taken w
slot-same None b taken v w same = refl
slot-same (Some s) None taken v w same = refl
slot-same (Some s) (Some d) taken v w same = ap (option_map (history.slot_with s d taken)) (same d refl)

pub slot-own : (index count : ℕ) (a : AttemptId) (k : ℕ) (h g : List Record) → AgreeFor index count a.user h g → history.slot h a k ≡ history.slot g a k
slot-own index count a k h g agree =
    slot-same (history.start h a) (history.bound h a k) (history.steps h a k) (history.version h) (history.version g) (λ d is. agree.versions a k d refl is)
    ∙ (λ i. slot_of (isolated_law.start index count a h g agree i) (isolated_law.bound index count a k h g agree i) (isolated_law.steps index count a k h g agree i) (history.version g))

pub slots-own : (index count : ℕ) (a : AttemptId) (h g : List Record) → AgreeFor index count a.user h g → history.slots h a ≡ history.slots g a
slots-own index count a h g agree =
    λ i. filter_map (λ k. slot-own index count a k h g agree i) (places_to (unwrap_or (option_map (λ (s : Start). length s.bounds) (isolated_law.start index count a h g agree i)) 0))

start-forgets : (r : Record) (e : Event) → is_some (history.start_by (unlearned r) (unlearned_event e)) ≡ is_some (history.start_by r e)
start-forgets r (event.Started quiz nth behaviour bounds learned) = refl
start-forgets r (event.Rebound job a k bound learned) = refl
start-forgets r e = refl

abbrev begins : Record → Bool
begins r = is_some (history.started r)

pub next-own : (index count u : ℕ) (h g : List Record) → AgreeFor index count u h g → history.next_attempt h u ≡ history.next_attempt g u
next-own index count u h g agree =
    let made : length (filter (λ r. history.is_owned u r && begins r) h) ≡ length (filter (λ r. history.is_owned u r && begins r) g) =
    own-many u begins h (λ r. start-forgets r r.event) ∙ ap (λ (t : List Record). length (filter begins t)) agree.own ∙ sym (own-many u begins g (λ r. start-forgets r r.event)) in
    ap (λ (n : ℕ). record { user = u; nth = n + 1 }) made

ends-none : (index count : ℕ) (a : AttemptId) (r : Record) (e : Event) → owner_by index count r e ≡ true → history.is_owned a.user r ≡ false → is_some (history.ends_by a e) ≡ false
ends-none index count a r (event.Ended b how) is other = let e = other-attempt index count r a b is other in rw e refl
ends-none index count a r e is other = refl

ends-forgets : (a : AttemptId) (e : Event) → is_some (history.ends_by a (unlearned_event e)) ≡ is_some (history.ends_by a e)
ends-forgets a (event.Started quiz nth behaviour bounds learned) = refl
ends-forgets a (event.Rebound job b slot bound learned) = refl
ends-forgets a e = refl

ends_own : (index count : ℕ) (a : AttemptId) → TestsOwn a.user (has_its_owner index count) (λ r. is_some (history.ends a r))
ends_own index count a = record { others = λ r is other. ends-none index count a r r.event is other; forgets = λ r. ends-forgets a r.event }

ended_at-own : (index count : ℕ) (a : AttemptId) (h g : List Record) → AgreeFor index count a.user h g → history.ended_at h a ≡ history.ended_at g a
ended_at-own index count a h g agree =
    let p : Record → Bool = λ r. is_some (history.ends a r) in
    let same : history.place (up_to_first p h) a.user ≡ history.place (up_to_first p g) a.user =
    own-count a.user (up_to_first p h) ∙ ap (λ (t : List Record). length t) (fronts-own a.user (has_its_owner index count) p h g (ends_own index count a) agree.owners agree.others agree.own) ∙ sym (own-count a.user (up_to_first p g)) in
    λ i. option_map (λ how. same i) (isolated_law.ended index count a h g agree i)

pub sees-own : (index count : ℕ) (s : Settings) (user : User) (a : AttemptId) (moment : ℕ) (h g : List Record) → AgreeFor index count a.user h g → sees_marks h s user a moment ≡ sees_marks g s user a moment
sees-own index count s user a moment h g agree = λ i. not (is_student user) || shows_marks s (is_some (isolated_law.ended index count a h g agree i)) moment

-- ---- what is missing

missing_attempt-own : (index count : ℕ) (user : User) (a : AttemptId) (h g : List Record) → AgreeFor index count a.user h g → missing_attempt h user a ≡ missing_attempt g user a
missing_attempt-own index count user a h g agree = λ i. when (is_anothers user a.user || is_none (isolated_law.start index count a h g agree i)) (refusal.Unknown thing.Attempt)

missing_slot-own : (index count : ℕ) (user : User) (a : AttemptId) (k : ℕ) (h g : List Record) → AgreeFor index count a.user h g → missing_slot h user a k ≡ missing_slot g user a k
missing_slot-own index count user a k h g agree =
    λ i. first_some (missing_attempt-own index count user a h g agree i ∷ when (not (is_place (unwrap_or (option_map (λ (s : Start). length s.bounds) (isolated_law.start index count a h g agree i)) 0) k)) (refusal.Unknown thing.Slot) ∷ [])

-- lists that agree for the user whom a request names
pub missing-own : (index count : ℕ) (user : User) (h g : List Record) (x : Request) → AgreeFor index count (named_user user x) h g → missing_here h user x ≡ missing_here g user x
missing-own index count user h g (request.Save a k certainty response) agree = missing_slot-own index count user a k h g agree
missing-own index count user h g (request.Submit a k certainty response) agree = missing_slot-own index count user a k h g agree
missing-own index count user h g (request.Again a k) agree = missing_slot-own index count user a k h g agree
missing-own index count user h g (request.Finish a) agree = missing_attempt-own index count user a h g agree
missing-own index count user h g (request.Mark a k mark) agree = missing_slot-own index count user a k h g agree
missing-own index count user h g (request.Settle a) agree = missing_attempt-own index count user a h g agree
missing-own index count user h g (request.View a k) agree = missing_slot-own index count user a k h g agree
missing-own index count user h g (request.Total a) agree = missing_attempt-own index count user a h g agree
missing-own index count user h g (request.Page a) agree = missing_attempt-own index count user a h g agree
missing-own index count user h g (request.Grade quiz owner) agree = refl
missing-own index count user h g x agree = refl

-- ---- causes

slot_cause-own : (index count : ℕ) (moment : ℕ) (user : User) (plan : Plan) (a : AttemptId) (k : ℕ) (x : ℤ → Step) (h g : List Record) → AgreeFor index count a.user h g → slot_cause h moment user plan a k x ≡ slot_cause g moment user plan a k x
slot_cause-own index count moment user plan a k x h g agree =
    λ i. option_and_then (λ (s : Slot). option_map (refusal_shown (sees-own index count plan.settings user a moment h g agree i)) (step_cause s.behaviour s.question s.bound.max s.steps (x s.bound.max))) (slot-own index count a k h g agree i)

answering-own : (index count : ℕ) (moment : ℕ) (user : User) (plan : Plan) (a : AttemptId) (k : ℕ) (x : Step) (h g : List Record) → AgreeFor index count a.user h g
    → first_some (time_cause (λ began. answer_cause plan.settings began moment (history.ended_at h a)) h a ∷ slot_cause h moment user plan a k (λ max. x) ∷ []) ≡ first_some (time_cause (λ began. answer_cause plan.settings began moment (history.ended_at g a)) g a ∷ slot_cause g moment user plan a k (λ max. x) ∷ [])
answering-own index count moment user plan a k x h g agree =
    λ i. first_some (
    option_and_then (λ (s : Start). answer_cause plan.settings s.moment moment (ended_at-own index count a h g agree i)) (isolated_law.start index count a h g agree i)
    ∷ slot_cause-own index count moment user plan a k (λ max. x) h g agree i
    ∷ [])

finishing-own : (index count : ℕ) (moment : ℕ) (plan : Plan) (a : AttemptId) (h g : List Record) → AgreeFor index count a.user h g
    → time_cause (λ began. finish_cause plan.settings began moment (history.ended_at h a)) h a ≡ time_cause (λ began. finish_cause plan.settings began moment (history.ended_at g a)) g a
finishing-own index count moment plan a h g agree =
    λ i. option_and_then (λ (s : Start). finish_cause plan.settings s.moment moment (ended_at-own index count a h g agree i)) (isolated_law.start index count a h g agree i)

starting-own : (index count : ℕ) (moment : ℕ) (user : User) (plan : Plan) (quiz : ℕ) (h g : List Record) → AgreeFor index count user.number h g → cause_here h moment user plan (request.Start quiz) ≡ cause_here g moment user plan (request.Start quiz)
starting-own index count moment user plan quiz h g agree =
    let made = isolated_law.attempts index count quiz user.number h g agree in
    λ i. first_some (
    start_cause plan.settings plan.ready moment (length (made i)) (unfinished-own index count plan.settings quiz user.number moment h g agree i)
    ∷ too_many 1000 (length (made i))
    ∷ [])

pub cause-own : (index count : ℕ) (moment : ℕ) (user : User) (plan : Plan) (h g : List Record) (x : Request) → AgreeFor index count (named_user user x) h g → cause_here h moment user plan x ≡ cause_here g moment user plan x
cause-own index count moment user plan h g (request.Start quiz) agree = starting-own index count moment user plan quiz h g agree
cause-own index count moment user plan h g (request.Save a k certainty response) agree = answering-own index count moment user plan a k (step.Save (record { answer = response; certainty = certainty })) h g agree
cause-own index count moment user plan h g (request.Submit a k certainty response) agree = answering-own index count moment user plan a k (step.Submit (record { answer = response; certainty = certainty })) h g agree
cause-own index count moment user plan h g (request.Again a k) agree = answering-own index count moment user plan a k step.Again h g agree
cause-own index count moment user plan h g (request.Finish a) agree = finishing-own index count moment plan a h g agree
cause-own index count moment user plan h g (request.Mark a k mark) agree = slot_cause-own index count moment user plan a k (λ max. step.Mark mark max) h g agree
cause-own index count moment user plan h g x agree = refl
