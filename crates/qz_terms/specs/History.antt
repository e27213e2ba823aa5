-- What the records of a shard tell: of attempts, of their slots, of grades and of jobs.
use Rattle.std.specs.List.{list_any}
use Rattle.std.specs.Prelude.{ℕ, ◌+◌, max, Bool, true, false, not, ◌&&◌, ◌||◌, List, [], map, length, ℤ, is_some, if◌then◌else◌, nat_lt, ◌==◌, Some, None, fold, filter, flat_map, filter_map, Option, unwrap_or, option_map, option_and_then}
use Rattle.qz_grading.specs.declared.outcome.Behaviour.{Behaviour}
use Rattle.qz_grading.specs.declared.outcome.State.{State}
use Rattle.qz_grading.specs.declared.outcome.State.TheVariants.{Todo}
use Rattle.qz_grading.specs.declared.question.Question.{Question}
use Rattle.qz_grading.specs.declared.refusal.AttemptId.{AttemptId}
use Rattle.qz_grading.specs.declared.response.Step.{Step}
use Rattle.qz_grading.specs.declared.response.Step.TheVariants as step
use Rattle.qz_grading.specs.Behaviours.{behaviour_for}
use Rattle.qz_grading.specs.Grading.{at_place}
use Rattle.qz_grading.specs.Slots.{slot_mark, slot_state}
use Rattle.qz_grading.specs.Steps.{last_of}
use Rattle.qz_terms.specs.declared.grades.Policy.{Policy}
use Rattle.qz_terms.specs.declared.plan.Bound.{Bound}
use Rattle.qz_terms.specs.declared.record.Event.{Event}
use Rattle.qz_terms.specs.declared.record.Event.TheVariants as event
use Rattle.qz_terms.specs.declared.record.How.{How}
use Rattle.qz_terms.specs.declared.record.How.TheVariants as how
use Rattle.qz_terms.specs.declared.record.Learned.{Learned}
use Rattle.qz_terms.specs.declared.record.Record.{Record}
use Rattle.qz_terms.specs.Lists.{first_of, how_many, in_order, only_if, places_to, up_to_first}
use Rattle.qz_terms.specs.Rows.{Scored, row_of, total_of}

abbrev pub same_attempt : AttemptId → AttemptId → Bool
same_attempt a b = (a.user == b.user) && (a.nth == b.nth)

-- in order of user and number
abbrev pub attempt_before : AttemptId → AttemptId → Bool
attempt_before a b = nat_lt a.user b.user || ((a.user == b.user) && nat_lt a.nth b.nth)

-- ---- records of a user

abbrev pub is_owned : ℕ → Record → Bool
is_owned u r = r.owner == u

-- how many records a user has
abbrev pub place : List Record → ℕ → ℕ
place h u = how_many (is_owned u) h

abbrev pub owned_moment : ℕ → Record → Option ℕ
owned_moment u r = if is_owned u r then Some r.moment else None

-- the moment of a request about a user: the clock's, but not before that user's last record
abbrev pub time : List Record → ℕ → ℕ → ℕ
time h u now = max now (unwrap_or (last_of (filter_map (owned_moment u) h)) 0)

-- ---- attempts

pub record Start : Type 0 where
  pub attempt : AttemptId
  pub moment : ℕ
  pub quiz : ℕ
  pub behaviour : Behaviour
  pub bounds : List Bound

abbrev pub start_by : Record → Event → Option Start
start_by r (event.Started quiz nth behaviour bounds learned) = Some (record { attempt = record { user = r.owner; nth = nth }; moment = r.moment; quiz = quiz; behaviour = behaviour; bounds = bounds })
start_by r e = None

-- the attempt that a record starts
abbrev pub started : Record → Option Start
started r = start_by r r.event

abbrev pub starts : AttemptId → Record → Option Start
starts a r = option_and_then (only_if (λ (s : Start). same_attempt a s.attempt)) (started r)

abbrev pub start : List Record → AttemptId → Option Start
start h a = first_of (filter_map (starts a) h)

abbrev pub quiz : List Record → AttemptId → Option ℕ
quiz h a = option_map (λ (s : Start). s.quiz) (start h a)

abbrev pub starts_at : ℕ → ℕ → Record → Option AttemptId
starts_at q u r = option_map (λ (s : Start). s.attempt) (option_and_then (only_if (λ (s : Start). (s.quiz == q) && (s.attempt.user == u))) (started r))

-- the attempts of a quiz by a user, in order
abbrev pub attempts : List Record → ℕ → ℕ → List AttemptId
attempts h q u = in_order attempt_before (filter_map (starts_at q u) h)

-- the next attempt of a user, over all quizzes
abbrev pub next_attempt : List Record → ℕ → AttemptId
next_attempt h u = record { user = u; nth = how_many (λ r. is_owned u r && is_some (started r)) h + 1 }

abbrev pub ends_by : AttemptId → Event → Option How
ends_by a (event.Ended b how) = if same_attempt a b then Some how else None
ends_by a e = None

abbrev pub ends : AttemptId → Record → Option How
ends a r = ends_by a r.event

-- how an attempt ended, if it did
abbrev pub ended : List Record → AttemptId → Option How
ended h a = first_of (filter_map (ends a) h)

abbrev pub is_ended : List Record → AttemptId → Bool
is_ended h a = is_some (ended h a)

-- and at which place
abbrev pub ended_at : List Record → AttemptId → Option ℕ
ended_at h a = option_map (λ how. place (up_to_first (λ r. is_some (ends a r)) h) a.user) (ended h a)

-- whether it ended by a finish
abbrev pub ended_finished : Option How → Bool
ended_finished (Some how.Finished) = true
ended_finished o = false

abbrev pub is_finished : List Record → AttemptId → Bool
is_finished h a = ended_finished (ended h a)

-- ---- versions that the shard has learned

abbrev pub learned_by : Event → List Learned
learned_by (event.Started quiz nth behaviour bounds learned) = learned
learned_by (event.Rebound job a slot bound learned) = learned
learned_by e = []

abbrev pub learned_version : ℕ → ℕ → Learned → Option Question
learned_version entry version l = if (l.entry == entry) && (l.version == version) then Some l.question else None

abbrev pub learns : ℕ → ℕ → Record → Option Question
learns entry version r = first_of (filter_map (learned_version entry version) (learned_by r.event))

abbrev pub version : List Record → ℕ → ℕ → Option Question
version h entry number = first_of (filter_map (learns entry number) h)

-- ---- slots

abbrev pub binds_by : AttemptId → ℕ → Record → Event → Option Bound
binds_by a k r (event.Started quiz nth behaviour bounds learned) = if same_attempt a (record { user = r.owner; nth = nth }) then at_place bounds k else None
binds_by a k r (event.Rebound job b slot bound learned) = if same_attempt a b && (k == slot) then Some bound else None
binds_by a k r e = None

abbrev pub binds : AttemptId → ℕ → Record → Option Bound
binds a k r = binds_by a k r r.event

-- what is bound to a slot now
abbrev pub bound : List Record → AttemptId → ℕ → Option Bound
bound h a k = last_of (filter_map (binds a k) h)

abbrev pub question : List Record → AttemptId → ℕ → Option Question
question h a k = option_and_then (λ (b : Bound). version h b.entry b.version) (bound h a k)

abbrev pub finish_of : How → Option Step
finish_of how.Finished = Some step.Finish
finish_of how.Abandoned = None

abbrev pub step_by : AttemptId → ℕ → Event → Option Step
step_by a k (event.Acted b slot x) = if same_attempt a b && (k == slot) then Some x else None
step_by a k (event.Ended b how) = if same_attempt a b then finish_of how else None
step_by a k e = None

-- an attempt that is finished has a Finish in every slot; one that is abandoned has none
abbrev pub step_in : AttemptId → ℕ → Record → Option Step
step_in a k r = step_by a k r.event

abbrev pub steps : List Record → AttemptId → ℕ → List Step
steps h a k = filter_map (step_in a k) h

-- all that is known of a slot
pub record Slot : Type 0 where
  pub behaviour : Behaviour
  pub bound : Bound
  pub question : Question
  pub steps : List Step

abbrev pub slot_with : Start → Bound → List Step → Question → Slot
slot_with s b taken q = record { behaviour = behaviour_for q.kind s.behaviour; bound = b; question = q; steps = taken }

abbrev pub slot : List Record → AttemptId → ℕ → Option Slot
slot h a k = option_and_then (λ s. option_and_then (λ (b : Bound). option_map (slot_with s b (steps h a k)) (version h b.entry b.version)) (bound h a k)) (start h a)

abbrev pub state_of : Slot → State
state_of s = slot_state s.behaviour s.question s.steps

abbrev pub mark_in : Slot → Option ℤ
mark_in s = slot_mark s.behaviour s.question s.bound.max s.steps

-- the state of a slot, which is todo where there is no such slot
abbrev pub state : List Record → AttemptId → ℕ → State
state h a k = unwrap_or (option_map state_of (slot h a k)) Todo

abbrev pub mark : List Record → AttemptId → ℕ → Option ℤ
mark h a k = option_and_then mark_in (slot h a k)

-- how many slots an attempt has
abbrev pub slot_count : List Record → AttemptId → ℕ
slot_count h a = unwrap_or (option_map (λ (s : Start). length s.bounds) (start h a)) 0

abbrev pub slots : List Record → AttemptId → List Slot
slots h a = filter_map (slot h a) (places_to (slot_count h a))

-- ---- totals and grades

abbrev pub scored : Slot → Scored
scored s = record { state = state_of s; max = s.bound.max; mark = mark_in s }

-- a live or abandoned attempt has no total
abbrev pub total : List Record → AttemptId → Option ℤ
total h a = if is_finished h a then total_of (map scored (slots h a)) else None

-- the grade of a user at a quiz, over the finished attempts in order of start
abbrev pub row : List Record → ℕ → Policy → ℕ → Option ℤ
row h q policy u = row_of policy (map (total h) (filter (is_finished h) (attempts h q u)))

abbrev pub taker_at : ℕ → Record → Option ℕ
taker_at q r = option_map (λ (s : Start). s.attempt.user) (option_and_then (only_if (λ (s : Start). s.quiz == q)) (started r))

-- the users with an attempt of a quiz, in order of number
abbrev pub takers : List Record → ℕ → List ℕ
takers h q = in_order nat_lt (filter_map (taker_at q) h)

-- ---- jobs

abbrev pub done_by : ℕ → Event → Bool
done_by job (event.JobDone j quiz position) = j == job
done_by job e = false

abbrev pub is_done_in : ℕ → Record → Bool
is_done_in job r = done_by job r.event

abbrev pub is_done : List Record → ℕ → Bool
is_done h job = list_any (is_done_in job) h

abbrev pub skips_by : ℕ → AttemptId → ℕ → Event → Bool
skips_by job a k (event.Skipped j b slot bound newer) = (j == job) && (same_attempt a b && (k == slot))
skips_by job a k e = false

abbrev pub skips : ℕ → AttemptId → ℕ → Record → Bool
skips job a k r = skips_by job a k r.event

abbrev pub is_skipped : List Record → ℕ → AttemptId → ℕ → Bool
is_skipped h job a k = list_any (skips job a k) h

-- bound before the job's position, and not skipped by the job
abbrev pub is_target : List Record → ℕ → ℕ → AttemptId → ℕ → Bool
is_target h job position a k = unwrap_or (option_map (λ (b : Bound). nat_lt b.at position) (bound h a k)) false && not (is_skipped h job a k)

abbrev pub attempt_at : ℕ → Record → Option AttemptId
attempt_at q r = option_map (λ (s : Start). s.attempt) (option_and_then (only_if (λ (s : Start). s.quiz == q)) (started r))

abbrev pub targets_in : List Record → ℕ → ℕ → AttemptId → List (AttemptId × ℕ)
targets_in h job position a = map (λ k. (a, k)) (filter (is_target h job position a) (places_to (slot_count h a)))

-- the slots that a job has left, in order of user, attempt and slot; of attempts live or ended
abbrev pub targets : List Record → ℕ → ℕ → ℕ → List (AttemptId × ℕ)
targets h job q position = flat_map (targets_in h job position) (in_order attempt_before (filter_map (attempt_at q) h))

abbrev pub floor_by : ℕ → Event → Option ℕ
floor_by q (event.JobDone job quiz position) = if quiz == q then Some position else None
floor_by q e = None

-- the greatest position of a job of the quiz that is done, or 0
abbrev pub floor : List Record → ℕ → ℕ
floor h q = fold max 0 (filter_map (λ (r : Record). floor_by q r.event) h)

-- ---- attempts that go on

-- the first after this one, which needn't be there
abbrev pub live_after : List Record → AttemptId → Option AttemptId
live_after h a = first_of (filter (λ b. attempt_before a b && not (is_ended h b)) (in_order attempt_before (filter_map (λ r. option_map (λ (s : Start). s.attempt) (started r)) h)))
