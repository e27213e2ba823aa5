-- What is put into a shard's list, what is said of it, and the answer to a request over one shard's list with a plan.
use Rattle.std.specs.Prelude.{ℕ, max, Bool, true, false, not, ◌&&◌, ◌||◌, List, [], ◌∷◌, ◌++◌, map, length, ℤ, pos, is_none, if◌then◌else◌, ◌==◌, Some, None, filter, zip, Option, unwrap_or, option_map, option_to_list, option_and_then}
use Rattle.qz_grading.specs.declared.outcome.Moved.{Moved}
use Rattle.qz_grading.specs.declared.outcome.Moved.TheVariants.{Kept, Same}
use Rattle.qz_grading.specs.declared.outcome.State.{State}
use Rattle.qz_grading.specs.declared.question.Question.{Question}
use Rattle.qz_grading.specs.declared.refusal.AttemptId.{AttemptId}
use Rattle.qz_grading.specs.declared.response.Step.{Step}
use Rattle.qz_grading.specs.declared.response.Step.TheVariants as step
use Rattle.qz_grading.specs.Behaviours.{moved}
use Rattle.qz_grading.specs.Grading.{at_place}
use Rattle.qz_grading.specs.Shapes.{same_shape, shape}
use Rattle.qz_grading.specs.Steps.{is_answering}
use Rattle.qz_terms.specs.declared.access.Settings.{Settings}
use Rattle.qz_terms.specs.declared.ask.Ask.{Ask}
use Rattle.qz_terms.specs.declared.people.User.{User}
use Rattle.qz_terms.specs.declared.plan.Bound.{Bound}
use Rattle.qz_terms.specs.declared.plan.Job.{Job}
use Rattle.qz_terms.specs.declared.plan.Plan.{Plan}
use Rattle.qz_terms.specs.declared.plan.Planned.{Planned}
use Rattle.qz_terms.specs.declared.record.Event.{Event}
use Rattle.qz_terms.specs.declared.record.Event.TheVariants as event
use Rattle.qz_terms.specs.declared.record.How.{How}
use Rattle.qz_terms.specs.declared.record.How.TheVariants as how
use Rattle.qz_terms.specs.declared.record.Learned.{Learned}
use Rattle.qz_terms.specs.declared.record.Record.{Record}
use Rattle.qz_terms.specs.declared.record.Terms.{Terms}
use Rattle.qz_terms.specs.declared.reply.Done.{Done}
use Rattle.qz_terms.specs.declared.reply.Done.TheVariants as done
use Rattle.qz_terms.specs.declared.reply.Reply.{Reply}
use Rattle.qz_terms.specs.declared.reply.Reply.TheVariants as reply
use Rattle.qz_terms.specs.declared.reply.Shown.{Shown}
use Rattle.qz_terms.specs.declared.reply.Status.{Status}
use Rattle.qz_terms.specs.declared.reply.Status.TheVariants as status
use Rattle.qz_terms.specs.declared.request.Request.{Request}
use Rattle.qz_terms.specs.declared.request.Request.TheVariants as request
use Rattle.qz_terms.specs.Access.{due, expired, settled_by}
use Rattle.qz_terms.specs.Catalog as catalog
use Rattle.qz_terms.specs.Cause.{Denied, Granted, Repeated, Verdict, is_student, said_at, sees_marks, verdict_here}
use Rattle.qz_terms.specs.History.{Start}
use Rattle.qz_terms.specs.History as history
use Rattle.qz_terms.specs.Lists.{first_of, how_many, once, up_to_first}
use Rattle.qz_terms.specs.Parts.{part}
use Rattle.qz_terms.specs.Review.{shown_state, shown_value, shows_grade, shows_marks}

-- ---- what a start binds and learns

abbrev pub bind : ℕ → Planned → Bound
bind at s = record { entry = s.entry; version = s.version; max = s.max; at = at }

abbrev pub learned_as : Planned × Question → Learned
learned_as s = record { entry = s.0.entry; version = s.0.version; question = s.1 }

abbrev pub same_version : Learned → Learned → Bool
same_version a b = (a.entry == b.entry) && (a.version == b.version)

-- the versions that a shard hasn't learned, each once, in order
abbrev pub new_versions : List Record → List Learned → List Learned
new_versions h ls = filter (λ (l : Learned). is_none (history.version h l.entry l.version)) (once same_version ls)

-- ---- the record that a request to a shard puts

abbrev pub terms_under : Plan → Terms
terms_under plan = record { at = plan.at; settings = plan.settings }

abbrev pub record_under : ℕ → User → ℕ → Option (List ℕ) → Plan → Event → Record
record_under moment user owner key plan e = record { moment = moment; caller = user.number; owner = owner; key = key; terms = Some (terms_under plan); event = e }

abbrev pub started_by : List Record → User → Plan → Event
started_by h user plan = event.Started plan.quiz (history.next_attempt h user.number).nth plan.behaviour (map (bind plan.at) plan.slots) (new_versions h (map learned_as (zip plan.slots plan.questions)))

abbrev pub acted_or_noted : Moved → AttemptId → ℕ → Step → Event
acted_or_noted Kept a k x = event.Acted a k x
acted_or_noted Same a k x = event.Noted a k x

-- a step that is the same as before is noted, any other is taken
abbrev pub stepped_by : List Record → AttemptId → ℕ → Step → Event
stepped_by h a k x = acted_or_noted (moved (history.steps h a k) x) a k x

-- the max mark bound now
abbrev pub max_now : List Record → AttemptId → ℕ → ℤ
max_now h a k = unwrap_or (option_map (λ (b : Bound). b.max) (history.bound h a k)) (pos 0)

-- an attempt that goes on and is expired
abbrev pub is_overdue : List Record → ℕ → Plan → AttemptId → Bool
is_overdue h moment plan a = not (history.is_ended h a) && unwrap_or (option_map (λ (s : Start). expired plan.settings s.moment moment) (history.start h a)) false

-- the event that a request makes, and the user whose attempt it is about; a look makes none
abbrev pub event_here : List Record → ℕ → User → Plan → Request → Option (ℕ × Event)
event_here h moment user plan (request.Start quiz) = Some (user.number, started_by h user plan)
event_here h moment user plan (request.Save attempt slot certainty response) = Some (attempt.user, stepped_by h attempt slot (step.Save (record { answer = response; certainty = certainty })))
event_here h moment user plan (request.Submit attempt slot certainty response) = Some (attempt.user, stepped_by h attempt slot (step.Submit (record { answer = response; certainty = certainty })))
event_here h moment user plan (request.Again attempt slot) = Some (attempt.user, event.Acted attempt slot step.Again)
event_here h moment user plan (request.Finish attempt) = Some (attempt.user, event.Ended attempt how.Finished)
event_here h moment user plan (request.Mark attempt slot mark) = Some (attempt.user, event.Acted attempt slot (step.Mark mark (max_now h attempt slot)))
event_here h moment user plan (request.Settle attempt) = if is_overdue h moment plan attempt then Some (attempt.user, event.Ended attempt (settled_by plan.settings.handling)) else None
event_here h moment user plan x = None

abbrev pub put_here : List Record → ℕ → User → Plan → Ask → Option Record
put_here h moment user plan ask = option_map (λ (e : ℕ × Event). record_under moment user e.0 ask.key plan e.1) (event_here h moment user plan ask.request)

-- ---- the record that work puts

abbrev pub record_of_job : ℕ → ℕ → ℕ → Event → Record
record_of_job moment caller owner e = record { moment = moment; caller = caller; owner = owner; key = None; terms = None; event = e }

-- a target of equal shape is bound anew, and another is skipped
abbrev pub rebound_or_skipped : List Record → Job → AttemptId → ℕ → Planned → Question → Question → Event
rebound_or_skipped h job a k s old newer =
    if same_shape (shape old) (shape newer) then event.Rebound job.number a k (bind job.position s) (new_versions h (learned_as (s, newer) ∷ []))
    else event.Skipped job.number a k (shape old) (shape newer)

abbrev pub target_event : List Record → Job → AttemptId × ℕ → Option Event
target_event h job t = option_and_then (λ old. option_and_then (λ s. option_map (λ newer. rebound_or_skipped h job t.0 t.1 s old newer) (at_place job.plan.questions t.1)) (at_place job.plan.slots t.1)) (history.question h t.0 t.1)

-- the first target of the job, if any is left
abbrev pub first_target : List Record → Job → Option (AttemptId × ℕ)
first_target h job = first_of (history.targets h job.number job.plan.quiz job.position)

-- what a worker's request makes: what becomes of the first target, or the job is done where none is left. Of a school each target
-- has its slot and its question in the plan of its job.
abbrev pub job_event : List Record → Job → Option (AttemptId × ℕ) → Event
job_event h job first = unwrap_or (option_and_then (target_event h job) first) (event.JobDone job.number job.plan.quiz job.position)

-- the student of a target; the record of a job that is done is nobody's
abbrev pub target_owner : Option (AttemptId × ℕ) → ℕ
target_owner first = unwrap_or (option_map (λ (t : AttemptId × ℕ). t.0.user) first) 0

abbrev pub put_target : List Record → ℕ → ℕ → Job → Option (AttemptId × ℕ) → Record
put_target h now caller job first = record_of_job (history.time h (target_owner first) now) caller (target_owner first) (job_event h job first)

-- a job that is done in the shard puts nothing
abbrev pub put_by_job : List Record → ℕ → ℕ → Job → Option Record
put_by_job h now caller job = if history.is_done h job.number then None else Some (put_target h now caller job (first_target h job))

-- ---- what is said of a record of a shard

-- marks are hidden from the student alone, by the record's own settings at its moment
abbrev pub is_visible : List Record → Record → AttemptId → Bool
is_visible l r a = not (r.caller == r.owner) || unwrap_or (option_map (λ (t : Terms). shows_marks t.settings (history.is_ended l a) r.moment) r.terms) true

abbrev pub shown_state_in : List Record → Record → AttemptId → ℕ → State
shown_state_in l r a k = shown_state (is_visible l r a) (history.state l a k)

abbrev pub shown_mark_in : List Record → Record → AttemptId → ℕ → Shown ℤ
shown_mark_in l r a k = shown_value (is_visible l r a) (history.mark l a k)

abbrev pub due_by : Option Terms → ℕ → Option ℕ
due_by None moment = None
due_by (Some t) moment = due t.settings moment

abbrev pub acted_reply : List Record → Record → AttemptId → ℕ → Step → Done
acted_reply l r a k (step.Mark mark max) = done.Marked (shown_state_in l r a k) (shown_mark_in l r a k)
acted_reply l r a k x = done.Stepped (shown_state_in l r a k) (shown_mark_in l r a k)

-- a finish is asked with a key, and a settling is not
abbrev pub ended_reply : List Record → Record → AttemptId → How → Option (List ℕ) → Done
ended_reply l r a how (Some key) = done.Finished (shown_value (is_visible l r a) (history.total l a))
ended_reply l r a how None = done.Settled a how

-- ---- the reply for the last record of a list

abbrev pub reply_by : List Record → Record → Event → Done
reply_by l r (event.Founded shards token) = done.Made 1
reply_by l r (event.Asked x) = catalog.asked_reply l x
reply_by l r (event.Started quiz nth behaviour bounds learned) = done.Started (record { user = r.owner; nth = nth }) (length bounds) (due_by r.terms r.moment)
reply_by l r (event.Acted a k x) = acted_reply l r a k x
reply_by l r (event.Noted a k x) = done.Same (shown_state_in l r a k) (shown_mark_in l r a k)
reply_by l r (event.Ended a how) = ended_reply l r a how r.key
reply_by l r (event.Rebound job a k bound learned) = done.Rebound a k (shown_state_in l r a k) (shown_mark_in l r a k)
reply_by l r (event.Skipped job a k bound newer) = done.Skipped a k bound newer
reply_by l r (event.JobDone job quiz position) = done.JobDone job

-- over the list that ends with the record
abbrev pub said : List Record → Record → Reply
said l r = reply.Ok (said_at l r) (reply_by l r r.event)

-- ---- looks at a shard

abbrev pub status_by : Option How → Status
status_by None = status.Live
status_by (Some how.Finished) = status.Finished
status_by (Some how.Abandoned) = status.Abandoned

abbrev pub answering_steps : List Record → AttemptId → ℕ → ℕ
answering_steps h a k = how_many is_answering (history.steps h a k)

abbrev pub version_now : List Record → AttemptId → ℕ → ℕ
version_now h a k = unwrap_or (option_map (λ (b : Bound). b.version) (history.bound h a k)) 0

abbrev pub due_now : List Record → Plan → AttemptId → Option ℕ
due_now h plan a = option_and_then (λ (s : Start). due plan.settings s.moment) (history.start h a)

abbrev pub viewed : List Record → Bool → AttemptId → ℕ → Done
viewed h visible a k = done.SlotView (shown_state visible (history.state h a k)) (shown_value visible (history.mark h a k)) (version_now h a k) (answering_steps h a k)

-- the grade of a quiz is hidden from a student alone
abbrev pub sees_grade : User → Settings → ℕ → Bool
sees_grade user s moment = not (is_student user) || shows_grade s moment

abbrev pub looked_by : List Record → ℕ → User → Plan → Request → Done
looked_by h moment user plan (request.View attempt slot) = viewed h (sees_marks h plan.settings user attempt moment) attempt slot
looked_by h moment user plan (request.Total attempt) = done.Attempt (status_by (history.ended h attempt)) (shown_value (sees_marks h plan.settings user attempt moment) (history.total h attempt)) (due_now h plan attempt)
looked_by h moment user plan (request.Page attempt) = done.Page attempt plan.name (due_now h plan attempt) (map (part (sees_marks h plan.settings user attempt moment)) (history.slots h attempt))
looked_by h moment user plan (request.Grade quiz owner) = done.Grade (shown_value (sees_grade user plan.settings moment) (history.row h quiz plan.policy owner))
looked_by h moment user plan x = done.Idle

-- the attempt that a request names, in whose user's shard it is answered
abbrev pub attempt_named : Request → Option AttemptId
attempt_named (request.Save attempt slot certainty response) = Some attempt
attempt_named (request.Submit attempt slot certainty response) = Some attempt
attempt_named (request.Again attempt slot) = Some attempt
attempt_named (request.Finish attempt) = Some attempt
attempt_named (request.Mark attempt slot mark) = Some attempt
attempt_named (request.Settle attempt) = Some attempt
attempt_named (request.View attempt slot) = Some attempt
attempt_named (request.Total attempt) = Some attempt
attempt_named (request.Page attempt) = Some attempt
attempt_named x = None

-- the user whose attempt or grade a request names; a start names its caller
abbrev pub named_user : User → Request → ℕ
named_user user (request.Grade quiz owner) = owner
named_user user x = unwrap_or (option_map (λ (a : AttemptId). a.user) (attempt_named x)) user.number

-- a look, and a settling that had nothing to do
abbrev pub looked : List Record → ℕ → User → Plan → Request → Reply
looked h moment user plan x = reply.Ok (history.place h (named_user user x)) (looked_by h moment user plan x)

-- ---- the answer over one shard's list with a plan

abbrev pub said_of_put : List Record → Option Record → Reply → Reply
said_of_put l None look = look
said_of_put l (Some r) look = said (l ++ r ∷ []) r

abbrev pub reply_to : Verdict → Reply → Reply
reply_to (Denied r) accepted = reply.Refused r
reply_to (Repeated l r) accepted = said l r
reply_to Granted accepted = accepted

abbrev pub list_with : Verdict → List Record → Option Record → List Record
list_with Granted l put = l ++ option_to_list put
list_with v l put = l

-- the moment of a request
abbrev pub moment_of : List Record → ℕ → User → Request → ℕ
moment_of h now user x = history.time h (named_user user x) now

abbrev pub answer_at : List Record → ℕ → User → Plan → Ask → Reply
answer_at h moment user plan ask = reply_to (verdict_here h moment user plan ask) (said_of_put h (put_here h moment user plan ask) (looked h moment user plan ask.request))

abbrev pub list_at : List Record → ℕ → User → Plan → Ask → List Record
list_at h moment user plan ask = list_with (verdict_here h moment user plan ask) h (put_here h moment user plan ask)

-- by the clock
abbrev pub answer_here : List Record → ℕ → User → Plan → Ask → Reply
answer_here h now user plan ask = answer_at h (moment_of h now user ask.request) user plan ask

abbrev pub list_after : List Record → ℕ → User → Plan → Ask → List Record
list_after h now user plan ask = list_at h (moment_of h now user ask.request) user plan ask

-- ---- work, and what else is asked of a shard

abbrev pub done_place : List Record → ℕ → ℕ
done_place h job = length (up_to_first (history.is_done_in job) h)

-- a job that is done is told again, with its place
abbrev pub work_answer : List Record → ℕ → ℕ → Job → Reply
work_answer h now caller job = said_of_put h (put_by_job h now caller job) (reply.Ok (done_place h job.number) (done.AlreadyDone job.number))

abbrev pub work_after : List Record → ℕ → ℕ → Job → List Record
work_after h now caller job = h ++ option_to_list (put_by_job h now caller job)

abbrev pub live_answer : List Record → AttemptId → Reply
live_answer h a = reply.Ok (length h) (done.Live (history.live_after h a))
