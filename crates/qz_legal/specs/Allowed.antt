-- Whether a record may stand behind those of a list, told by the record itself and by readings of the list.
use Rattle.std.specs.List.{list_all}
use Rattle.std.specs.Ordering.{int_eq}
use Rattle.std.specs.Prelude.{ℕ, Bool, true, false, not, ◌&&◌, List, [], ◌∷◌, ◌++◌, map, length, ℤ, is_some, is_none, if◌then◌else◌, ◌==◌, Some, None, filter, Option, unwrap_or, option_map, option_and_then}
use Rattle.qz_grading.specs.declared.outcome.Moved.{Moved}
use Rattle.qz_grading.specs.declared.outcome.Moved.TheVariants.{Kept, Same}
use Rattle.qz_grading.specs.declared.question.Question.{Question}
use Rattle.qz_grading.specs.declared.question.Shape.{Shape}
use Rattle.qz_grading.specs.declared.refusal.AttemptId.{AttemptId}
use Rattle.qz_grading.specs.declared.refusal.Refusal.{Refusal}
use Rattle.qz_grading.specs.declared.response.Step.{Step}
use Rattle.qz_grading.specs.declared.response.Step.TheVariants as step
use Rattle.qz_grading.specs.Behaviours.{first_some, moved}
use Rattle.qz_grading.specs.Grading.{is_place}
use Rattle.qz_grading.specs.Shapes.{same_shape, shape}
use Rattle.qz_grading.specs.Slots.{step_cause}
use Rattle.qz_terms.specs.declared.access.Settings.{Settings}
use Rattle.qz_terms.specs.declared.limits.TheConstants.{MOST_ATTEMPTS}
use Rattle.qz_terms.specs.declared.plan.Bound.{Bound}
use Rattle.qz_terms.specs.declared.record.Event.{Event}
use Rattle.qz_terms.specs.declared.record.Event.TheVariants as event
use Rattle.qz_terms.specs.declared.record.How.{How}
use Rattle.qz_terms.specs.declared.record.How.TheVariants as how
use Rattle.qz_terms.specs.declared.record.Learned.{Learned}
use Rattle.qz_terms.specs.declared.record.Record.{Record}
use Rattle.qz_terms.specs.declared.record.Terms.{Terms}
use Rattle.qz_terms.specs.Access.{answer_cause, expired, finish_cause, settled_by, start_cause}
use Rattle.qz_terms.specs.Answer.{max_now}
use Rattle.qz_terms.specs.Cause.{time_cause, too_many, unfinished_at}
use Rattle.qz_terms.specs.History.{Slot, Start}
use Rattle.qz_terms.specs.History as history
use Rattle.qz_terms.specs.Legal.{at_least_floor, bound_at, has_its_owner, has_new_key, is_bare, same_pair, version_of_bound, version_of_learned}
use Rattle.qz_terms.specs.Lists.{first_of, once}

-- ---- who asked

-- a user, with a key
abbrev pub has_asker : Record → Bool
has_asker r = not (r.caller == 0) && is_some r.key

-- this user, with a key
abbrev pub is_own : Record → ℕ → Bool
is_own r u = (r.caller == u) && has_asker r

-- ---- a start

-- the first cause for which a user may not start a quiz
abbrev pub starting_cause : List Record → Settings → Bool → ℕ → ℕ → ℕ → Option Refusal
starting_cause h s ready moment u q = first_some (
    start_cause s ready moment (length (history.attempts h q u)) (unfinished_at h s q u moment)
    ∷ too_many MOST_ATTEMPTS (length (history.attempts h q u))
    ∷ [])

-- the owner's next attempt
abbrev pub can_start : List Record → Record → Settings → ℕ → ℕ → Bool
can_start h r s q nth = is_own r r.owner && ((nth == (history.next_attempt h r.owner).nth) && is_none (starting_cause h s true r.moment r.owner q))

-- ---- a step

abbrev pub slot_refusal : List Record → AttemptId → ℕ → Step → Option Refusal
slot_refusal h a k x = option_and_then (λ (s : Slot). step_cause s.behaviour s.question s.bound.max s.steps x) (history.slot h a k)

-- the slot is there and takes the step
abbrev pub takes : List Record → AttemptId → ℕ → Step → Bool
takes h a k x = is_place (history.slot_count h a) k && is_none (slot_refusal h a k x)

abbrev pub is_in_time : List Record → Settings → ℕ → AttemptId → Bool
is_in_time h s moment a = is_none (time_cause (λ began. answer_cause s began moment (history.ended_at h a)) h a)

-- a student answers in an own attempt
abbrev pub can_answer : List Record → Record → Settings → AttemptId → ℕ → Step → Bool
can_answer h r s a k x = is_own r a.user && (is_in_time h s r.moment a && takes h a k x)

-- what such an answer is to the slot: a further step, or the same as before
abbrev pub answer_moves : List Record → Record → Settings → AttemptId → ℕ → Step → Option Moved
answer_moves h r s a k x = if can_answer h r s a k x then Some (moved (history.steps h a k) x) else None

abbrev pub is_further : Option Moved → Bool
is_further (Some Kept) = true
is_further o = false

abbrev pub is_same : Option Moved → Bool
is_same (Some Same) = true
is_same o = false

-- a mark has the max mark that is bound now
abbrev pub can_mark : List Record → Record → AttemptId → ℕ → ℤ → ℤ → Bool
can_mark h r a k mark max = has_asker r && (int_eq max (max_now h a k) && takes h a k (step.Mark mark max))

abbrev pub can_act : List Record → Record → Settings → AttemptId → ℕ → Step → Bool
can_act h r s a k (step.Save x) = is_further (answer_moves h r s a k (step.Save x))
can_act h r s a k (step.Submit x) = is_further (answer_moves h r s a k (step.Submit x))
can_act h r s a k step.Again = is_some (answer_moves h r s a k step.Again)
can_act h r s a k (step.Mark mark max) = can_mark h r a k mark max
can_act h r s a k step.Finish = false

-- a step that was the same as before
abbrev pub can_note : List Record → Record → Settings → AttemptId → ℕ → Step → Bool
can_note h r s a k (step.Save x) = is_same (answer_moves h r s a k (step.Save x))
can_note h r s a k (step.Submit x) = is_same (answer_moves h r s a k (step.Submit x))
can_note h r s a k x = false

-- ---- an end

abbrev pub same_how : How → How → Bool
same_how how.Finished how.Finished = true
same_how how.Abandoned how.Abandoned = true
same_how a b = false

-- a student finishes an own attempt
abbrev pub can_finish : List Record → Record → Settings → AttemptId → How → Bool
can_finish h r s a w = is_own r a.user && (same_how w how.Finished && (is_some (history.start h a) && is_none (time_cause (λ began. finish_cause s began r.moment (history.ended_at h a)) h a)))

-- an attempt that goes on and is expired
abbrev pub is_overdue : List Record → Settings → ℕ → AttemptId → Bool
is_overdue h s moment a = not (history.is_ended h a) && unwrap_or (option_map (λ (b : Start). expired s b.moment moment) (history.start h a)) false

-- a settling ends it as the settings say
abbrev pub can_settle : List Record → Settings → ℕ → AttemptId → How → Bool
can_settle h s moment a w = is_overdue h s moment a && same_how w (settled_by s.handling)

abbrev pub can_end_by : List Record → Record → Settings → AttemptId → How → Option (List ℕ) → Bool
can_end_by h r s a w (Some key) = can_finish h r s a w
can_end_by h r s a w None = can_settle h s r.moment a w

-- a finish has a key, and a settling has none
abbrev pub can_end : List Record → Record → Settings → AttemptId → How → Bool
can_end h r s a w = can_end_by h r s a w r.key

-- ---- what a request puts

abbrev pub can_put_under : List Record → Record → Settings → Event → Bool
can_put_under h r s (event.Started quiz nth behaviour bounds learned) = can_start h r s quiz nth
can_put_under h r s (event.Acted a k x) = can_act h r s a k x
can_put_under h r s (event.Noted a k x) = can_note h r s a k x
can_put_under h r s (event.Ended a w) = can_end h r s a w
can_put_under h r s e = false

-- a request put it, under the record's own terms
abbrev pub can_put : List Record → Record → Bool
can_put h r = unwrap_or (option_map (λ (t : Terms). can_put_under h r t.settings r.event) r.terms) false

-- ---- what is learned

-- the same versions in the same order
abbrev pub same_pairs : List (ℕ × ℕ) → List (ℕ × ℕ) → Bool
same_pairs [] [] = true
same_pairs (v ∷ vs) (w ∷ ws) = same_pair v w && same_pairs vs ws
same_pairs vs ws = false

-- the versions that are bound and new to the list, each once, in order
abbrev pub new_bound : List Record → List Bound → List (ℕ × ℕ)
new_bound h bounds = filter (λ (v : ℕ × ℕ). is_none (history.version h v.0 v.1)) (once same_pair (map version_of_bound bounds))

abbrev pub learns_new : List Record → List Bound → List Learned → Bool
learns_new h bounds learned = same_pairs (map version_of_learned learned) (new_bound h bounds)

-- a start's bounds are under its terms, which are no older than a job that is done
abbrev pub can_begin : List Record → Record → ℕ → List Bound → List Learned → Bool
can_begin h r q bounds learned = can_put h r && (at_least_floor h q r.terms && (list_all (bound_at r.terms) bounds && learns_new h bounds learned))

-- ---- what a job puts

-- this slot is the one that is found
abbrev pub is_at : AttemptId → ℕ → Option (AttemptId × ℕ) → Bool
is_at a k found = unwrap_or (option_map (λ (t : AttemptId × ℕ). history.same_attempt t.0 a && (t.1 == k)) found) false

-- the first slot that a job of the attempt's quiz has left
abbrev pub is_first_left : List Record → ℕ → ℕ → AttemptId → ℕ → Bool
is_first_left h job position a k = unwrap_or (option_map (λ q. is_at a k (first_of (history.targets h job q position))) (history.quiz h a)) false

abbrev pub is_alike : Option Question → Option Question → Bool
is_alike old newer = unwrap_or (option_and_then (λ o. option_map (λ n. same_shape (shape o) (shape n)) newer) old) false

-- the job isn't done yet, and the record has neither key nor terms
abbrev pub is_open : List Record → Record → ℕ → Bool
is_open h r job = is_bare r && not (history.is_done h job)

abbrev pub can_rebind : List Record → Record → ℕ → AttemptId → ℕ → Bound → List Learned → Bool
can_rebind h r job a k b learned =
    is_open h r job && (is_first_left h job b.at a k && (learns_new h (b ∷ []) learned && is_alike (history.question h a k) (history.version (h ++ r ∷ []) b.entry b.version)))

abbrev pub has_shape : Shape → Option Question → Bool
has_shape s asked = unwrap_or (option_map (λ q. same_shape s (shape q)) asked) false

abbrev pub can_skip : List Record → Record → ℕ → AttemptId → ℕ → Shape → Shape → Bool
can_skip h r job a k bound newer =
    is_open h r job && (not (history.is_skipped h job a k) && (has_shape bound (history.question h a k) && not (same_shape bound newer)))

abbrev pub can_close : List Record → Record → ℕ → ℕ → ℕ → Bool
can_close h r job q position = is_open h r job && is_none (first_of (history.targets h job q position))

-- ---- any record

abbrev pub can_stand_by : List Record → Record → Event → Bool
can_stand_by h r (event.Founded shards token) = false
can_stand_by h r (event.Asked x) = false
can_stand_by h r (event.Started quiz nth behaviour bounds learned) = can_begin h r quiz bounds learned
can_stand_by h r (event.Acted a k x) = can_put h r
can_stand_by h r (event.Noted a k x) = can_put h r
can_stand_by h r (event.Ended a w) = can_put h r
can_stand_by h r (event.Rebound job a k bound learned) = can_rebind h r job a k bound learned
can_stand_by h r (event.Skipped job a k bound newer) = can_skip h r job a k bound newer
can_stand_by h r (event.JobDone job quiz position) = can_close h r job quiz position

abbrev pub can_stand : ℕ → ℕ → List Record → Record → Bool
can_stand index count h r = has_its_owner index count r && ((history.time h r.owner r.moment == r.moment) && (has_new_key h r && can_stand_by h r r.event))
