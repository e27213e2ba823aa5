-- Worked lines: a question is corrected and regraded while one attempt is finished and another goes on.
use Rattle.std.specs.Prelude.{◌≡◌, ℕ, false, List, [], ◌∷◌, map, length, pos, None, codes, refl}
use Rattle.qz_grading.specs.declared.outcome.State.TheVariants as state
use Rattle.qz_grading.specs.declared.refusal.AttemptId.{AttemptId}
use Rattle.qz_grading.specs.declared.refusal.Refusal.TheVariants as refusal
use Rattle.qz_grading.specs.declared.refusal.Thing.TheVariants as thing
use Rattle.qz_grading.specs.declared.response.Answer.TheVariants as answer
use Rattle.qz_terms.specs.declared.ask.Ask.{Ask}
use Rattle.qz_terms.specs.declared.people.Caller.TheVariants as caller
use Rattle.qz_terms.specs.declared.record.Event.{Event}
use Rattle.qz_terms.specs.declared.record.Event.TheVariants as event
use Rattle.qz_terms.specs.declared.record.Record.{Record}
use Rattle.qz_terms.specs.declared.reply.Done.TheVariants as done
use Rattle.qz_terms.specs.declared.reply.Reply.TheVariants as reply
use Rattle.qz_terms.specs.declared.reply.Shown.TheVariants as shown
use Rattle.qz_terms.specs.declared.request.Request.TheVariants as request
use Rattle.qz_terms_examples.specs.ExamplesFirstAttempt.{finished}
use Rattle.qz_terms_examples.specs.ExamplesSchool.{School, asked_with, first_attempt, look, then_has, told, true_false}
use Rattle.qz_terms.specs.History as history

abbrev ann : List ℕ
ann = codes "ann"

abbrev root : List ℕ
root = codes "root"

abbrev second_attempt : AttemptId
second_attempt = record { user = 2; nth = 2 }

abbrev start_again : Ask
start_again = asked_with ann (codes "k4") (request.Start 1)

abbrev save_false : Ask
save_false = asked_with ann (codes "k5") (request.Save second_attempt 1 0 (answer.Pick 2))

-- false is right
abbrev correct : Ask
correct = asked_with root (codes "c1") (request.Edit 1 (true_false (codes "Sky") false))

abbrev regrade : Ask
regrade = asked_with root (codes "c2") (request.Regrade 1)

abbrev work : Ask
work = look root (request.Work 1 0)

abbrev finish_again : Ask
finish_again = asked_with ann (codes "k6") (request.Finish second_attempt)

abbrev again_started : School
again_started = then_has finished 140 start_again

abbrev again_saved : School
again_saved = then_has again_started 150 save_false

abbrev corrected : School
corrected = then_has again_saved 160 correct

abbrev with_job : School
with_job = then_has corrected 170 regrade

abbrev first_bound : School
first_bound = then_has with_job 180 work

abbrev both_bound : School
both_bound = then_has first_bound 182 work

abbrev job_done : School
job_done = then_has both_bound 183 work

abbrev again_finished : School
again_finished = then_has job_done 190 finish_again

pub it_starts_again : told finished 140 start_again ≡ reply.Ok 4 (done.Started second_attempt 1 None)
it_starts_again = refl

pub false_is_saved : told again_started 150 save_false ≡ reply.Ok 5 (done.Stepped state.Complete shown.None)
false_is_saved = refl

pub it_is_corrected : told again_saved 160 correct ≡ reply.Ok 8 (done.Version 1 2)
it_is_corrected = refl

pub a_job_is_made : told corrected 170 regrade ≡ reply.Ok 9 (done.Job 1)
a_job_is_made = refl

pub still_graded : told with_job 175 (look ann (request.Grade 1 2)) ≡ reply.Ok 5 (done.Grade (shown.Value (pos 1000000)))
still_graded = refl

pub first_is_bound : told with_job 180 work ≡ reply.Ok 6 (done.Rebound first_attempt 1 state.GradedWrong (shown.Value (pos 0)))
first_is_bound = refl

pub graded_anew : told first_bound 181 (look ann (request.Grade 1 2)) ≡ reply.Ok 6 (done.Grade (shown.Value (pos 0)))
graded_anew = refl

pub second_is_bound : told first_bound 182 work ≡ reply.Ok 7 (done.Rebound second_attempt 1 state.Complete shown.None)
second_is_bound = refl

pub job_is_done : told both_bound 183 work ≡ reply.Ok 8 (done.JobDone 1)
job_is_done = refl

pub job_was_done : told job_done 184 work ≡ reply.Ok 8 (done.AlreadyDone 1)
job_was_done = refl

pub second_is_finished : told job_done 190 finish_again ≡ reply.Ok 8 (done.Finished (shown.Value (pos 20000000)))
second_is_finished = refl

pub highest_is_second : told again_finished 191 (look ann (request.Grade 1 2)) ≡ reply.Ok 8 (done.Grade (shown.Value (pos 1000000)))
highest_is_second = refl

-- a repeated finish is answered as it was then
pub finish_is_repeated : told again_finished 192 (asked_with ann (codes "k3") (request.Finish first_attempt)) ≡ reply.Ok 3 (done.Finished (shown.Value (pos 20000000)))
finish_is_repeated = refl

-- the job's position is the floor under later starts, and each version was learned once
pub floor_is_9 : history.floor job_done.part 1 ≡ 9
floor_is_9 = refl

abbrev learned_by : Event → ℕ
learned_by (event.Started quiz nth behaviour bounds learned) = length learned
learned_by (event.Rebound job a k bound learned) = length learned
learned_by e = 0

abbrev learned_in : Record → ℕ
learned_in r = learned_by r.event

pub learned_once : map learned_in job_done.part ≡ 1 ∷ 0 ∷ 0 ∷ 0 ∷ 0 ∷ 1 ∷ 0 ∷ 0 ∷ []
learned_once = refl

pub known_workers_only : told with_job 180 (record { caller = caller.Worker; key = None; request = request.Grade 1 2 }) ≡ reply.Refused (refusal.Forbidden 5)
known_workers_only = refl

pub a_worker_works : told with_job 180 (record { caller = caller.Worker; key = None; request = request.Work 1 0 }) ≡ reply.Ok 6 (done.Rebound first_attempt 1 state.GradedWrong (shown.Value (pos 0)))
a_worker_works = refl

pub no_such_job : told with_job 180 (look root (request.Work 2 0)) ≡ reply.Refused (refusal.Unknown thing.Job)
no_such_job = refl
