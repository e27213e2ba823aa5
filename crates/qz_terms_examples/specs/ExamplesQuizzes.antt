-- Worked lines of a school with two quizzes, one of two slots and one of one slot: several attempts of a student, an attempt that is
-- abandoned when its time is over, grades by each method, and a regrade of both slots.
use Rattle.std.specs.Prelude.{◌≡◌, ℕ, true, false, List, [], ◌∷◌, pos, Some, None, codes, refl}
use Rattle.qz_grading.specs.declared.outcome.Behaviour.TheVariants.{Deferred}
use Rattle.qz_grading.specs.declared.outcome.State.TheVariants as state
use Rattle.qz_grading.specs.declared.question.Bank.{Bank}
use Rattle.qz_grading.specs.declared.refusal.AttemptId.{AttemptId}
use Rattle.qz_grading.specs.declared.refusal.Refusal.TheVariants as refusal
use Rattle.qz_grading.specs.declared.response.Answer.TheVariants as answer
use Rattle.qz_terms.specs.declared.access.Handling.TheVariants as handling
use Rattle.qz_terms.specs.declared.access.Review.TheVariants as review
use Rattle.qz_terms.specs.declared.ask.Ask.{Ask}
use Rattle.qz_terms.specs.declared.grades.Method.{Method}
use Rattle.qz_terms.specs.declared.grades.Method.TheVariants as method
use Rattle.qz_terms.specs.declared.people.Role.TheVariants as role
use Rattle.qz_terms.specs.declared.record.How.TheVariants as how
use Rattle.qz_terms.specs.declared.reply.Done.TheVariants as done
use Rattle.qz_terms.specs.declared.reply.Reply.TheVariants as reply
use Rattle.qz_terms.specs.declared.reply.Shown.TheVariants as shown
use Rattle.qz_terms.specs.declared.reply.Status.TheVariants as status
use Rattle.qz_terms.specs.declared.request.Request.{Request}
use Rattle.qz_terms.specs.declared.request.Request.TheVariants as request
use Rattle.qz_terms_examples.specs.ExamplesSchool.{School, asked_with, founded, look, then_has, told, true_false}

abbrev ann : List ℕ
ann = codes "ann"

abbrev bob : List ℕ
bob = codes "bob"

abbrev root : List ℕ
root = codes "root"

-- the attempts of ann, at the second quiz and three times at the first, and that of bob
abbrev anns : ℕ → AttemptId
anns nth = record { user = 2; nth = nth }

abbrev bobs : AttemptId
bobs = record { user = 3; nth = 1 }

-- ---- the school

-- true is right in the first, and false in the second
abbrev two_questions : Bank
two_questions = record { items = record { category = codes "Default" ∷ []; question = true_false (codes "T") true } ∷ record { category = codes "Default" ∷ []; question = true_false (codes "F") false } ∷ [] }

abbrev by_root : School → List ℕ → Request → School
by_root s key x = then_has s 100 (asked_with root key x)

abbrev with_people : School
with_people = by_root (by_root founded (codes "a1") (request.User ann role.Student ann)) (codes "a2") (request.User bob role.Student bob)

abbrev import : Ask
import = asked_with root (codes "a3") (request.Import two_questions)

abbrev with_questions : School
with_questions = then_has with_people 100 import

abbrev with_first : School
with_first = by_root (by_root (by_root (by_root with_questions (codes "a4") (request.Quiz (codes "Q") Deferred)) (codes "a5") (request.Slot 1 1 (pos 20000000))) (codes "a6") (request.Slot 1 2 (pos 30000000))) (codes "a7") (request.Ready 1)

abbrev with_second : School
with_second = by_root (by_root (by_root with_first (codes "a8") (request.Quiz (codes "R") Deferred)) (codes "a9") (request.Slot 2 2 (pos 10000000))) (codes "a10") (request.Ready 2)

-- a minute for the first, and then it is abandoned
abbrev times : Ask
times = asked_with root (codes "a11") (request.Times 1 0 0 60 0 handling.AutoAbandon 0 review.Always)

abbrev pub quizzes : School
quizzes = then_has with_second 100 times

pub two_are_imported : told with_people 100 import ≡ reply.Ok 4 (done.Imported 1 2)
two_are_imported = refl

pub times_are_set : told with_second 100 times ≡ reply.Ok 12 done.Done
times_are_set = refl

-- ---- attempts

abbrev start : List ℕ → List ℕ → ℕ → Ask
start token key quiz = asked_with token key (request.Start quiz)

abbrev save_false : Ask
save_false = asked_with ann (codes "k3") (request.Save (anns 2) 2 0 (answer.Pick 2))

abbrev finish : Ask
finish = asked_with ann (codes "k5") (request.Finish (anns 2))

abbrev settle : Ask
settle = look root (request.Settle (anns 3))

abbrev bob_started : School
bob_started = then_has quizzes 110 (start bob (codes "k1") 1)

abbrev ann_started : School
ann_started = then_has bob_started 110 (start ann (codes "k1") 2)

abbrev second_started : School
second_started = then_has ann_started 111 (start ann (codes "k2") 1)

abbrev second_saved : School
second_saved = then_has second_started 112 save_false

abbrev second_finished : School
second_finished = then_has second_saved 120 finish

abbrev third_started : School
third_started = then_has second_finished 121 (start ann (codes "k6") 1)

abbrev fourth_started : School
fourth_started = then_has third_started 182 (start ann (codes "k8") 1)

abbrev third_settled : School
third_settled = then_has fourth_started 183 settle

pub bob_starts : told quizzes 110 (start bob (codes "k1") 1) ≡ reply.Ok 1 (done.Started bobs 2 (Some 170))
bob_starts = refl

pub ann_starts : told bob_started 110 (start ann (codes "k1") 2) ≡ reply.Ok 1 (done.Started (anns 1) 1 None)
ann_starts = refl

pub another_quiz_beside : told ann_started 111 (start ann (codes "k2") 1) ≡ reply.Ok 2 (done.Started (anns 2) 2 (Some 171))
another_quiz_beside = refl

pub false_is_saved : told second_started 112 save_false ≡ reply.Ok 3 (done.Stepped state.Complete shown.None)
false_is_saved = refl

pub first_slot_is_as_it_was : told second_saved 113 (look ann (request.View (anns 2) 1)) ≡ reply.Ok 3 (done.SlotView state.Todo shown.None 1 0)
first_slot_is_as_it_was = refl

pub second_is_finished : told second_saved 120 finish ≡ reply.Ok 4 (done.Finished (shown.Value (pos 30000000)))
second_is_finished = refl

pub third_starts : told second_finished 121 (start ann (codes "k6") 1) ≡ reply.Ok 5 (done.Started (anns 3) 2 (Some 181))
third_starts = refl

pub third_goes_on : told third_started 181 (start ann (codes "k7") 1) ≡ reply.Refused (refusal.Unfinished (anns 3))
third_goes_on = refl

-- one whose time is over isn't in the way
pub fourth_starts : told third_started 182 (start ann (codes "k8") 1) ≡ reply.Ok 6 (done.Started (anns 4) 2 (Some 242))
fourth_starts = refl

pub third_is_abandoned : told fourth_started 183 settle ≡ reply.Ok 7 (done.Settled (anns 3) how.Abandoned)
third_is_abandoned = refl

-- an attempt that is abandoned has no total
pub no_total : told third_settled 184 (look ann (request.Total (anns 3))) ≡ reply.Ok 7 (done.Attempt status.Abandoned shown.None (Some 181))
no_total = refl

-- ---- grades

abbrev grade : ℕ → Ask
grade quiz = look ann (request.Grade quiz 2)

pub first_quiz : told third_settled 184 (grade 1) ≡ reply.Ok 7 (done.Grade (shown.Value (pos 600000)))
first_quiz = refl

pub second_quiz : told third_settled 185 (grade 2) ≡ reply.Ok 7 (done.Grade shown.None)
second_quiz = refl

-- the fourth attempt gets 2 of 5
abbrev fourth_saved : School
fourth_saved = then_has third_settled 190 (asked_with ann (codes "k9") (request.Save (anns 4) 1 0 (answer.Pick 1)))

abbrev fourth_finished : School
fourth_finished = then_has fourth_saved 191 (asked_with ann (codes "k10") (request.Finish (anns 4)))

abbrev graded_by : Method → School
graded_by m = by_root fourth_finished (codes "p1") (request.Policy 1 m (pos 1000000))

pub fourth_is_finished : told fourth_saved 191 (asked_with ann (codes "k10") (request.Finish (anns 4))) ≡ reply.Ok 9 (done.Finished (shown.Value (pos 20000000)))
fourth_is_finished = refl

pub by_the_highest : told (graded_by method.Highest) 200 (grade 1) ≡ reply.Ok 9 (done.Grade (shown.Value (pos 600000)))
by_the_highest = refl

pub by_the_average : told (graded_by method.Average) 200 (grade 1) ≡ reply.Ok 9 (done.Grade (shown.Value (pos 500000)))
by_the_average = refl

pub by_the_first : told (graded_by method.First) 200 (grade 1) ≡ reply.Ok 9 (done.Grade (shown.Value (pos 600000)))
by_the_first = refl

pub by_the_last : told (graded_by method.Last) 200 (grade 1) ≡ reply.Ok 9 (done.Grade (shown.Value (pos 400000)))
by_the_last = refl

-- ---- both questions are corrected, and the first quiz is regraded

abbrev corrected : School
corrected = by_root (by_root third_settled (codes "c1") (request.Edit 1 (true_false (codes "T") false))) (codes "c2") (request.Edit 2 (true_false (codes "F") true))

abbrev with_job : School
with_job = by_root corrected (codes "c3") (request.Regrade 1)

abbrev work : Ask
work = look root (request.Work 1 0)

abbrev once_worked : School
once_worked = then_has with_job 190 work

abbrev twice_worked : School
twice_worked = then_has once_worked 191 work

pub a_job_is_made : told corrected 100 (asked_with root (codes "c3") (request.Regrade 1)) ≡ reply.Ok 15 (done.Job 1)
a_job_is_made = refl

-- in order of user, attempt and slot; the attempt at the other quiz is no target
pub first_slot_is_bound : told with_job 190 work ≡ reply.Ok 8 (done.Rebound (anns 2) 1 state.GaveUp shown.None)
first_slot_is_bound = refl

pub second_slot_is_bound : told once_worked 191 work ≡ reply.Ok 9 (done.Rebound (anns 2) 2 state.GradedWrong (shown.Value (pos 0)))
second_slot_is_bound = refl

pub abandoned_one_is_bound : told twice_worked 192 work ≡ reply.Ok 10 (done.Rebound (anns 3) 1 state.Todo shown.None)
abandoned_one_is_bound = refl

pub the_report : told (then_has twice_worked 192 work) 193 (look root (request.Report 2)) ≡ reply.Ok 15 (done.Report (record { user = 2; name = ann; grade = None } ∷ []))
the_report = refl
