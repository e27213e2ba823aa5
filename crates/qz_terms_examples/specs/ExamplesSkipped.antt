-- Worked lines: a single choice under immediate feedback, whose newer version has fewer choices.
use Rattle.std.specs.Prelude.{◌≡◌, ℕ, List, [], ◌∷◌, length, ℤ, pos, codes, refl}
use Rattle.qz_grading.specs.declared.outcome.Behaviour.TheVariants.{Immediate}
use Rattle.qz_grading.specs.declared.outcome.State.TheVariants as state
use Rattle.qz_grading.specs.declared.question.Choice.{Choice}
use Rattle.qz_grading.specs.declared.question.Kind.TheVariants as kind
use Rattle.qz_grading.specs.declared.question.Question.{Question}
use Rattle.qz_grading.specs.declared.refusal.Refusal.TheVariants as refusal
use Rattle.qz_grading.specs.declared.response.Answer.TheVariants as answer
use Rattle.qz_terms.specs.declared.ask.Ask.{Ask}
use Rattle.qz_terms.specs.declared.people.Role.TheVariants as role
use Rattle.qz_terms.specs.declared.reply.Done.TheVariants as done
use Rattle.qz_terms.specs.declared.reply.Reply.TheVariants as reply
use Rattle.qz_terms.specs.declared.reply.Shown.TheVariants as shown
use Rattle.qz_terms.specs.declared.request.Request.TheVariants as request
use Rattle.qz_terms_examples.specs.ExamplesSchool.{School, asked_with, first_attempt, founded, look, one_of, plain, then_has, told}

abbrev ann : List ℕ
ann = codes "ann"

abbrev root : List ℕ
root = codes "root"

abbrev choice : ℤ → List ℕ → Choice
choice weight text = record { weight = weight; text = plain text; feedback = plain [] }

abbrev choose : List Choice → Question
choose choices = record { name = codes "Pick"; text = plain (codes "Pick"); general = plain []; kind = kind.One choices; penalty = pos 3333333; hints = [] }

abbrev pub three : Question
three = choose (choice (pos 10000000) (codes "a") ∷ choice (pos 0) (codes "b") ∷ choice (pos 0) (codes "c") ∷ [])

abbrev pub two : Question
two = choose (choice (pos 10000000) (codes "a") ∷ choice (pos 0) (codes "b") ∷ [])

abbrev with_ann : School
with_ann = then_has founded 100 (asked_with root (codes "a1") (request.User ann role.Student ann))

abbrev with_pick : School
with_pick = then_has with_ann 100 (asked_with root (codes "a2") (request.Import (one_of three)))

abbrev with_quiz : School
with_quiz = then_has with_pick 100 (asked_with root (codes "a3") (request.Quiz (codes "Q") Immediate))

abbrev with_slot : School
with_slot = then_has with_quiz 100 (asked_with root (codes "a4") (request.Slot 1 1 (pos 10000000)))

abbrev with_all : School
with_all = then_has with_slot 100 (asked_with root (codes "a5") (request.Ready 1))

abbrev ann_started : School
ann_started = then_has with_all 110 (asked_with ann (codes "k1") (request.Start 1))

abbrev submit : Ask
submit = asked_with ann (codes "k2") (request.Submit first_attempt 1 0 (answer.Pick 1))

abbrev edit : Ask
edit = asked_with root (codes "a6") (request.Edit 1 two)

abbrev regrade : Ask
regrade = asked_with root (codes "a7") (request.Regrade 1)

abbrev work : Ask
work = look root (request.Work 1 0)

abbrev submitted : School
submitted = then_has ann_started 120 submit

abbrev edited : School
edited = then_has submitted 140 edit

abbrev pub with_job : School
with_job = then_has edited 150 regrade

abbrev skipped : School
skipped = then_has with_job 160 work

abbrev job_done : School
job_done = then_has skipped 165 work

pub the_catalogue_has_six : length ann_started.records ≡ 6
the_catalogue_has_six = refl

pub first_submit_ends : told ann_started 120 submit ≡ reply.Ok 2 (done.Stepped state.GradedRight (shown.Value (pos 10000000)))
first_submit_ends = refl

pub it_has_ended : told submitted 130 (asked_with ann (codes "k3") (request.Save first_attempt 1 0 (answer.Pick 2))) ≡ reply.Refused (refusal.SlotEnded state.GradedRight)
it_has_ended = refl

pub two_choices_are_left : told submitted 140 edit ≡ reply.Ok 7 (done.Version 1 2)
two_choices_are_left = refl

pub a_job_is_made : told edited 150 regrade ≡ reply.Ok 8 (done.Job 1)
a_job_is_made = refl

pub it_is_skipped : told with_job 160 work ≡ reply.Ok 3 (done.Skipped first_attempt 1 (record { kind = 3; first = 3; second = 0 }) (record { kind = 3; first = 2; second = 0 }))
it_is_skipped = refl

pub job_is_done : told skipped 165 work ≡ reply.Ok 4 (done.JobDone 1)
job_is_done = refl

pub all_else_stays : told job_done 170 (look ann (request.View first_attempt 1)) ≡ reply.Ok 3 (done.SlotView state.GradedRight (shown.Value (pos 10000000)) 1 1)
all_else_stays = refl

-- a later start binds the newer version
pub later_version : told (then_has (then_has job_done 180 (asked_with ann (codes "k4") (request.Finish first_attempt))) 190 (asked_with ann (codes "k5") (request.Start 1))) 200 (look ann (request.View (record { user = 2; nth = 2 }) 1)) ≡ reply.Ok 5 (done.SlotView state.Todo shown.None 2 0)
later_version = refl
