-- Worked lines: an attempt from its start to its grade, and what is refused around it.
use Rattle.std.specs.Prelude.{◌≡◌, ℕ, true, List, [], ◌∷◌, pos, Some, None, codes, refl}
use Rattle.qz_grading.specs.declared.outcome.State.TheVariants as state
use Rattle.qz_grading.specs.declared.refusal.Refusal.TheVariants as refusal
use Rattle.qz_grading.specs.declared.refusal.Thing.TheVariants as thing
use Rattle.qz_grading.specs.declared.response.Answer.{Answer}
use Rattle.qz_grading.specs.declared.response.Answer.TheVariants as answer
use Rattle.qz_terms.specs.declared.ask.Ask.{Ask}
use Rattle.qz_terms.specs.declared.people.Role.TheVariants as role
use Rattle.qz_terms.specs.declared.reply.Done.TheVariants as done
use Rattle.qz_terms.specs.declared.reply.Reply.TheVariants as reply
use Rattle.qz_terms.specs.declared.reply.Shown.TheVariants as shown
use Rattle.qz_terms.specs.declared.request.Request.TheVariants as request
use Rattle.qz_terms_examples.specs.ExamplesSchool.{School, asked_with, first_attempt, look, school, then_has, told, true_false}

abbrev ann : List ℕ
ann = codes "ann"

abbrev pick : ℕ → Answer
pick n = answer.Pick n

abbrev start : Ask
start = asked_with ann (codes "k1") (request.Start 1)

abbrev save_true : Ask
save_true = asked_with ann (codes "k2") (request.Save first_attempt 1 0 (pick 1))

abbrev finish : Ask
finish = asked_with ann (codes "k3") (request.Finish first_attempt)

abbrev pub started : School
started = then_has school 110 start

abbrev pub saved : School
saved = then_has started 120 save_true

abbrev pub finished : School
finished = then_has saved 130 finish

pub it_starts : told school 110 start ≡ reply.Ok 1 (done.Started first_attempt 1 None)
it_starts = refl

pub it_is_saved : told started 120 save_true ≡ reply.Ok 2 (done.Stepped state.Complete shown.None)
it_is_saved = refl

pub it_is_finished : told saved 130 finish ≡ reply.Ok 3 (done.Finished (shown.Value (pos 20000000)))
it_is_finished = refl

pub it_is_graded : told finished 140 (look ann (request.Grade 1 2)) ≡ reply.Ok 3 (done.Grade (shown.Value (pos 1000000)))
it_is_graded = refl

-- the same key with the same request, and with another
pub it_is_repeated : told finished 150 finish ≡ reply.Ok 3 (done.Finished (shown.Value (pos 20000000)))
it_is_repeated = refl

pub a_repeat_adds_nothing : then_has finished 150 finish ≡ finished
a_repeat_adds_nothing = refl

pub key_is_taken : told finished 160 (asked_with ann (codes "k3") (request.Start 1)) ≡ reply.Refused (refusal.KeyReused 3)
key_is_taken = refl

pub it_has_ended : told finished 170 (asked_with ann (codes "k4") (request.Save first_attempt 1 0 (pick 2))) ≡ reply.Refused (refusal.Closed 3)
it_has_ended = refl

pub anothers_isnt_there : told finished 180 (asked_with (codes "bob") (codes "k1") (request.Finish first_attempt)) ≡ reply.Refused (refusal.Unknown thing.Attempt)
anothers_isnt_there = refl

pub students_make_no_users : told finished 190 (asked_with ann (codes "x1") (request.User (codes "eve") role.Student (codes "eve"))) ≡ reply.Refused (refusal.Forbidden 1)
students_make_no_users = refl

pub nobody_has_the_token : told finished 200 (asked_with (codes "zed") (codes "k1") (request.Start 1)) ≡ reply.Refused refusal.UnknownToken
nobody_has_the_token = refl

-- ---- looks

pub the_page : told started 112 (look ann (request.Page first_attempt)) ≡ reply.Ok 1 (done.Page first_attempt (codes "Q") None (record { text = codes "Sky"; state = state.Todo; mark = shown.None; hint = None; feedback = []; general = [] } ∷ []))
the_page = refl

pub one_step_is_viewed : told saved 125 (look ann (request.View first_attempt 1)) ≡ reply.Ok 2 (done.SlotView state.Complete shown.None 1 1)
one_step_is_viewed = refl

pub the_report : told finished 210 (look (codes "root") (request.Report 1)) ≡ reply.Ok 7 (done.Report (record { user = 2; name = codes "ann"; grade = Some (pos 1000000) } ∷ []))
the_report = refl

-- ---- what else is refused after the start

pub first_goes_on : told started 115 (asked_with ann (codes "k9") (request.Start 1)) ≡ reply.Refused (refusal.Unfinished first_attempt)
first_goes_on = refl

pub managers_start_nothing : told started 116 (asked_with (codes "root") (codes "k1") (request.Start 1)) ≡ reply.Refused (refusal.Forbidden 3)
managers_start_nothing = refl

pub no_such_quiz : told school 100 (asked_with (codes "root") (codes "a9") (request.Ready 7)) ≡ reply.Refused (refusal.Unknown thing.Quiz)
no_such_quiz = refl

pub slots_are_fixed : told school 101 (asked_with (codes "root") (codes "b1") (request.Slot 1 1 (pos 20000000))) ≡ reply.Refused (refusal.Closed 7)
slots_are_fixed = refl

pub the_bank_is_shown : told school 102 (look (codes "root") (request.Bank 1 1)) ≡ reply.Ok 7 (done.Gift (true_false (codes "Sky") true))
the_bank_is_shown = refl
