-- Worked lines: a quiz that closes at 200 and shows marks only then.
use Rattle.std.specs.Prelude.{◌≡◌, ℕ, List, [], ◌∷◌, pos, Some, None, codes, refl}
use Rattle.qz_grading.specs.declared.outcome.State.TheVariants as state
use Rattle.qz_grading.specs.declared.response.Answer.TheVariants as answer
use Rattle.qz_terms.specs.declared.access.Handling.TheVariants as handling
use Rattle.qz_terms.specs.declared.access.Review.TheVariants as review
use Rattle.qz_terms.specs.declared.ask.Ask.{Ask}
use Rattle.qz_terms.specs.declared.reply.Done.TheVariants as done
use Rattle.qz_terms.specs.declared.reply.Reply.TheVariants as reply
use Rattle.qz_terms.specs.declared.reply.Shown.TheVariants as shown
use Rattle.qz_terms.specs.declared.request.Request.TheVariants as request
use Rattle.qz_terms_examples.specs.ExamplesSchool.{School, asked_with, first_attempt, look, school, then_has, told}

abbrev ann : List ℕ
ann = codes "ann"

abbrev root : List ℕ
root = codes "root"

abbrev show_at_close : Ask
show_at_close = asked_with root (codes "a7") (request.Times 1 0 200 0 0 handling.AutoSubmit 0 review.Close)

abbrev hiding : School
hiding = then_has school 100 show_at_close

abbrev save_true : Ask
save_true = asked_with ann (codes "k2") (request.Save first_attempt 1 0 (answer.Pick 1))

abbrev finish : Ask
finish = asked_with ann (codes "k3") (request.Finish first_attempt)

abbrev view : List ℕ → Ask
view token = look token (request.View first_attempt 1)

abbrev ann_started : School
ann_started = then_has hiding 110 (asked_with ann (codes "k1") (request.Start 1))

abbrev ann_saved : School
ann_saved = then_has ann_started 120 save_true

abbrev ann_finished : School
ann_finished = then_has ann_saved 130 finish

pub times_are_set : told school 100 show_at_close ≡ reply.Ok 8 done.Done
times_are_set = refl

pub it_is_due : told hiding 110 (asked_with ann (codes "k1") (request.Start 1)) ≡ reply.Ok 1 (done.Started first_attempt 1 (Some 200))
it_is_due = refl

pub mark_is_hidden : told ann_started 120 save_true ≡ reply.Ok 2 (done.Stepped state.Complete shown.Hidden)
mark_is_hidden = refl

pub total_is_hidden : told ann_saved 130 finish ≡ reply.Ok 3 (done.Finished shown.Hidden)
total_is_hidden = refl

pub state_is_hidden : told ann_finished 140 (view ann) ≡ reply.Ok 3 (done.SlotView state.Finished shown.Hidden 1 1)
state_is_hidden = refl

pub but_not_from_root : told ann_finished 150 (view root) ≡ reply.Ok 3 (done.SlotView state.GradedRight (shown.Value (pos 20000000)) 1 1)
but_not_from_root = refl

pub grade_is_hidden : told ann_finished 200 (look ann (request.Grade 1 2)) ≡ reply.Ok 3 (done.Grade shown.Hidden)
grade_is_hidden = refl

pub grade_is_shown : told ann_finished 201 (look ann (request.Grade 1 2)) ≡ reply.Ok 3 (done.Grade (shown.Value (pos 1000000)))
grade_is_shown = refl

-- the reply that was kept stays as it was
pub kept_reply_is_hidden : told ann_finished 201 finish ≡ reply.Ok 3 (done.Finished shown.Hidden)
kept_reply_is_hidden = refl

pub then_it_is_shown : told ann_finished 201 (view ann) ≡ reply.Ok 3 (done.SlotView state.GradedRight (shown.Value (pos 20000000)) 1 1)
then_it_is_shown = refl

-- the teacher's report reads all
pub the_report : told ann_finished 150 (look root (request.Report 1)) ≡ reply.Ok 8 (done.Report (record { user = 2; name = codes "ann"; grade = Some (pos 1000000) } ∷ []))
the_report = refl

pub the_page : told ann_finished 201 (look ann (request.Page first_attempt)) ≡ reply.Ok 3 (done.Page first_attempt (codes "Q") (Some 200) (record { text = codes "Sky"; state = state.GradedRight; mark = shown.Value (pos 20000000); hint = None; feedback = []; general = [] } ∷ []))
the_page = refl
