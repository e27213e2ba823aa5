-- Worked lines: an essay that a teacher marks, and a grade by the first attempt.
use Rattle.std.specs.Prelude.{◌≡◌, ℕ, List, [], ℤ, pos, codes, refl}
use Rattle.std.specs.Str.{chars}
use Rattle.qz_text.specs.Patterns.{is_blank}
use Rattle.qz_grading.specs.declared.outcome.Behaviour.TheVariants.{Deferred}
use Rattle.qz_grading.specs.declared.outcome.State.TheVariants as state
use Rattle.qz_grading.specs.declared.question.Kind.TheVariants as kind
use Rattle.qz_grading.specs.declared.question.Question.{Question}
use Rattle.qz_grading.specs.declared.refusal.Refusal.TheVariants as refusal
use Rattle.qz_grading.specs.declared.response.Answer.TheVariants as answer
use Rattle.qz_terms.specs.declared.ask.Ask.{Ask}
use Rattle.qz_terms.specs.declared.grades.Method.TheVariants as method
use Rattle.qz_terms.specs.declared.people.Role.TheVariants as role
use Rattle.qz_terms.specs.declared.reply.Done.TheVariants as done
use Rattle.qz_terms.specs.declared.reply.Reply.TheVariants as reply
use Rattle.qz_terms.specs.declared.reply.Shown.TheVariants as shown
use Rattle.qz_terms.specs.declared.request.Request.TheVariants as request
use Rattle.qz_terms_examples.specs.ExamplesSchool.{School, asked_with, first_attempt, founded, look, one_of, plain, then_has, told}

abbrev ann : List ℕ
ann = codes "ann"

abbrev root : List ℕ
root = codes "root"

abbrev write : Question
write = record { name = codes "Write."; text = plain (codes "Write."); general = plain []; kind = kind.Essay; penalty = pos 3333333; hints = [] }

abbrev with_ann : School
with_ann = then_has founded 100 (asked_with root (codes "a1") (request.User ann role.Student ann))

abbrev with_write : School
with_write = then_has with_ann 100 (asked_with root (codes "a2") (request.Import (one_of write)))

abbrev with_quiz : School
with_quiz = then_has with_write 100 (asked_with root (codes "a3") (request.Quiz (codes "Q") Deferred))

abbrev with_slot : School
with_slot = then_has with_quiz 100 (asked_with root (codes "a4") (request.Slot 1 1 (pos 50000000)))

abbrev with_all : School
with_all = then_has with_slot 100 (asked_with root (codes "a5") (request.Ready 1))

abbrev ann_started : School
ann_started = then_has with_all 110 (asked_with ann (codes "k1") (request.Start 1))

abbrev save : Ask
save = asked_with ann (codes "k2") (request.Save first_attempt 1 0 (answer.Words (codes "Once")))

abbrev finish : Ask
finish = asked_with ann (codes "k3") (request.Finish first_attempt)

abbrev by_first : Ask
by_first = asked_with root (codes "a6") (request.Policy 1 method.First (pos 1000000))

abbrev mark : List ℕ → ℤ → Ask
mark key m = asked_with root key (request.Mark first_attempt 1 m)

abbrev grade : Ask
grade = look ann (request.Grade 1 2)

abbrev written : School
written = then_has ann_started 120 save

abbrev handed_in : School
handed_in = then_has written 140 finish

abbrev first_counts : School
first_counts = then_has handed_in 160 by_first

abbrev is_marked : School
is_marked = then_has first_counts 180 (mark (codes "m1") (pos 40000000))

pub it_is_written : told ann_started 120 save ≡ reply.Ok 2 (done.Stepped state.Complete shown.None)
unfolding is_blank chars
it_is_written = refl

pub not_finished_yet : told written 130 (mark (codes "m0") (pos 40000000)) ≡ reply.Refused refusal.NotFinished
unfolding is_blank chars
not_finished_yet = refl

pub no_total_yet : told written 140 finish ≡ reply.Ok 3 (done.Finished shown.None)
unfolding is_blank chars
no_total_yet = refl

pub highest_skips_it : told handed_in 150 grade ≡ reply.Ok 3 (done.Grade shown.None)
unfolding is_blank chars
highest_skips_it = refl

pub first_is_chosen : told handed_in 160 by_first ≡ reply.Ok 7 done.Done
unfolding is_blank chars
first_is_chosen = refl

pub first_has_no_total : told first_counts 170 grade ≡ reply.Ok 3 (done.Grade shown.None)
unfolding is_blank chars
first_has_no_total = refl

pub four_of_five : told first_counts 180 (mark (codes "m1") (pos 40000000)) ≡ reply.Ok 4 (done.Marked state.MangrPartial (shown.Value (pos 40000000)))
unfolding is_blank chars
four_of_five = refl

pub six_of_five : told is_marked 190 (mark (codes "m2") (pos 60000000)) ≡ reply.Refused (refusal.OutOfRange (pos 50000000))
unfolding is_blank chars
six_of_five = refl

pub it_is_graded : told is_marked 200 grade ≡ reply.Ok 4 (done.Grade (shown.Value (pos 800000)))
unfolding is_blank chars
it_is_graded = refl

-- the same mark by the same key, and another
pub marked_again : told is_marked 210 (mark (codes "m1") (pos 40000000)) ≡ reply.Ok 4 (done.Marked state.MangrPartial (shown.Value (pos 40000000)))
unfolding is_blank chars
marked_again = refl

pub another_mark : told is_marked 210 (mark (codes "m1") (pos 30000000)) ≡ reply.Refused (refusal.KeyReused 4)
unfolding is_blank chars
another_mark = refl
