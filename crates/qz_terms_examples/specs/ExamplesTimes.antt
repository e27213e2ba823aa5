-- Worked lines: a quiz that closes at 200, with one attempt, and finishes up to 30 seconds later.
use Rattle.std.specs.Prelude.{◌≡◌, ℕ, List, pos, Some, codes, refl}
use Rattle.qz_grading.specs.declared.outcome.State.TheVariants as state
use Rattle.qz_grading.specs.declared.refusal.AttemptId.{AttemptId}
use Rattle.qz_grading.specs.declared.refusal.Refusal.TheVariants as refusal
use Rattle.qz_grading.specs.declared.response.Answer.TheVariants as answer
use Rattle.qz_terms.specs.declared.access.Handling.TheVariants as handling
use Rattle.qz_terms.specs.declared.access.Review.TheVariants as review
use Rattle.qz_terms.specs.declared.ask.Ask.{Ask}
use Rattle.qz_terms.specs.declared.record.How.TheVariants as how
use Rattle.qz_terms.specs.declared.reply.Done.TheVariants as done
use Rattle.qz_terms.specs.declared.reply.Reply.TheVariants as reply
use Rattle.qz_terms.specs.declared.reply.Shown.TheVariants as shown
use Rattle.qz_terms.specs.declared.reply.Status.TheVariants as status
use Rattle.qz_terms.specs.declared.request.Request.{Request}
use Rattle.qz_terms.specs.declared.request.Request.TheVariants as request
use Rattle.qz_terms_examples.specs.ExamplesSchool.{School, asked_with, first_attempt, look, school, then_has, told}

abbrev ann : List ℕ
ann = codes "ann"

abbrev bob : List ℕ
bob = codes "bob"

abbrev root : List ℕ
root = codes "root"

abbrev save : ℕ → Request
save n = request.Save first_attempt 1 0 (answer.Pick n)

abbrev bobs_attempt : AttemptId
bobs_attempt = record { user = 3; nth = 1 }

abbrev close_at_200 : Ask
close_at_200 = asked_with root (codes "a7") (request.Times 1 0 200 0 1 handling.GracePeriod 30 review.Always)

abbrev closing : School
closing = then_has school 100 close_at_200

abbrev ann_started : School
ann_started = then_has closing 110 (asked_with ann (codes "k1") (request.Start 1))

abbrev ann_saved : School
ann_saved = then_has ann_started 200 (asked_with ann (codes "k2") (save 1))

abbrev ann_finished : School
ann_finished = then_has ann_saved 230 (asked_with ann (codes "k4") (request.Finish first_attempt))

abbrev bob_started : School
bob_started = then_has ann_finished 150 (asked_with bob (codes "k1") (request.Start 1))

abbrev bob_settled : School
bob_settled = then_has bob_started 231 (look root (request.Settle bobs_attempt))

pub times_are_set : told school 100 close_at_200 ≡ reply.Ok 8 done.Done
times_are_set = refl

pub ann_starts : told closing 110 (asked_with ann (codes "k1") (request.Start 1)) ≡ reply.Ok 1 (done.Started first_attempt 1 (Some 200))
ann_starts = refl

pub ann_saves_in_time : told ann_started 200 (asked_with ann (codes "k2") (save 1)) ≡ reply.Ok 2 (done.Stepped state.Complete shown.None)
ann_saves_in_time = refl

pub ann_saves_late : told ann_saved 201 (asked_with ann (codes "k3") (save 2)) ≡ reply.Refused (refusal.Late 200)
ann_saves_late = refl

pub ann_finishes_in_grace : told ann_saved 230 (asked_with ann (codes "k4") (request.Finish first_attempt)) ≡ reply.Ok 3 (done.Finished (shown.Value (pos 20000000)))
ann_finishes_in_grace = refl

-- a second later it is too late, and the attempt would be abandoned
pub ann_finishes_late : told ann_saved 231 (asked_with ann (codes "k4") (request.Finish first_attempt)) ≡ reply.Refused (refusal.Late 200)
ann_finishes_late = refl

-- the moment isn't before that of her last record
pub ann_starts_late : told ann_finished 150 (asked_with ann (codes "k5") (request.Start 1)) ≡ reply.Refused (refusal.Late 200)
ann_starts_late = refl

pub bob_starts : told ann_finished 150 (asked_with bob (codes "k1") (request.Start 1)) ≡ reply.Ok 1 (done.Started bobs_attempt 1 (Some 200))
bob_starts = refl

pub bob_has_one_attempt : told bob_started 160 (asked_with bob (codes "k2") (request.Start 1)) ≡ reply.Refused (refusal.NoAttemptsLeft 1)
bob_has_one_attempt = refl

pub bob_isnt_settled : told bob_started 230 (look root (request.Settle bobs_attempt)) ≡ reply.Ok 1 done.Idle
bob_isnt_settled = refl

pub bob_is_settled : told bob_started 231 (look root (request.Settle bobs_attempt)) ≡ reply.Ok 2 (done.Settled bobs_attempt how.Abandoned)
bob_is_settled = refl

-- an abandoned attempt has no total, takes no step, and no mark
pub bob_has_no_total : told bob_settled 232 (look bob (request.Total bobs_attempt)) ≡ reply.Ok 2 (done.Attempt status.Abandoned shown.None (Some 200))
bob_has_no_total = refl

pub bob_has_no_mark : told bob_settled 232 (asked_with root (codes "m1") (request.Mark bobs_attempt 1 (pos 10000000))) ≡ reply.Refused refusal.NotFinished
bob_has_no_mark = refl
