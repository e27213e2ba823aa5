-- The requests that the words behind a command make of it.
use Rattle.std.specs.Prelude.{ℕ, List, Result, Ok}
use Rattle.qz_grading.specs.declared.question.Bank.{Bank}
use Rattle.qz_grading.specs.declared.question.Question.{Question}
use Rattle.qz_terms.specs.declared.request.Request.{Request}
use Rattle.qz_terms.specs.declared.request.Request.TheVariants as request
use Rattle.qz_wire.specs.declared.verbs.Verb.{Verb}
use Rattle.qz_wire.specs.declared.verbs.Verb.TheVariants as verb
use Rattle.qz_wire.specs.Answers.{answer_of}
use Rattle.qz_wire.specs.BankWords.{name_of, role_of, behaviour_of, handling_of, review_of, whom_of, method_of, mark_of, penalty_of, quiz_grade_of, hints_of, gift_of, question_of}
use Rattle.qz_wire.specs.Faults.{Fault, at_word}
use Rattle.qz_wire.specs.Numbered.{◌>>=◌, end_at, line_at as word_at}
use Rattle.qz_wire.specs.Words.{moment_of, number_of, slot_of, shard_of, certainty_of, duration_of, allowed_of, attempt_of, text_of, token_of, or_dash}

-- ---- users and groups

unfoldable pub user_of : List (List ℕ) → Result Request ℕ
user_of words = do
  name ← word_at name_of 5 words
  role ← word_at role_of 6 name.1
  token ← word_at token_of 7 role.1
  end_at 8 (request.User name.0 role.0 token.0) token.1

unfoldable pub group_of : List (List ℕ) → Result Request ℕ
group_of words = do
  name ← word_at name_of 5 words
  end_at 6 (request.Group name.0) name.1

unfoldable pub member_of : List (List ℕ) → Result Request ℕ
member_of words = do
  group ← word_at number_of 5 words
  user ← word_at number_of 6 group.1
  end_at 7 (request.Member group.0 user.0) user.1

-- ---- the bank

-- the bank of the GIFT text that the word with this number spells, and the words behind it
unfoldable pub bank_at : ℕ → List (List ℕ) → Result (Bank × List (List ℕ)) Fault
bank_at place words = do
  text ← at_word (word_at text_of place words)
  bank ← gift_of text.0
  Ok (bank, text.1)

-- and its question, where it has exactly one
unfoldable pub question_at : ℕ → List (List ℕ) → Result (Question × List (List ℕ)) Fault
question_at place words = do
  text ← at_word (word_at text_of place words)
  question ← question_of text.0
  Ok (question, text.1)

unfoldable pub import_of : List (List ℕ) → Result Request Fault
import_of words = do
  bank ← bank_at 5 words
  at_word (end_at 6 (request.Import bank.0) bank.1)

unfoldable pub edit_of : List (List ℕ) → Result Request Fault
edit_of words = do
  entry ← at_word (word_at number_of 5 words)
  question ← question_at 6 entry.1
  at_word (end_at 7 (request.Edit entry.0 question.0) question.1)

unfoldable pub tune_of : List (List ℕ) → Result Request ℕ
tune_of words = do
  entry ← word_at number_of 5 words
  penalty ← word_at penalty_of 6 entry.1
  hints ← word_at hints_of 7 penalty.1
  end_at 8 (request.Tune entry.0 penalty.0 hints.0) hints.1

unfoldable pub bank_of : List (List ℕ) → Result Request ℕ
bank_of words = do
  entry ← word_at number_of 5 words
  version ← word_at number_of 6 entry.1
  end_at 7 (request.Bank entry.0 version.0) version.1

-- ---- quizzes

unfoldable pub quiz_of : List (List ℕ) → Result Request ℕ
quiz_of words = do
  name ← word_at name_of 5 words
  behaviour ← word_at behaviour_of 6 name.1
  end_at 7 (request.Quiz name.0 behaviour.0) behaviour.1

-- a max mark is read as any mark
unfoldable pub slot_request_of : List (List ℕ) → Result Request ℕ
slot_request_of words = do
  quiz ← word_at number_of 5 words
  entry ← word_at number_of 6 quiz.1
  max ← word_at mark_of 7 entry.1
  end_at 8 (request.Slot quiz.0 entry.0 max.0) max.1

unfoldable pub ready_of : List (List ℕ) → Result Request ℕ
ready_of words = do
  quiz ← word_at number_of 5 words
  end_at 6 (request.Ready quiz.0) quiz.1

unfoldable pub remax_of : List (List ℕ) → Result Request ℕ
remax_of words = do
  quiz ← word_at number_of 5 words
  slot ← word_at slot_of 6 quiz.1
  max ← word_at mark_of 7 slot.1
  end_at 8 (request.Remax quiz.0 slot.0 max.0) max.1

unfoldable pub policy_of : List (List ℕ) → Result Request ℕ
policy_of words = do
  quiz ← word_at number_of 5 words
  method ← word_at method_of 6 quiz.1
  grade ← word_at quiz_grade_of 7 method.1
  end_at 8 (request.Policy quiz.0 method.0 grade.0) grade.1

unfoldable pub times_of : List (List ℕ) → Result Request ℕ
times_of words = do
  quiz ← word_at number_of 5 words
  opens ← word_at moment_of 6 quiz.1
  closes ← word_at moment_of 7 opens.1
  limit ← word_at duration_of 8 closes.1
  allowed ← word_at allowed_of 9 limit.1
  handling ← word_at handling_of 10 allowed.1
  grace ← word_at duration_of 11 handling.1
  review ← word_at review_of 12 grace.1
  end_at 13 (request.Times quiz.0 opens.0 closes.0 limit.0 allowed.0 handling.0 grace.0 review.0) review.1

-- a dash leaves a setting unset
unfoldable pub override_of : List (List ℕ) → Result Request ℕ
override_of words = do
  quiz ← word_at number_of 5 words
  whom ← word_at whom_of 6 quiz.1
  number ← word_at number_of 7 whom.1
  opens ← word_at (or_dash moment_of) 8 number.1
  closes ← word_at (or_dash moment_of) 9 opens.1
  limit ← word_at (or_dash duration_of) 10 closes.1
  allowed ← word_at (or_dash allowed_of) 11 limit.1
  end_at 12 (request.Override quiz.0 whom.0 number.0 opens.0 closes.0 limit.0 allowed.0) allowed.1

-- ---- jobs

unfoldable pub regrade_of : List (List ℕ) → Result Request ℕ
regrade_of words = do
  quiz ← word_at number_of 5 words
  end_at 6 (request.Regrade quiz.0) quiz.1

-- a job and the shard in which it goes on
unfoldable pub work_of : List (List ℕ) → Result Request ℕ
work_of words = do
  job ← word_at number_of 5 words
  shard ← word_at shard_of 6 job.1
  end_at 7 (request.Work job.0 shard.0) shard.1

unfoldable pub jobs_of : List (List ℕ) → Result Request ℕ
jobs_of words = end_at 5 request.Jobs words

-- ---- attempts

unfoldable pub start_of : List (List ℕ) → Result Request ℕ
start_of words = do
  quiz ← word_at number_of 5 words
  end_at 6 (request.Start quiz.0) quiz.1

unfoldable pub save_of : List (List ℕ) → Result Request ℕ
save_of words = do
  attempt ← word_at attempt_of 5 words
  slot ← word_at slot_of 6 attempt.1
  certainty ← word_at certainty_of 7 slot.1
  response ← word_at answer_of 8 certainty.1
  end_at 9 (request.Save attempt.0 slot.0 certainty.0 response.0) response.1

unfoldable pub submit_of : List (List ℕ) → Result Request ℕ
submit_of words = do
  attempt ← word_at attempt_of 5 words
  slot ← word_at slot_of 6 attempt.1
  certainty ← word_at certainty_of 7 slot.1
  response ← word_at answer_of 8 certainty.1
  end_at 9 (request.Submit attempt.0 slot.0 certainty.0 response.0) response.1

unfoldable pub again_of : List (List ℕ) → Result Request ℕ
again_of words = do
  attempt ← word_at attempt_of 5 words
  slot ← word_at slot_of 6 attempt.1
  end_at 7 (request.Again attempt.0 slot.0) slot.1

unfoldable pub finish_of : List (List ℕ) → Result Request ℕ
finish_of words = do
  attempt ← word_at attempt_of 5 words
  end_at 6 (request.Finish attempt.0) attempt.1

-- a mark is read as any mark, and judged later
unfoldable pub mark_request_of : List (List ℕ) → Result Request ℕ
mark_request_of words = do
  attempt ← word_at attempt_of 5 words
  slot ← word_at slot_of 6 attempt.1
  mark ← word_at mark_of 7 slot.1
  end_at 8 (request.Mark attempt.0 slot.0 mark.0) mark.1

unfoldable pub settle_of : List (List ℕ) → Result Request ℕ
settle_of words = do
  attempt ← word_at attempt_of 5 words
  end_at 6 (request.Settle attempt.0) attempt.1

unfoldable pub live_of : List (List ℕ) → Result Request ℕ
live_of words = do
  shard ← word_at shard_of 5 words
  attempt ← word_at attempt_of 6 shard.1
  end_at 7 (request.Live shard.0 attempt.0) attempt.1

unfoldable pub view_of : List (List ℕ) → Result Request ℕ
view_of words = do
  attempt ← word_at attempt_of 5 words
  slot ← word_at slot_of 6 attempt.1
  end_at 7 (request.View attempt.0 slot.0) slot.1

unfoldable pub total_of : List (List ℕ) → Result Request ℕ
total_of words = do
  attempt ← word_at attempt_of 5 words
  end_at 6 (request.Total attempt.0) attempt.1

unfoldable pub page_of : List (List ℕ) → Result Request ℕ
page_of words = do
  attempt ← word_at attempt_of 5 words
  end_at 6 (request.Page attempt.0) attempt.1

unfoldable pub grade_of : List (List ℕ) → Result Request ℕ
grade_of words = do
  quiz ← word_at number_of 5 words
  user ← word_at number_of 6 quiz.1
  end_at 7 (request.Grade quiz.0 user.0) user.1

unfoldable pub report_of : List (List ℕ) → Result Request ℕ
report_of words = do
  quiz ← word_at number_of 5 words
  end_at 6 (request.Report quiz.0) quiz.1

-- ---- each command

abbrev pub request_of : Verb → List (List ℕ) → Result Request Fault
request_of verb.User words = at_word (user_of words)
request_of verb.Group words = at_word (group_of words)
request_of verb.Member words = at_word (member_of words)
request_of verb.Import words = import_of words
request_of verb.Edit words = edit_of words
request_of verb.Tune words = at_word (tune_of words)
request_of verb.Quiz words = at_word (quiz_of words)
request_of verb.Slot words = at_word (slot_request_of words)
request_of verb.Ready words = at_word (ready_of words)
request_of verb.Remax words = at_word (remax_of words)
request_of verb.Policy words = at_word (policy_of words)
request_of verb.Times words = at_word (times_of words)
request_of verb.Override words = at_word (override_of words)
request_of verb.Regrade words = at_word (regrade_of words)
request_of verb.Start words = at_word (start_of words)
request_of verb.Save words = at_word (save_of words)
request_of verb.Submit words = at_word (submit_of words)
request_of verb.Again words = at_word (again_of words)
request_of verb.Finish words = at_word (finish_of words)
request_of verb.Mark words = at_word (mark_request_of words)
request_of verb.Work words = at_word (work_of words)
request_of verb.Settle words = at_word (settle_of words)
request_of verb.Live words = at_word (live_of words)
request_of verb.Jobs words = at_word (jobs_of words)
request_of verb.View words = at_word (view_of words)
request_of verb.Total words = at_word (total_of words)
request_of verb.Page words = at_word (page_of words)
request_of verb.Grade words = at_word (grade_of words)
request_of verb.Report words = at_word (report_of words)
request_of verb.Bank words = at_word (bank_of words)
