-- The head of a replay text, and words of its lines.
use Rattle.std.specs.Prelude.{ℕ, if◌then◌else◌, List, [], replicate, Option, Some, None, option_and_then, Result, Ok, Err, ℤ, pos, int_le, codes}
use Rattle.qz_grading.specs.declared.outcome.Behaviour.{Behaviour}
use Rattle.qz_grading.specs.declared.question.Bank.{Bank}
use Rattle.qz_grading.specs.declared.question.Question.{Question}
use Rattle.gift_read.specs.Gift.{Fault, reading}
use Rattle.qz_replay.specs.declared.slot.Slot.{Slot}
use Rattle.qz_wire.specs.BankWords.{behaviour_of, mark_of, penalty_of, only_question}
use Rattle.qz_wire.specs.Lines.{after, number_within}
use Rattle.qz_wire.specs.Words.{only_word, text_of, words_of}
use Rattle.qz_wire.specs.Numbered.{◌>>=◌, line_at}

-- ---- the lines of the head

abbrev pub behaviour_line : List ℕ → Option Behaviour
behaviour_line line = option_and_then behaviour_of (after (codes "behaviour ") line)

-- a max mark is from 0 to 10,000
abbrev pub max_of : List ℕ → Option ℤ
max_of word = option_and_then (λ m. if int_le (pos 0) m then (if int_le m (pos 100000000000) then Some m else None) else None) (mark_of word)

abbrev pub max_line : List ℕ → Option ℤ
max_line line = option_and_then max_of (after (codes "max ") line)

abbrev pub penalty_line : List ℕ → Option ℤ
penalty_line line = option_and_then penalty_of (after (codes "penalty ") line)

abbrev pub hints_of : List ℕ → Option ℕ
hints_of word = number_within 0 20 word

abbrev pub hints_line : List ℕ → Option ℕ
hints_line line = option_and_then hints_of (after (codes "hints ") line)

abbrev pub one_question : Result Bank Fault → Option Question
one_question (Ok bank) = only_question bank.items
one_question (Err fault) = None

-- the question that the GIFT text of a word has, if it has exactly one
abbrev pub question_of : List ℕ → Option Question
question_of word = option_and_then (λ text. one_question (reading text)) (text_of word)

abbrev pub question_line : List ℕ → Option Question
question_line line = option_and_then question_of (option_and_then (λ rest. only_word (words_of rest)) (after (codes "question ") line))

-- ---- the text

-- a question with this penalty, and with so many empty hints
abbrev pub as_version : ℤ → ℕ → Question → Question
as_version penalty hints q = record q { penalty = penalty; hints = replicate hints [] }

-- the slot that the first five lines describe, and the lines after them
unfoldable pub head_of : List (List ℕ) → Result (Slot × List (List ℕ)) ℕ
head_of lines = do
  behaviour ← line_at behaviour_line 1 lines
  max ← line_at max_line 2 behaviour.1
  penalty ← line_at penalty_line 3 max.1
  hints ← line_at hints_line 4 penalty.1
  question ← line_at question_line 5 hints.1
  Ok (record { behaviour = behaviour.0; max = max.0; question = as_version penalty.0 hints.0 question.0 }, question.1)
