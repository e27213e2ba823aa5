-- What a replay text asks for, line by line, and its output.
use Rattle.std.specs.Prelude.{ℕ, ◌+◌, if◌then◌else◌, List, [], ◌∷◌, ◌++◌, Option, Some, None, Result, Ok, Err, ℤ, bytes_eq, codes, decimal}
use Rattle.std.specs.Result.{result_ok}
use Rattle.qz_grading.specs.declared.response.Response.{Response}
use Rattle.qz_grading.specs.declared.response.Step.TheVariants as step
use Rattle.qz_replay.specs.declared.asked.Asked.{Asked}
use Rattle.qz_replay.specs.declared.asked.Asked.TheVariants as asked
use Rattle.qz_replay.specs.declared.asked.Deed.{Deed}
use Rattle.qz_replay.specs.declared.asked.Deed.TheVariants as deed
use Rattle.qz_replay.specs.declared.slot.Version.{Version}
use Rattle.qz_wire.specs.Answers.{answer_of}
use Rattle.qz_wire.specs.BankWords.{mark_of, penalty_of}
use Rattle.qz_wire.specs.Lines.{lines_of, newline}
use Rattle.qz_replay.specs.Plays.{Play, next, standing, told}
use Rattle.qz_wire.specs.Numbered.{◌>>=◌, end_at, line_at as word_at, or_line}
use Rattle.qz_replay.specs.Replay.{as_version, max_of, hints_of, question_of, head_of}
use Rattle.qz_wire.specs.Words.{words_of, certainty_of}

-- ---- the line of a step or of a newer version

abbrev pub deed_of : List ℕ → Option Deed
deed_of word =
    if bytes_eq word (codes "save") then Some deed.Save
    else (if bytes_eq word (codes "submit") then Some deed.Submit
    else (if bytes_eq word (codes "again") then Some deed.Again
    else (if bytes_eq word (codes "finish") then Some deed.Finish
    else (if bytes_eq word (codes "mark") then Some deed.Mark
    else (if bytes_eq word (codes "bind") then Some deed.Bind else None)))))

unfoldable pub response_of : List (List ℕ) → Result Response ℕ
response_of words = do
  certainty ← word_at certainty_of 2 words
  answer ← word_at answer_of 3 certainty.1
  end_at 4 (record { answer = answer.0; certainty = certainty.0 }) answer.1

unfoldable pub given_of : List (List ℕ) → Result ℤ ℕ
given_of words = do
  mark ← word_at mark_of 2 words
  end_at 3 mark.0 mark.1

unfoldable pub version_of : List (List ℕ) → Result Version ℕ
version_of words = do
  max ← word_at max_of 2 words
  penalty ← word_at penalty_of 3 max.1
  hints ← word_at hints_of 4 penalty.1
  question ← word_at question_of 5 hints.1
  end_at 6 (record { max = max.0; question = as_version penalty.0 hints.0 question.0 }) question.1

-- a mark is out of the max mark that is bound now
abbrev pub asked_by : Deed → ℤ → List (List ℕ) → Result Asked ℕ
asked_by deed.Save max words = response_of words >>= λ r. Ok (asked.Step (step.Save r))
asked_by deed.Submit max words = response_of words >>= λ r. Ok (asked.Step (step.Submit r))
asked_by deed.Again max words = end_at 2 (asked.Step step.Again) words
asked_by deed.Finish max words = end_at 2 (asked.Step step.Finish) words
asked_by deed.Mark max words = given_of words >>= λ m. Ok (asked.Step (step.Mark m max))
asked_by deed.Bind max words = version_of words >>= λ v. Ok (asked.Bind v)

unfoldable pub asked_of : ℤ → List (List ℕ) → Result Asked ℕ
asked_of max words = do
  deed ← word_at deed_of 1 words
  asked_by deed.0 max deed.1

-- ---- the text

abbrev pub line_of : ℕ → List ℕ → List ℕ
line_of number words = decimal number ++ (codes " " ++ (words ++ newline))

-- the lines of what is asked from this number on
unfoldable pub steps_told : ℕ → Play → List (List ℕ) → Result (List ℕ) ℕ
steps_told number p [] = Ok []
steps_told number p (line ∷ lines) = do
  a ← or_line (number + 5) (result_ok (asked_of p.slot.max (words_of line)))
  others ← steps_told (number + 1) (next p a) lines
  Ok (line_of number (told p a) ++ others)

-- what was said before, and then the rest
abbrev pub with_front : List ℕ → Result (List ℕ) ℕ → Result (List ℕ) ℕ
with_front front reading = reading >>= λ more. Ok (front ++ more)

-- the output of a replay text, or the number of its first line without a reading
unfoldable pub replayed : List ℕ → Result (List ℕ) ℕ
replayed text = do
  head ← head_of (lines_of text)
  let play : Play = record { slot = head.0; taken = [] } in with_front (line_of 0 (standing play)) (steps_told 1 play head.1)

abbrev pub malformed : ℕ → List ℕ
malformed line = codes "malformed " ++ (decimal line ++ newline)

-- what is written for a text
abbrev pub output_of : Result (List ℕ) ℕ → List ℕ
output_of (Ok lines) = lines
output_of (Err line) = malformed line
