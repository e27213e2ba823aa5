-- The words of users, quizzes and the bank: names, roles, behaviours, settings, marks, hints and GIFT texts.
use Rattle.std.specs.List.{list_all, list_any}
use Rattle.std.specs.Prelude.{ℕ, Bool, not, ◌&&◌, ◌||◌, ◌==◌, nat_lt, nat_le, if◌then◌else◌, List, [], ◌∷◌, length, Option, Some, None, is_some, option_and_then, Result, Ok, Err, ℤ, bytes_eq, codes}
use Rattle.std.specs.Result.{result_ok}
use Rattle.qz_grading.specs.declared.limits.TheConstants.{MOST_HINT, MOST_HINTS}
use Rattle.qz_decimal.specs.Reading.{mark_in, fraction_in, grade_in}
use Rattle.qz_grading.specs.declared.outcome.Behaviour.{Behaviour}
use Rattle.qz_grading.specs.declared.outcome.Behaviour.TheVariants as behaviour
use Rattle.qz_grading.specs.declared.question.Bank.{Bank}
use Rattle.qz_grading.specs.declared.question.Item.{Item}
use Rattle.qz_grading.specs.declared.question.Question.{Question}
use Rattle.qz_terms.specs.declared.access.Handling.{Handling}
use Rattle.qz_terms.specs.declared.access.Handling.TheVariants as handling
use Rattle.qz_terms.specs.declared.access.Review.{Review}
use Rattle.qz_terms.specs.declared.access.Review.TheVariants as review
use Rattle.qz_terms.specs.declared.grades.Method.{Method}
use Rattle.qz_terms.specs.declared.grades.Method.TheVariants as method
use Rattle.qz_terms.specs.declared.people.Role.{Role}
use Rattle.qz_terms.specs.declared.people.Role.TheVariants as role
use Rattle.qz_terms.specs.declared.request.Whom.{Whom}
use Rattle.qz_terms.specs.declared.request.Whom.TheVariants as whom
use Rattle.gift_read.specs.Gift.{reading}
use Rattle.qz_wire.specs.Faults.{Fault, at_line}
use Rattle.qz_wire.specs.Numbered.{◌>>=◌}
use Rattle.qz_wire.specs.Words.{parts_at, text_of, utf8_of}

-- ---- names

-- 1 to 255 bytes without a line feed
abbrev pub is_name : List ℕ → Bool
is_name text = nat_le 1 (length text) && (nat_le (length text) 255 && not (list_any (λ c. c == 10) text))

abbrev pub name_of : List ℕ → Option (List ℕ)
name_of word = option_and_then (λ text. if is_name text then utf8_of text else None) (text_of word)

abbrev pub role_of : List ℕ → Option Role
role_of word =
    if bytes_eq word (codes "manager") then Some role.Manager
    else (if bytes_eq word (codes "teacher") then Some role.Teacher
    else (if bytes_eq word (codes "student") then Some role.Student else None))

-- a description alone is information
abbrev pub behaviour_of : List ℕ → Option Behaviour
behaviour_of word =
    if bytes_eq word (codes "deferredfeedback") then Some behaviour.Deferred
    else (if bytes_eq word (codes "immediatefeedback") then Some behaviour.Immediate
    else (if bytes_eq word (codes "interactive") then Some behaviour.Interactive
    else (if bytes_eq word (codes "adaptive") then Some behaviour.Adaptive
    else (if bytes_eq word (codes "adaptivenopenalty") then Some behaviour.AdaptiveNoPenalty
    else (if bytes_eq word (codes "deferredcbm") then Some behaviour.DeferredCbm
    else (if bytes_eq word (codes "immediatecbm") then Some behaviour.ImmediateCbm
    else (if bytes_eq word (codes "manualgraded") then Some behaviour.Manual else None)))))))

-- ---- how a quiz is taken and graded

abbrev pub handling_of : List ℕ → Option Handling
handling_of word =
    if bytes_eq word (codes "autosubmit") then Some handling.AutoSubmit
    else (if bytes_eq word (codes "graceperiod") then Some handling.GracePeriod
    else (if bytes_eq word (codes "autoabandon") then Some handling.AutoAbandon else None))

abbrev pub review_of : List ℕ → Option Review
review_of word =
    if bytes_eq word (codes "always") then Some review.Always
    else (if bytes_eq word (codes "finish") then Some review.Finish
    else (if bytes_eq word (codes "close") then Some review.Close else None))

abbrev pub whom_of : List ℕ → Option Whom
whom_of word =
    if bytes_eq word (codes "user") then Some whom.User
    else (if bytes_eq word (codes "group") then Some whom.Group else None)

abbrev pub method_of : List ℕ → Option Method
method_of word =
    if bytes_eq word (codes "highest") then Some method.Highest
    else (if bytes_eq word (codes "average") then Some method.Average
    else (if bytes_eq word (codes "first") then Some method.First
    else (if bytes_eq word (codes "last") then Some method.Last else None)))

-- ---- numbers

abbrev pub mark_of : List ℕ → Option ℤ
mark_of word = result_ok (mark_in word)

abbrev pub penalty_of : List ℕ → Option ℤ
penalty_of word = result_ok (fraction_in word)

-- the grade that a whole total has
abbrev pub quiz_grade_of : List ℕ → Option ℤ
quiz_grade_of word = result_ok (grade_in word)

-- ---- hints

-- 1 to 4,096 bytes
abbrev pub hint_of : List ℕ → Option (List ℕ)
hint_of line = if (length line == 0) || nat_lt MOST_HINT (length line) then None else utf8_of line

abbrev pub is_hint : List ℕ → Bool
is_hint line = is_some (hint_of line)

-- at most 20 lines, each of which is a hint
abbrev pub hints_on : List (List ℕ) → Option (List (List ℕ))
hints_on lines = if nat_le (length lines) MOST_HINTS && list_all is_hint lines then Some lines else None

-- one a line; the empty text has none
abbrev pub hints_in : List ℕ → Option (List (List ℕ))
hints_in [] = Some []
hints_in (c ∷ cs) = hints_on (parts_at 10 (c ∷ cs))

abbrev pub hints_of : List ℕ → Option (List (List ℕ))
hints_of word = option_and_then hints_in (text_of word)

-- ---- GIFT texts

-- the bank of a text, which has at most so many bytes
abbrev pub gift_of : List ℕ → Result Bank Fault
gift_of text = if nat_lt 8388608 (length text) then Err (record { place = 1; rule = 2 }) else at_line (reading text)

-- the one question of a bank; its category doesn't matter
abbrev pub only_question : List Item → Option Question
only_question (item ∷ []) = Some item.question
only_question items = None

abbrev pub one_question : Option Question → Result Question Fault
one_question (Some q) = Ok q
one_question None = Err (record { place = 1; rule = 12 })

abbrev pub question_of : List ℕ → Result Question Fault
question_of text = gift_of text >>= λ bank. one_question (only_question bank.items)
