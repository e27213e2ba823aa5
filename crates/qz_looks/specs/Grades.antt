-- The grades of all users at a quiz.
use Rattle.std.specs.Prelude.{ℕ, ℤ, List, Option}
use Rattle.qz_terms.specs.declared.grades.Policy.{Policy}
use Rattle.qz_terms.specs.declared.record.Record.{Record}
use Rattle.qz_terms.specs.History.{row}

-- a user with the grade at a quiz, which is none where no total is taken
abbrev pub graded : List Record → ℕ → Policy → ℕ → ℕ × Option ℤ
graded h q policy u = (u, row h q policy u)
