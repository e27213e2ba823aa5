-- The quiz of each attempt of a list.
use Rattle.std.specs.BTreeMap.{get}
use Rattle.std.specs.declared.cmp.Ordering.{Ordering}
use Rattle.std.specs.Ordering.{nat_cmp, ordering_then}
use Rattle.std.specs.Prelude.{◌≡◌, ℕ, List}
use Rattle.qz_grading.specs.declared.refusal.AttemptId.{AttemptId}
use Rattle.qz_terms.specs.declared.record.Record.{Record}
use Rattle.qz_terms.specs.History as history
use Rattle.qz_agreement.specs.declared.quizzes.Quizzes.{Quizzes}

-- by user, then by number
abbrev pub by_number : ℕ × ℕ → ℕ × ℕ → Ordering
by_number x y = ordering_then (nat_cmp x.0 y.0) (nat_cmp x.1 y.1)

pub record AreQuizzes (m : Quizzes) (l : List Record) : Type 0 where
  pub each : (a : AttemptId) → get by_number m.quizzes (a.user, a.nth) ≡ history.quiz l a
