-- The totals of finished attempts: what is put, and what a row's grade is over.
use Rattle.std.specs.List.{list_any}
use Rattle.std.specs.Prelude.{ℕ, Bool, not, ◌&&◌, ◌||◌, ◌==◌, nat_lt, List, ◌∷◌, filter, map, Option, option_and_then, ℤ}
use Rattle.qz_grading.specs.declared.refusal.AttemptId.{AttemptId}
use Rattle.qz_terms.specs.History.{attempt_before, same_attempt}
use Rattle.qz_terms.specs.Lists.{first_of, in_order}
pub use Rattle.qz_terms.specs.Rows.{IsTotal}
use Rattle.qz_gradebook.specs.declared.finished.Finished.{Finished}

-- what the rows are seen as: finished attempts, and the room for so many more
pub record Gradebook : Type 0 where
  pub finished : List Finished
  pub room : ℕ

abbrev pub total : Finished → Option ℤ
total f = f.total

-- ---- what is put

-- in order of quiz, user and number
abbrev pub comes_before : Finished → Finished → Bool
comes_before a b = nat_lt a.quiz b.quiz || ((a.quiz == b.quiz) && attempt_before a.attempt b.attempt)

-- it is this attempt of this quiz
abbrev pub is_attempt : ℕ → AttemptId → Finished → Bool
is_attempt q a f = (f.quiz == q) && same_attempt f.attempt a

abbrev pub is_there : ℕ → AttemptId → List Finished → Bool
is_there q a fs = list_any (is_attempt q a) fs

-- with the total of an attempt put: all others stay, and the attempt stands among them once
abbrev pub with_total : ℕ → AttemptId → Option ℤ → List Finished → List Finished
with_total q a t fs = in_order comes_before (record { quiz = q; attempt = a; total = t } ∷ filter (λ f. not (is_attempt q a f)) fs)

-- ---- what is read

-- the total of an attempt of a quiz, if it is there and has one
abbrev pub total_at : ℕ → AttemptId → List Finished → Option ℤ
total_at q a fs = option_and_then total (first_of (filter (is_attempt q a) fs))

abbrev pub is_by : ℕ → ℕ → Finished → Bool
is_by q u f = (f.quiz == q) && (f.attempt.user == u)

abbrev pub numbered_before : Finished → Finished → Bool
numbered_before a b = nat_lt a.attempt.nth b.attempt.nth

-- the totals of a user's finished attempts of a quiz, in order of number
abbrev pub totals_of : List Finished → ℕ → ℕ → List (Option ℤ)
totals_of fs q u = map total (in_order numbered_before (filter (is_by q u) fs))
