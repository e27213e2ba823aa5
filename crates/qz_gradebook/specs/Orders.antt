-- The order in which finished attempts are kept.
use Rattle.std.specs.List.{AllPairs}
use Rattle.std.specs.Prelude.{◌≡◌, ℕ, ◌<◌, ◌≤◌, ◌^◌, Bool, true, false, ◌&&◌, ◌||◌, ◌==◌, nat_lt, List, length, take, drop, All, IfSome}
use Rattle.qz_gradebook.specs.declared.finished.Finished.{Finished}
use Rattle.qz_terms.specs.Rows.{IsTotal}
use Rattle.qz_gradebook.specs.Totals.{comes_before}

-- an attempt that is numbered from 1, with a total in range
pub record IsFinished (f : Finished) : Type 0 where
  pub number : 0 < f.attempt.nth
  pub width : f.attempt.nth < 2 ^ 32
  pub total : IfSome f.total IsTotal

-- each comes before those behind it, so that each stands once
pub record IsGradebook (fs : List Finished) : Type 0 where
  pub order : AllPairs (λ a b. comes_before a b ≡ true) fs
  pub each : All IsFinished fs

-- where an attempt stands or would stand: behind all that come before it
pub record IsPlace (fs : List Finished) (new : Finished) (i : ℕ) : Type 0 where
  pub inside : i ≤ length fs
  pub front : All (λ f. comes_before f new ≡ true) (take i fs)
  pub behind : All (λ f. comes_before f new ≡ false) (drop i fs)

-- it comes before all attempts of a quiz by a user
abbrev pub comes_before_user : ℕ → ℕ → Finished → Bool
comes_before_user q u f = nat_lt f.quiz q || ((f.quiz == q) && nat_lt f.attempt.user u)
