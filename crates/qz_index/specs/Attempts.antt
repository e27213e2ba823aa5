-- The attempts of each quiz, by user.
use Rattle.std.specs.BTreeMap.{get}
use Rattle.std.specs.Map.{keys_of}
use Rattle.std.specs.Ordering.{nat_cmp}
use Rattle.std.specs.Prelude.{◌≡◌, ℕ, ◌<◌, Bool, true, false, ◌∷◌, ◌++◌, List, [], Some, IsSomeAnd, MatchOption, ⊤, filter, option_map, unwrap_or, vec_capacity, vec_len}
use Rattle.qz_grading.specs.declared.refusal.AttemptId.{AttemptId}
use Rattle.qz_terms.specs.declared.record.Record.{Record}
use Rattle.qz_terms.specs.History.{Start, attempts, next_attempt, started}
use Rattle.qz_index.specs.declared.attempts.Attempts.{Attempts}
use Rattle.qz_index.specs.declared.takers.Takers.{Takers}

-- ---- the attempts of one quiz

abbrev pub taken : Takers → ℕ → List AttemptId
taken takers u = unwrap_or (option_map (λ v. v.items) (get nat_cmp takers.attempts u)) []

abbrev pub has_any : List AttemptId → Bool
has_any [] = false
has_any (a ∷ attempts) = true

-- the users with an attempt
abbrev pub takers_in : Takers → List ℕ
takers_in takers = keys_of (filter (λ e. has_any e.1.items) takers.attempts.entries)

-- the user has a list, with room for one more
abbrev pub HasPlace : Takers → ℕ → Type 0
HasPlace takers u = IsSomeAnd (get nat_cmp takers.attempts u) (λ v. vec_len v < vec_capacity v)

-- ---- those of all quizzes

abbrev pub attempts_at : Attempts → ℕ → ℕ → List AttemptId
attempts_at a q u = unwrap_or (option_map (λ t. taken t u) (get nat_cmp a.quizzes q)) []

abbrev pub HasPlaceAt : Attempts → ℕ → ℕ → Type 0
HasPlaceAt a q u = IsSomeAnd (get nat_cmp a.quizzes q) (λ t. HasPlace t u)

-- room for the attempt that a record starts
abbrev pub HasPlaceFor : Attempts → Record → Type 0
HasPlaceFor a r = MatchOption (started r) ⊤ (λ s. HasPlaceAt a s.quiz s.attempt.user)

-- an attempt that a record starts is its owner's next one
pub record IsNext (h : List Record) (r : Record) : Type 0 where
  pub numbered : (s : Start) → started r ≡ Some s → s.attempt ≡ next_attempt h r.owner

-- each user's attempts are numbered in order of their records
pub record AreNumbered (h : List Record) : Type 0 where
  pub each : (l : List Record) (r : Record) (rest : List Record) → h ≡ l ++ r ∷ rest → IsNext l r

pub record AreAttempts (a : Attempts) (h : List Record) : Type 0 where
  pub each : (q u : ℕ) → attempts_at a q u ≡ attempts h q u
  pub numbered : AreNumbered h
