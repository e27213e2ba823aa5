-- What a catalogue gives for the report of a quiz.
use Rattle.std.specs.Prelude.{◌≡◌, ℕ, List, length, map, Some, Result, MatchResult}
use Rattle.qz_catalog.specs.Keeping.{IsPolicy}
use Rattle.qz_grading.specs.declared.refusal.Refusal.{Refusal}
use Rattle.qz_terms.specs.declared.people.User.{User}
use Rattle.qz_terms.specs.declared.record.Record.{Record}
use Rattle.qz_terms.specs.Catalog.{users}
use Rattle.qz_terms.specs.Cause.{missing_quiz}
use Rattle.qz_catalog_turns.specs.declared.questions.Heading.{Heading}

-- how many records there are, how the quiz is graded, and the names of the users
pub record IsHeading (c : List Record) (quiz : ℕ) (h : Heading) : Type 0 where
  pub place : h.place ≡ length c
  pub policy : IsPolicy c quiz h.policy
  pub names : h.names ≡ map (λ (u : User). u.name) (users c)

abbrev pub TellsHeading : ℕ → List Record → Result Heading Refusal → Type 0
TellsHeading quiz c told = MatchResult told (IsHeading c quiz) (λ r. missing_quiz c quiz ≡ Some r)
