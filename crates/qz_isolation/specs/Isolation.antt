-- What one student is told, and what it depends on.
use Rattle.std.specs.List.{list_all}
use Rattle.std.specs.Prelude.{◌≡◌, ℕ, Bool, true, not, ◌||◌, List, ◌++◌, ◌==◌, Some}
use Rattle.qz_grading.specs.declared.refusal.AttemptId.{AttemptId}
use Rattle.qz_terms.specs.declared.ask.Ask.{Ask}
use Rattle.qz_terms.specs.declared.people.User.{User}
use Rattle.qz_terms.specs.declared.plan.Bound.{Bound}
use Rattle.qz_terms.specs.declared.plan.Plan.{Plan}
use Rattle.qz_terms.specs.declared.record.Record.{Record}
use Rattle.qz_terms.specs.Answer.{answer_here, list_after}
use Rattle.qz_terms.specs.Cause.{is_student}
use Rattle.qz_terms.specs.History as history
use Rattle.qz_terms.specs.Laws.{own_records}
use Rattle.qz_terms.specs.Legal.{IsLegal}

-- what a user asked is about the user's own attempts
abbrev pub asks_of_own : ℕ → Record → Bool
asks_of_own u r = not (r.caller == u) || history.is_owned u r

-- Two legal lists of a shard, in which a user asked only of own attempts, have the same records of this user but for what was learned,
-- and give the same question for each version that was ever bound in an attempt of this user.
pub record AreAlike (index count u : ℕ) (h g : List Record) : Type 0 where
  pub legal : IsLegal index count h
  pub other_legal : IsLegal index count g
  pub asked : list_all (asks_of_own u) h ≡ true
  pub other_asked : list_all (asks_of_own u) g ≡ true
  pub own : own_records u h ≡ own_records u g
  pub versions : (l rest : List Record) (a : AttemptId) (k : ℕ) (b : Bound) → h ≡ l ++ rest → a.user ≡ u → history.bound l a k ≡ Some b → history.version h b.entry b.version ≡ history.version g b.entry b.version

-- What a student is answered depends on nobody else: whatever the records of others are, and whichever request it is, refused, kept,
-- put or a look, the whole reply is the same. The student's own records afterwards are the same but for what was learned.
pub record DependsOnNobodyElse : Type 0 where
  pub reply : (index count now : ℕ) (h g : List Record) (user : User) (plan : Plan) (ask : Ask) → is_student user ≡ true → AreAlike index count user.number h g
      → answer_here h now user plan ask ≡ answer_here g now user plan ask
  pub own : (index count now : ℕ) (h g : List Record) (user : User) (plan : Plan) (ask : Ask) → is_student user ≡ true → AreAlike index count user.number h g
      → own_records user.number (list_after h now user plan ask) ≡ own_records user.number (list_after g now user plan ask)
