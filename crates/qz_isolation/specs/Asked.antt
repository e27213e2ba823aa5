-- Of what a student has asked.
use Rattle.std.specs.List.{list_all}
use Rattle.std.specs.Prelude.{◌≡◌, ℕ, true, not, ◌||◌, List, ◌==◌}
use Rattle.qz_terms.specs.declared.ask.Ask.{Ask}
use Rattle.qz_terms.specs.declared.people.User.{User}
use Rattle.qz_terms.specs.declared.plan.Plan.{Plan}
use Rattle.qz_terms.specs.declared.record.Record.{Record}
use Rattle.qz_terms.specs.Answer.{list_after}
use Rattle.qz_terms.specs.Cause.{is_student}
use Rattle.qz_isolation.specs.Isolation.{asks_of_own}

-- A user who asked only of own attempts goes on so, whatever another asks, and whatever this user asks as a student.
pub record StudentsAskOfOwn : Type 0 where
  pub stays : (now u : ℕ) (h : List Record) (user : User) (plan : Plan) (ask : Ask) → is_student user || not (user.number == u) ≡ true → list_all (asks_of_own u) h ≡ true
      → list_all (asks_of_own u) (list_after h now user plan ask) ≡ true
