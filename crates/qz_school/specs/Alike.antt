-- What makes lists alike for a student in a school.
use Rattle.std.specs.List.{list_all}
use Rattle.std.specs.Prelude.{◌≡◌, ℕ, true, List}
use Rattle.qz_terms.specs.declared.record.Record.{Record}
use Rattle.qz_terms.specs.Laws.{own_records}
use Rattle.qz_terms.specs.Legal.{AllAgree, IsLegal}
use Rattle.qz_isolation.specs.Isolation.{AreAlike, asks_of_own}

-- A catalogue has one question for each version. So two legal lists of a shard that agree with it are alike for a user who asked only of
-- own attempts, once they have the same records of this user but for what was learned.
pub record AlikeInASchool : Type 0 where
  pub alike : (c : List Record) (index count u : ℕ) (h g : List Record) → IsLegal index count h → IsLegal index count g → AllAgree c h → AllAgree c g
      → list_all (asks_of_own u) h ≡ true → list_all (asks_of_own u) g ≡ true → own_records u h ≡ own_records u g
      → AreAlike index count u h g
