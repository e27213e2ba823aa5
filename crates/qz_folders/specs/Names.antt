-- The names of the files of a school's folder.
use Rattle.std.specs.Prelude.{◌≡◌, ℕ, ◌<◌, List, ◌++◌, codes}
use Rattle.qz_grading.specs.Words.{in_digits}

-- the journal of the catalogue
abbrev pub catalog_name : List ℕ
catalog_name = codes "catalog.jnl"

-- the journal of a shard, whose number has at least two digits
abbrev pub part_name : ℕ → List ℕ
part_name shard = codes "part-" ++ in_digits 2 shard ++ codes ".jnl"

-- no two journals of a school have one name
pub record AreApart : Type 0 where
  pub parts : (shard other : ℕ) → shard < 100 → other < 100 → part_name shard ≡ part_name other → shard ≡ other
  pub catalog : (shard : ℕ) → part_name shard ≡ catalog_name → ⊥
