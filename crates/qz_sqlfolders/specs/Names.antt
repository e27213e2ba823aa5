-- The names of the databases of a school of one shard.
use Rattle.std.specs.Prelude.{ℕ, List, codes}

-- that of the catalogue
abbrev pub catalog_name : List ℕ
catalog_name = codes "catalog.db"

-- that of the shard
abbrev pub part_name : List ℕ
part_name = codes "part-00.db"
