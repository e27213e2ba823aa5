use Rattle.std.proofs.Common.{[], sym, subst}
use Rattle.sqlite.specs.Held.{state}
use Rattle.sqlite.specs.Steps.{over_memory}
use Rattle.sqlite.proofs.Callers.{memory_is_clean}
use Rattle.sqlite_trees.specs.declared.memory.MemStore.{MemStore}
use Rattle.qz_sqlkeep.specs.Keeping.{Keeping, Stands}
use Rattle.qz_sqlkeep.proofs.Keeping.{stands_as, stands_empty}
use Rattle.qz_sqlkeep.proofs.sql_keeper.SqlKeeper+MemStore.in_memory.Goals as goal

pub new-requires-clause-tables : goal.new-requires-clause-tables
new-requires-clause-tables c told = stands_as [] (state over_memory c.make_tables.new.conn) (stands_empty _ (c.in_ok-make_tables.ensures.made (memory_is_clean c.make_tables.new.conn) c.in_ok-conn.ensures.empty.2))

pub returns-clause-tables : goal.returns-clause-tables
returns-clause-tables c =
    subst (λ (k : Keeping MemStore). Stands [] (state over_memory k.conn).now) (sym c.new.ensures) (stands_empty _ (c.in_ok-make_tables.ensures.made (memory_is_clean c.make_tables.new.conn) c.in_ok-conn.ensures.empty.2))
