-- Stores that tell what they hold.
use Rattle.std.specs.Prelude.{false, IsTrue, refl}
use Rattle.sqlite_trees.specs.declared.memory.MemStore.{MemStore}
use Rattle.sqlite_trees.specs.Memory.{memory_view}
use Rattle.sqlite_trees.specs.View.{View, IsClean, doubt}

-- nothing but the calls of its owner changes what it shows, and no fault shuts it
pub record IsTold (v : View) : Type 0 where
  pub clean : IsClean v
  pub is_open : IsTrue v.is_open

pub told_in_memory : (s : MemStore) → IsTold (memory_view s)
unfolding doubt
told_in_memory s = record { clean = refl; is_open = refl }

pub never_told : {v : View} → IsTrue false → IsTold v
never_told none = absurd cc
