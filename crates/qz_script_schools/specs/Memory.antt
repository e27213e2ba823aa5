-- A script over the school in memory: a catalogue and one shard, just founded.
use Rattle.std.specs.Prelude.{ℕ, List, Option, codes}
use Rattle.qz_ending.specs.declared.stop.Stop.{Stop}
use Rattle.qz_ending.specs.Endings.{Outside}
use Rattle.qz_script.specs.Retries.{Seen}
use Rattle.qz_script.specs.Scripts.{ServeEnds}
use Rattle.qz_solo.specs.Memory.{founded_lists}
use Rattle.qz_terms.specs.Serial.{Lists}

-- Before the first line: founded with one shard and this token of the manager.
abbrev pub first_lists : Lists
first_lists = founded_lists 1 (codes "root")

-- what is seen of a school in memory: no keeper of its lists fails
abbrev pub in_memory : Lists → Seen
in_memory lists = record { lists = lists; faults = 0 }

-- it ends so over a school in memory that had these lists
pub record ScriptEnds (limit : ℕ) (lists : Lists) (old new : Outside) (s : Option Stop) : Type 0 where
  pub after : Lists
  pub ends : ServeEnds limit (in_memory lists) (in_memory after) old new s
