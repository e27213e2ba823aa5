-- What bases in memory and over folders hold in the slots of their databases.
use Rattle.std.specs.Prelude.{ℕ, Bool, true, false, List, [], Option, Some, None, refl}
use Rattle.std.specs.Coded.{Coded, code_by, coded×, coded_ℕ, coded_list, coded_option}
use Rattle.qz_disks.specs.Slots.{stands_at}
use Rattle.qz_disks.specs.declared.slots.Slot.{Slot}
use Rattle.qz_sqlkeep.specs.Keeping.{Keeping, keeping_code, kept_in}
use Rattle.sqlite.specs.Held.{state}
use Rattle.sqlite.specs.Steps.{over_memory}
use Rattle.sqlite_trees.specs.contracts.memory.MemStore as mem
use Rattle.sqlite_trees.specs.declared.memory.MemStore.{MemStore}
use Rattle.qz_sqlbases.specs.Databases.{Lists, Standing, standing_as}

-- ---- bases in memory

abbrev pub Kept : Type 0
Kept = Keeping MemStore

-- the list of a keeper in memory
abbrev pub list_of : Kept → Standing
list_of k = standing_as (kept_in true (state over_memory k.conn).now) k.doubt

-- They have a slot for each database that was handed out, in which its keeper stands while it isn't out. A database that was never handed out is empty.
abbrev pub is_taken : {T : Type 0} → Option (Option T) → Bool
is_taken None = false
is_taken (Some None) = true
is_taken (Some (Some held)) = false

abbrev pub list_in : Option (Option Kept) → Standing
list_in None = standing_as (Some []) None
list_in (Some None) = standing_as None None
list_in (Some (Some k)) = list_of k

abbrev pub memory_lists : List (Slot (Option Kept)) → Lists
memory_lists slots = record { is_out = λ at. is_taken (stands_at at slots); list = λ at. list_in (stands_at at slots) }

-- their slots, the numbers of the calls of `keeper` that are to fail, and how many calls and faults there were
pub record Cabinet : Type 0 where
  pub slots : List (Slot (Option Kept))
  pub failing : List ℕ
  pub calls : ℕ
  pub faults : ℕ

abbrev pub slot_code : {T : Type 0} → Coded T → Coded (Slot T)
slot_code {T} held =
    code_by (List ℕ × (List ℕ × T)) (coded× (coded_list coded_ℕ) (coded× (coded_list coded_ℕ) held)) (λ s. (s.folder, (s.name, s.holds)))
    (λ p. record { folder = p.0; name = p.1.0; holds = p.1.1 }) (λ _. refl)

abbrev pub cabinet_code : Coded Cabinet
cabinet_code =
    code_by (List (Slot (Option Kept)) × (List ℕ × (ℕ × ℕ))) (coded× (coded_list (slot_code (coded_option (keeping_code mem.the_row.coded)))) (coded× (coded_list coded_ℕ) (coded× coded_ℕ coded_ℕ)))
    (λ c. (c.slots, (c.failing, (c.calls, c.faults)))) (λ p. record { slots = p.0; failing = p.1.0; calls = p.1.1.0; faults = p.1.1.1 }) (λ _. refl)

-- ---- bases over folders

-- They have a slot for each database that was handed out, with the payload that was in doubt as it was given back. They tell no payloads.
abbrev pub doubt_in : Option (Option (Option (List ℕ))) → Standing
doubt_in None = standing_as None None
doubt_in (Some None) = standing_as None None
doubt_in (Some (Some doubt)) = standing_as None doubt

abbrev pub folder_lists : List (Slot (Option (Option (List ℕ)))) → Lists
folder_lists slots = record { is_out = λ at. is_taken (stands_at at slots); list = λ at. doubt_in (stands_at at slots) }

pub record Register : Type 0 where
  pub slots : List (Slot (Option (Option (List ℕ))))
  pub faults : ℕ
