-- What a reader of words answers.
use Rattle.std.specs.Prelude.{◌≡◌, ℕ, ◌==◌, if◌then◌else◌, List, length, Option, Some, None, Result, Ok, Err}
use Rattle.qz_command.specs.declared.fault.WordsFault.{WordsFault}
use Rattle.qz_command.specs.declared.fault.WordsFault.TheVariants as fault

-- the words hold nothing of what was to be read, or memory was wanting
abbrev pub Lacks : {Y : Type 0} → WordsFault → Option Y → Type 0
Lacks fault.BadWords reading = reading ≡ None
Lacks fault.Memory reading = Unit {0}

abbrev pub Reads : {X Y : Type 0} → (X → Y) → Result X WordsFault → Option Y → Type 0
Reads view (Ok x) reading = reading ≡ Some (view x)
Reads view (Err f) reading = Lacks f reading

-- so many words
abbrev pub so_many : ℕ → List (List ℕ) → Option (List (List ℕ))
so_many n words = if length words == n then Some words else None
