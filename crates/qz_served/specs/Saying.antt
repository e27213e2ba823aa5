-- What is said of links that were served.
use Rattle.std.specs.Prelude.{◌≡◌, ◌⊎◌, ℕ, true, false, List, [], ◌∷◌, ◌++◌, Option, Some, None, codes, decimal}
use Rattle.std.specs.Io.KnownBytes.{Appends, Keeps}
use Rattle.qz_outside.specs.Causes.{HasRisen}
use Rattle.qz_outside.specs.Sources.{AppendsFront}
use Rattle.qz_ending.specs.declared.stop.Stop.{Stop}
use Rattle.qz_ending.specs.declared.stop.Stop.TheVariants as stop
use Rattle.qz_served.specs.declared.saying.Served.{Served}

-- so many links were taken; a line feed ends the line
abbrev pub served_line : ℕ → List ℕ
served_line taken = codes "served " ++ (decimal taken ++ 10 ∷ [])

-- what was written then; that a door failed stands before want of memory
abbrev pub SaysServed : Option (List ℕ) → Option (List ℕ) → ℕ → ℕ → Served → Option Stop → Type 0
SaysServed old new before now served None = Appends old new (served_line served.taken) × (served.fault ≡ false) × (served.short ≡ false)
SaysServed old new before now served (Some stop.SinkFault) = AppendsFront old new (served_line served.taken) × HasRisen before now
SaysServed old new before now served (Some stop.DoorFault) = Appends old new (served_line served.taken) × (served.fault ≡ true)
SaysServed old new before now served (Some stop.Memory) =
    Keeps old new ⊎ (Appends old new (served_line served.taken) × (served.fault ≡ false) × (served.short ≡ true))
SaysServed old new before now served (Some s) = ⊥
