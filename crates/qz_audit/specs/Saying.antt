-- What is said of a school that was served by clerks.
use Rattle.std.specs.Prelude.{◌≡◌, ◌⊎◌, ℕ, Bool, true, false, ◌||◌, nat_lt, List, [], ◌∷◌, ◌++◌, Option, Some, None, Result, Ok, Err, MatchResult, codes, decimal}
use Rattle.std.specs.Io.KnownBytes.{Appends, Keeps}
use Rattle.qz_ending.specs.declared.stop.Stop.{Stop}
use Rattle.qz_ending.specs.declared.stop.Stop.TheVariants as stop
use Rattle.qz_gathering.specs.declared.gathering.GatherFault.{GatherFault}
use Rattle.qz_gathering.specs.declared.gathering.GatherFault.TheVariants as fault
use Rattle.qz_outside.specs.Causes.{HasRisen}
use Rattle.qz_outside.specs.Sources.{AppendsFront}
use Rattle.qz_served.specs.Saying.{served_line}
use Rattle.qz_serving.specs.Saying.{is_last_short}
use Rattle.qz_audit.specs.declared.auditing.AuditEnd.{AuditEnd}

-- so many new records, for each of which a note speaks; a line feed ends a line
abbrev pub gathered_line : ℕ → List ℕ
gathered_line count = codes "gathered " ++ (decimal count ++ 10 ∷ [])

-- none speaks for this place of the list of this shard, or of the catalogue
abbrev pub gap_line : Option ℕ → ℕ → List ℕ
gap_line None place = codes "gap catalog " ++ (decimal place ++ 10 ∷ [])
gap_line (Some shard) place = codes "gap " ++ (decimal shard ++ (codes " " ++ (decimal place ++ 10 ∷ [])))

abbrev pub found_line : Result ℕ GatherFault → List ℕ
found_line (Ok count) = gathered_line count
found_line (Err (fault.Gap list place)) = gap_line list place
found_line (Err fault.Memory) = []

abbrev pub audited_text : AuditEnd → List ℕ
audited_text end = served_line end.doors.taken ++ found_line end.gathered

abbrev pub has_gap : Result ℕ GatherFault → Bool
has_gap (Err (fault.Gap list place)) = true
has_gap (Err fault.Memory) = false
has_gap (Ok count) = false

-- memory was wanting to look for the records
abbrev pub is_wanting : Result ℕ GatherFault → Bool
is_wanting (Err fault.Memory) = true
is_wanting (Err (fault.Gap list place)) = false
is_wanting (Ok count) = false

-- whether memory was wanting for a link, for the notes, or at last for a worker that regrades
abbrev pub is_short : AuditEnd → Bool
is_short end = nat_lt 0 end.doors.short || (is_last_short end.last || is_wanting end.gathered)

-- What was written then. A gap stands before a door that failed, and that before want of memory.
abbrev pub SaysAudited : Option (List ℕ) → Option (List ℕ) → ℕ → ℕ → AuditEnd → Option Stop → Type 0
SaysAudited old new before now end None = Appends old new (audited_text end) × (has_gap end.gathered ≡ false) × (end.doors.fault ≡ false) × (is_short end ≡ false)
SaysAudited old new before now end (Some stop.SinkFault) = AppendsFront old new (audited_text end) × HasRisen before now
SaysAudited old new before now end (Some stop.Gap) = Appends old new (audited_text end) × (has_gap end.gathered ≡ true)
SaysAudited old new before now end (Some stop.DoorFault) = Appends old new (audited_text end) × (has_gap end.gathered ≡ false) × (end.doors.fault ≡ true)
SaysAudited old new before now end (Some stop.Memory) =
    Keeps old new ⊎ (Appends old new (audited_text end) × (has_gap end.gathered ≡ false) × (end.doors.fault ≡ false) × (is_short end ≡ true))
SaysAudited old new before now end (Some s) = ⊥

-- nothing is written of doors that weren't served, since memory was wanting
abbrev pub SaysOf : {E : Type 0} → Option (List ℕ) → Option (List ℕ) → ℕ → ℕ → Result AuditEnd E → Option Stop → Type 0
SaysOf old new before now audited s =
    MatchResult audited (λ end. SaysAudited old new before now end s) (λ _. (s ≡ Some stop.Memory) × Keeps old new)
