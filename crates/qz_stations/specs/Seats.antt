-- A seat as one sees who asks for its passes and its notes.
use Rattle.std.specs.Prelude.{List, Option, Some, None}
use Rattle.qz_gather.specs.declared.note.Note.{Note}
use Rattle.qz_stations.specs.declared.seat.Seat.{Seat}
use Rattle.qz_stations.specs.declared.seat.Seat.TheVariants as seat
use Rattle.qz_visit.specs.Visits.{Visitor}

abbrev pub visit_of : {K W : Type 0} → Seat K W → Visitor
visit_of (seat.Visit v) = v
visit_of (seat.Clerk c) = c.visit

-- where they are taken
abbrev pub notes_of : {K W : Type 0} → Seat K W → Option (List Note)
notes_of (seat.Visit v) = None
notes_of (seat.Clerk c) = Some c.notes
