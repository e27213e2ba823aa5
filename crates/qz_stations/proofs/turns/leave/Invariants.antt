use Rattle.std.proofs.Common.{◌≡◌, ◌+◌, ◌≤◌, length}
use Rattle.std.specs.Prelude.{vec_len, vec_capacity}
use Rattle.qz_stations.proofs.Leaving.{LeavesOn}
use Rattle.qz_stations.proofs.Books.{ShelvesOn}
use Rattle.qz_stations.proofs.turns.leave.Given as goal

abbrev pub invariant-loop-station : goal.invariant-loop-station
invariant-loop-station g l = LeavesOn l.school l.fn.passes.seats l.passes.seats l.initial.stations.items l.stations.items l.fn.places.items l.places.items l.end
    × (length l.stations.items + vec_len l.places ≤ vec_capacity l.places)
    × ShelvesOn l.initial.stations.items l.stations.items l.fn.books.items l.books.items
    × (length l.stations.items + vec_len l.books ≤ vec_capacity l.books)
    × (vec_capacity l.fn.books ≤ vec_capacity l.books)
    × (l.behind ≡ length l.fn.books.items)
    × (l.behind ≤ vec_len l.books)
    × (l.passes.last ≡ l.fn.passes.last)

abbrev pub decreases-loop-station : goal.decreases-loop-station
decreases-loop-station g l = length l.stations.items
