use Rattle.std.proofs.Common.{◌+◌, ◌≤◌, length, map}
use Rattle.std.specs.Prelude.{vec_capacity}
use Rattle.qz_polling.specs.Polling.{post_of}
use Rattle.qz_stations.specs.Posts.{NoneTurned, TakesUp}
use Rattle.qz_visit.specs.Visits.{seen_in}
use Rattle.qz_polling.proofs.seats.take_seats.Given as goal

abbrev pub invariant-loop-clock : goal.invariant-loop-clock
invariant-loop-clock g l = TakesUp l.school (seen_in l.fn.passes.seats) l.fn.passes.seats.records.numbers l.fn.clocks.items l.rest.items l.passes.seats (map post_of l.desks.items)
    × (length l.desks.items + length l.rest.items ≤ vec_capacity l.desks)
    × NoneTurned l.passes.seats (map post_of l.desks.items)

abbrev pub decreases-loop-clock : goal.decreases-loop-clock
decreases-loop-clock g l = length l.rest.items
