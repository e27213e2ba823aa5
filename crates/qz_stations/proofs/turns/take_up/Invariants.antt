use Rattle.std.proofs.Common.{◌≡◌, ◌+◌, ◌≤◌, length}
use Rattle.std.specs.Prelude.{vec_len, vec_capacity}
use Rattle.qz_visit.specs.Visits.{seen_in}
use Rattle.qz_stations.specs.Posts.{AreUnnoted, NoneTurned, TakesUp}
use Rattle.qz_stations.proofs.turns.take_up.Given as goal

abbrev pub invariant-loop : goal.invariant-loop
invariant-loop g l = TakesUp l.school (seen_in l.fn.passes.seats) l.fn.passes.seats.records.numbers l.fn.places.items l.places.items l.passes.seats l.stations.items
    × (length l.stations.items ≡ l.counter)
    × (l.count ≤ vec_capacity l.stations)
    × (length l.stations.items + vec_len l.places ≤ vec_capacity l.places)
    × AreUnnoted l.noting l.stations.items
    × NoneTurned l.passes.seats l.stations.items
