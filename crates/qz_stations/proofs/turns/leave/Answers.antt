use Rattle.std.proofs.Common.{◌≡◌, ◌∷◌, [], length, length-append, refl, ap, ◌∙◌, subst, arith}
use Rattle.std.specs.List.{insert}
use Rattle.std.proofs.lemmas.List.{nil_from_length}
use Rattle.qz_stations.specs.Stations.{both_ends}
use Rattle.qz_stations.proofs.Leaving.{LeavesOn, last_manned, leaves_none, leaves_one, left_passes, left_put, may_be_short, may_take, popped}
use Rattle.qz_stations.proofs.Books.{ShelvesOn, shelved, shelved_truly, shelves_none, shelves_one}
use Rattle.qz_visit.specs.Closing.{JoinsAll}
use Rattle.qz_visit.proofs.Holding.{passes_held}
use Rattle.qz_stations.proofs.turns.leave.Goals as goal

pub loop-station-init : goal.loop-station-init
loop-station-init g c =
    let is = c.len-behind.ensures in
    let ok = c.args.books.now.ok in
    (leaves_none _ _ _ _ _ c.no_end-end.ensures c.requires.manned, c.requires.room, shelves_none _ _, c.requires.shelf, omega arith, omega (arith, is, ok), omega (arith, is, ok), refl)

pub join-requires-clause-own : goal.join-requires-clause-own
join-requires-clause-own g c = passes_held _ _ _ c.loop-station.invariant.0.manned.own

pub join-requires-clause-other : goal.join-requires-clause-other
join-requires-clause-other g c =
    let so = popped _ _ _ _ _ _ _ _ _ _ c.in-Some.ensures.items c.loop-station.invariant.0 in
    rw c.into_parts-at.ensures.passes (passes_held _ _ _ (last_manned _ _ _ _ _ _ _ _ _ so).holds)

pub both_ends-end-requires-clause-taken : goal.both_ends-end-requires-clause-taken
both_ends-end-requires-clause-taken g c =
    let so = popped _ _ _ _ _ _ _ _ _ _ c.in-Some.ensures.items c.loop-station.invariant.0 in
    rw c.into_parts-at.ensures.end (may_take _ _ _ _ _ _ _ _ _ so)

pub both_ends-end-requires-clause-short : goal.both_ends-end-requires-clause-short
both_ends-end-requires-clause-short g c =
    let so = popped _ _ _ _ _ _ _ _ _ _ c.in-Some.ensures.items c.loop-station.invariant.0 in
    rw c.into_parts-at.ensures.end (may_be_short _ _ _ _ _ _ _ _ _ so)

pub loop-station-preserved : goal.loop-station-preserved
loop-station-preserved g c =
    let so = popped _ _ _ _ _ _ _ _ _ _ c.in-Some.ensures.items c.loop-station.invariant.0 in
    let end = c.loop-station.end in
    let joins = subst (λ x. JoinsAll c.loop-station.passes.seats x c.join.new.passes.seats) c.into_parts-at.ensures.passes c.join.ensures.seats in
    let sum = c.both_ends-end.ensures ∙ ap (λ e. both_ends e end) c.into_parts-at.ensures.end in
    let room = c.loop-station.invariant.1 in
    let long = ap (λ l. length l) c.in-Some.ensures.items in
    let one = length-append c.pop.new.self.items (c.in-Some.station ∷ []) in
    let more = c.in-Ok.ensures.len in
    let kept = c.in-Ok.ensures.capacity in
    let shelf = c.loop-station.invariant.3 in
    let stacked = c.in-Ok-insert.ensures.len in
    let held = c.in-Ok-insert.ensures.capacity in
    let wide = c.loop-station.invariant.4 in
    let behind = c.loop-station.invariant.5 in
    let next = c.in-Ok-insert.ensures.items ∙ ap (λ n. insert c.loop-station.books.items n c.into_parts-at.result.2) behind in (
      leaves_one _ _ _ _ _ _ _ _ _ so _ _ _ _ joins c.into_parts-at.ensures.place c.in-Ok.ensures.items sum,
      omega (arith, room, long, one, more, kept),
      shelves_one _ _ _ _ _ _ c.loop-station.invariant.2 _ _ _ c.in-Some.ensures.items c.into_parts-at.ensures.notes c.into_parts-at.ensures.passes c.into_parts-at.ensures.true_of next,
      omega (arith, shelf, long, one, stacked, held),
      omega (arith, wide, held),
      behind,
      (let low = c.loop-station.invariant.6 in omega (arith, low, stacked)),
      c.join.ensures.last ∙ c.loop-station.invariant.7,
    )

pub returns-clause-passes : goal.returns-clause-passes
returns-clause-passes g c =
    let none = c.in_default.ensures.cases in
    let none_left = none.0 in
    let empty : c.loop-station.stations.items ≡ [] = nil_from_length c.loop-station.stations.items (omega (arith, none_left)) in
    left_passes _ _ _ _ _ _ _ (subst (λ l. LeavesOn c.args.school.now c.args.passes.now.seats c.loop-station.passes.seats c.args.stations.items l c.args.places.now.items c.loop-station.places.items c.loop-station.end) empty c.loop-station.invariant.0)

pub returns-clause-put : goal.returns-clause-put
returns-clause-put g c =
    let none = c.in_default.ensures.cases in
    let none_left = none.0 in
    let empty : c.loop-station.stations.items ≡ [] = nil_from_length c.loop-station.stations.items (omega (arith, none_left)) in
    left_put _ _ _ _ _ _ _ (subst (λ l. LeavesOn c.args.school.now c.args.passes.now.seats c.loop-station.passes.seats c.args.stations.items l c.args.places.now.items c.loop-station.places.items c.loop-station.end) empty c.loop-station.invariant.0)

pub returns-clause-books : goal.returns-clause-books
returns-clause-books g c =
    let none = c.in_default.ensures.cases in
    let none_left = none.0 in
    let empty : c.loop-station.stations.items ≡ [] = nil_from_length c.loop-station.stations.items (omega (arith, none_left)) in
    shelved _ _ _ (subst (λ l. ShelvesOn c.args.stations.items l c.args.books.now.items c.loop-station.books.items) empty c.loop-station.invariant.2)

pub returns-clause-true_of : goal.returns-clause-true_of
returns-clause-true_of g c =
    let none = c.in_default.ensures.cases in
    let none_left = none.0 in
    let empty : c.loop-station.stations.items ≡ [] = nil_from_length c.loop-station.stations.items (omega (arith, none_left)) in
    shelved_truly _ c.args.books.now.items c.loop-station.books.items (subst (λ l. ShelvesOn c.args.stations.items l c.args.books.now.items c.loop-station.books.items) empty c.loop-station.invariant.2)
