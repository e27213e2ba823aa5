use Rattle.std.proofs.Common.{◌<◌, ◌∷◌, [], length, length-append, map, ap, sym, ◌∙◌, arith}
use Rattle.std.proofs.lemmas.List.{length-map}
use Rattle.qz_stations.specs.Stations.{at_place}
use Rattle.qz_stations.proofs.Lists.{first_of_some}
use Rattle.qz_stations.proofs.Books.{counts_unasked, unnoted_one}
use Rattle.qz_stations.proofs.Putting.{still_unturned}
use Rattle.qz_stations.proofs.TakingUp.{next_holds, takes_one}
use Rattle.qz_visit.specs.Visits.{Visitor}
use Rattle.qz_visit.proofs.Holding.{holds_given, of_held}
use Rattle.qz_stations.proofs.turns.take_up.Goals as goal

pub new-requires : goal.new-requires
new-requires g c =
    let i = c.loop.invariant in
    let long = i.1 in
    let test = c.loop-test.true in
    let enough = c.requires.enough in
    of_held _ _ _ _ (holds_given _ _ _ _ _ _ (next_holds _ _ _ _ _ _ _ i.0 (omega (arith, long, test, enough))) c.in_ok-given.ensures.given)

pub new-requires-in-loop : goal.new-requires-in-loop
new-requires-in-loop g c = counts_unasked c.new.result _ _ (ap (λ (v : Visitor). v.passes) c.new.ensures) (ap (λ (v : Visitor). v.last) c.new.ensures) c.in_ok-given.ensures.unasked

pub loop-preserved : goal.loop-preserved
loop-preserved g c =
    let i = c.loop.invariant in
    let so = i.0 in
    let long = i.1 in
    let test = c.loop-test.true in
    let few : length c.loop.stations.items < c.args.count = omega (arith, long, test) in
    let enough_numbers = c.requires.enough in
    let now = c.loop.places.items in
    let at = c.remove-at.result in
    let whole = ap (λ l. length l) so.places in
    let both = length-append (map at_place c.loop.stations.items) now in
    let many = length-map c.loop.stations.items at_place in
    let enough = c.requires.places in
    let some : 0 < length now = omega (arith, whole, both, many, enough, few) in
    let next = first_of_some now at some c.remove-at.ensures.value ∙ ap (λ l. at ∷ l) (sym c.remove-at.ensures.by_index.2) in
    let made = c.new-in-loop.ensures in
    let visit = ap (λ p. p.visit.passes) made ∙ ap (λ v. v.passes) c.new.ensures in
    let stands = made ∙ (λ i. record { place = at; visit = (sym (ap (λ p. p.visit) made)) i; notes = (sym (ap (λ p. p.notes) made)) i; end = Rattle.qz_stations.specs.Stations.no_end }) in
    let pushed = ap (λ l. length l) c.push_reserved.ensures.items in
    let one = length-append c.loop.stations.items (c.new-in-loop.result ∷ []) in
    let room = i.2 in
    let place = i.3 in
    let kept = c.push_reserved.ensures.capacity in
    let fewer = c.remove-at.ensures.len in
    let same = c.remove-at.ensures.capacity in (
      takes_one _ _ _ _ _ _ _ so (omega (arith, few, enough_numbers)) _ _ _ _ at c.new-in-loop.result next c.in_ok-given.ensures.given stands visit c.push_reserved.ensures.items,
      omega (arith, pushed, one, long),
      omega (arith, room, kept),
      omega (arith, pushed, one, place, fewer, same),
      unnoted_one _ _ _ c.new-in-loop.result i.4 (ap (λ p. p.notes) made) c.push_reserved.ensures.items,
      still_unturned _ _ _ _ _ c.new-in-loop.result i.5 c.in_ok-given.ensures.given visit c.push_reserved.ensures.items,
    )
