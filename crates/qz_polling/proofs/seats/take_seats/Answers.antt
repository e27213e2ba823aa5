use Rattle.std.proofs.Common.{◌+◌, ap, length, arith}
use Rattle.std.proofs.lemmas.List.{length-drop}
use Rattle.qz_polling.proofs.Seating.{given_right, seats_left, takes_first, takes_next, unturned_first, unturned_next}
use Rattle.qz_polling.proofs.seats.take_seats.Goals as goal

pub loop-clock-init : goal.loop-clock-init
loop-clock-init g c = (
  takes_first _ _ _ _ _ c.requires.none c.from_vec-rest.ensures.items c.requires.own,
  omega (arith, ap length c.requires.none, ap length c.from_vec-rest.ensures.items, c.requires.room, c.args.clocks.ok),
  unturned_first _ _ c.requires.none c.requires.unturned,
)

pub new-requires : goal.new-requires
new-requires g c =
    let i = c.loop-clock.invariant in
    let left = seats_left _ _ _ _ _ _ _ i.0 in
    let more = ap length c.in-Some.ensures.items in
    let enough = c.requires.enough in
    given_right _ _ _ _ _ _ _ i.0 (omega (arith, left, more, enough)) _ _ c.in_ok-given.ensures.given

pub loop-clock-preserved : goal.loop-clock-preserved
loop-clock-preserved g c =
    let i = c.loop-clock.invariant in
    let room = i.1 in
    let left = seats_left _ _ _ _ _ _ _ i.0 in
    let more = ap length c.in-Some.ensures.items in
    let enough = c.requires.enough in
    let next = takes_next _ _ _ _ _ _ _ i.0 (omega (arith, left, more, enough)) _ _ _ _ _ c.in-Some.ensures.items c.in_ok-given.ensures.given (ap (λ v. v.passes) c.new.ensures) c.push_reserved.ensures.items in
    let now = seats_left _ _ _ _ _ _ _ next in
    let kept = c.push_reserved.ensures.capacity in
    let fresh = unturned_next _ _ _ _ _ _ i.2 c.in_ok-given.ensures.given (ap (λ v. v.passes) c.new.ensures) c.push_reserved.ensures.items in
    (next, omega (arith, left, now, room, kept), fresh)

pub returns-clause-all : goal.returns-clause-all
returns-clause-all g c =
    let left = seats_left _ _ _ _ _ _ _ c.loop-clock.invariant.0 in
    omega (arith, left, ap length c.in_default.ensures.items, ap length c.in_default.ensures.rest, length-drop 1 c.loop-clock.rest.items)
