use Rattle.std.proofs.Common.{arith}
use Rattle.qz_stations.proofs.Asking.{may_ask}
use Rattle.qz_stations.proofs.Putting.{puts_from}
use Rattle.qz_stations.proofs.Serving.{back_taken, every_among, manned_taken}
use Rattle.qz_visit.proofs.Seeing.{all_self}
use Rattle.qz_polling.proofs.Seating.{all_seated, back_after, few_seated, held_before, links_served, manned_after, seen_after, seen_before, sits_still, unturned_seat}
use Rattle.qz_polling.proofs.school.poll_seats.Goals as goal

pub returns-in_default-clause-follows : goal.returns-in_default-clause-follows
returns-in_default-clause-follows g c = all_self _

pub leave_seats-requires : goal.leave_seats-requires
leave_seats-requires g c = record { manned = manned_taken _ _ _ _ _ _ _ c.take_seats.ensures.seated.taken (omega (arith, few_seated _ _ _ _ _ _ _ c.take_seats.ensures.seated.taken, c.requires.few)) }

pub returns-in-Err-clause-every : goal.returns-in-Err-clause-every
returns-in-Err-clause-every g c = record {
  own = c.leave_seats.ensures.passes.own;
  every = every_among _ _ _ c.requires.every.every (back_taken _ _ _ _ _ _ _ c.take_seats.ensures.seated.taken _ c.leave_seats.ensures.passes);
}

pub serve_ready-taken-requires : goal.serve_ready-taken-requires
serve_ready-taken-requires g c = record { takes = record { each = may_ask } }

pub leave_seats-requires-2 : goal.leave_seats-requires-2
leave_seats-requires-2 g c =
    let so = c.take_seats.ensures.seated.taken in
    let sits = sits_still _ _ _ _ _ _ _ _ _ _ _ (held_before _ _ _ _ _ _ _ so) c.serve_ready-taken.ensures.serves in
    record { manned = manned_after _ _ _ _ _ _ _ so _ sits (omega (arith, c.in_default-take_seats.ensures.all, c.requires.few)) }

pub returns-clause-every : goal.returns-clause-every
returns-clause-every g c =
    let so = c.take_seats.ensures.seated.taken in
    let sits = sits_still _ _ _ _ _ _ _ _ _ _ _ (held_before _ _ _ _ _ _ _ so) c.serve_ready-taken.ensures.serves in
    record {
      own = c.leave_seats-2.ensures.passes.own;
      every = every_among _ _ _ c.requires.every.every (back_after _ _ _ _ _ _ _ so _ sits _ c.leave_seats-2.ensures.passes);
    }

pub returns-clause-served : goal.returns-clause-served
returns-clause-served g c =
    let so = c.take_seats.ensures.seated.taken in
    let sits = sits_still _ _ _ _ _ _ _ _ _ _ _ (held_before _ _ _ _ _ _ _ so) c.serve_ready-taken.ensures.serves in
    let served = links_served _ _ _ _ _ _ _ _ _ _ c.serve_ready-taken.ensures.serves in
    record {
      taken = c.serve_ready-taken.result.links;
      short = c.serve_ready-taken.result.short;
      w = c.serve_ready-taken.result.why;
      befores = c.take_seats.new.desks.items;
      afters = c.serve_ready-taken.result.desks.items;
      clocks_are = all_seated _ _ _ _ _ _ _ so c.in_default-take_seats.ensures.all;
      first = seen_before _ _ _ _ _ _ _ so;
      serves = rw c.from.ensures at served;
      end_is = c.served_of.ensures;
      unturned = unturned_seat _ _ c.take_seats.ensures.seated.unturned;
      kept = seen_after _ _ _ _ _ _ _ so _ sits _ c.leave_seats-2.ensures.passes;
      put = puts_from _ _ _ _ c.requires.unturned c.take_seats.ensures.seated.unturned.own c.leave_seats-2.ensures.put;
    }
