use Rattle.std.proofs.Common.{◌∙◌, length, length-append, map, ap, subst, arith}
use Rattle.std.proofs.lemmas.List.{length-map}
use Rattle.qz_stations.specs.Posts.{AreUnnoted}
use Rattle.qz_stations.specs.Stations.{notes_at}
use Rattle.qz_stations.proofs.Books.{books_both, books_left, books_on, noted_kept, noted_longer, notes_works}
use Rattle.qz_visit.specs.Seeing.{FollowAll}
use Rattle.qz_visit.specs.Visits.{seen_in}
use Rattle.qz_stations.proofs.Serving.{back_served, back_taken, counted_regraded, crew_served, every_among, goes_regraded, manned_served, manned_taken, written}
use Rattle.qz_visit.proofs.Seeing.{all_on, all_self}
use Rattle.qz_stations.proofs.serve.serve_beside.Goals as goal

pub returns-in_default-clause-follows : goal.returns-in_default-clause-follows
returns-in_default-clause-follows g c = all_self _

pub returns-in_default-with_capacity-clause-follows : goal.returns-in_default-with_capacity-clause-follows
returns-in_default-with_capacity-clause-follows g c = all_self _

pub serve_first-served-requires-clause-unturned : goal.serve_first-served-requires-clause-unturned
serve_first-served-requires-clause-unturned g c κs within = c.take_up.ensures.unturned.own

pub leave-requires-clause-manned : goal.leave-requires-clause-manned
leave-requires-clause-manned g c = manned_taken _ _ _ _ _ _ _ c.take_up.ensures.taken (omega arith)

pub returns-in-Err-clause-every : goal.returns-in-Err-clause-every
returns-in-Err-clause-every g c = record {
  own = c.leave.ensures.passes.own;
  every = every_among _ _ _ c.requires.every.every (back_taken _ _ _ _ _ _ _ c.take_up.ensures.taken _ c.leave.ensures.passes);
}

pub leave-requires-2-clause-manned : goal.leave-requires-2-clause-manned
leave-requires-2-clause-manned g c =
    let did = rw c.deref_mut.ensures.value at c.serve_first-served.ensures.gone_on in
    let all = written c.take_up.new.stations.len c.serve_first-served.new.regraders c.take_up.new.stations.items did.count (let ok = c.take_up.new.stations.ok in omega (arith, ok)) in
    rw all (manned_served _ _ _ _ _ _ _ c.take_up.ensures.taken _ _ did (omega arith) goes_regraded counted_regraded _ c.serve_first-served.ensures.own)

pub returns-in-Ok-served-clause-every : goal.returns-in-Ok-served-clause-every
returns-in-Ok-served-clause-every g c =
    let did = rw c.deref_mut.ensures.value at c.serve_first-served.ensures.gone_on in
    let all = written c.take_up.new.stations.len c.serve_first-served.new.regraders c.take_up.new.stations.items did.count (let ok = c.take_up.new.stations.ok in omega (arith, ok)) in
    record {
      own = c.leave-2.ensures.passes.own;
      every = every_among _ _ _ c.requires.every.every (back_served _ _ _ _ _ _ _ c.take_up.ensures.taken _ _ did goes_regraded _ _ c.serve_first-served.ensures.kept (rw all at c.leave-2.ensures.passes));
    }

pub returns-in-Ok-served-clause-follows : goal.returns-in-Ok-served-clause-follows
returns-in-Ok-served-clause-follows g c =
    let seen = c.take_up.ensures.taken.seen in
    all_on _ _ _ (subst (λ t. FollowAll t (seen_in c.serve_first-served.new.passes.seats)) seen c.serve_first-served.ensures.follows) c.leave-2.ensures.passes.follows

pub returns-clause-every : goal.returns-clause-every
returns-clause-every g c =
    let did = rw c.deref_mut.ensures.value at c.serve_first-served.ensures.gone_on in
    let all = written c.take_up.new.stations.len c.serve_first-served.new.regraders c.take_up.new.stations.items did.count (let ok = c.take_up.new.stations.ok in omega (arith, ok)) in
    record {
      own = c.leave-2.ensures.passes.own;
      every = every_among _ _ _ c.requires.every.every (back_served _ _ _ _ _ _ _ c.take_up.ensures.taken _ _ did goes_regraded _ _ c.serve_first-served.ensures.kept (rw all at c.leave-2.ensures.passes));
    }

pub returns-clause-follows : goal.returns-clause-follows
returns-clause-follows g c =
    let seen = c.take_up.ensures.taken.seen in
    all_on _ _ _ (subst (λ t. FollowAll t (seen_in c.serve_first-served.new.passes.seats)) seen c.serve_first-served.ensures.follows) c.leave-2.ensures.passes.follows

pub returns-in-Ok-served-clause-served : goal.returns-in-Ok-served-clause-served
returns-in-Ok-served-clause-served g c =
    let did = rw (c.deref_mut.ensures.value, c.in-Ok-served.is) at c.serve_first-served.ensures.regraded in
    let all = written c.take_up.new.stations.len c.serve_first-served.new.regraders c.take_up.new.stations.items did.count (let ok = c.take_up.new.stations.ok in omega (arith, ok)) in
    let first = rw c.in-Ok-served.is at c.serve_first-served.ensures.served in
    crew_served _ _ _ _ _ _ _ _ _ _ _ _ _ _ _ c.in-Ok-served.end c.take_up.ensures.taken c.take_up.ensures.unturned c.requires.unturned did (c.in_default-take_up.ensures.all ∙ c.from-count.ensures) (rw all at c.leave-2.ensures.passes) (rw all at c.leave-2.ensures.put) first

pub returns-in-Ok-served-clause-noted : goal.returns-in-Ok-served-clause-noted
returns-in-Ok-served-clause-noted g c is =
    let so = (rw (c.take_up.ensures.taken.seen, c.in-Ok-served.is) at c.serve_first-served.ensures.noted) is in
    let many = rw c.in-Ok-served.is at c.serve_first-served.ensures.many in
    noted_longer _ _ _ _ _ _ c.in-Ok-served.end _ _ _ many c.leave-2.ensures.books (noted_kept _ _ _ _ _ _ _ c.in-Ok-served.end _ (λ t on. all_on _ _ _ on c.leave-2.ensures.passes.follows) so)

pub returns-in-Ok-served-clause-worked : goal.returns-in-Ok-served-clause-worked
returns-in-Ok-served-clause-worked g c is =
    let did = rw (c.deref_mut.ensures.value, c.in-Ok-served.is) at c.serve_first-served.ensures.regraded in
    let all = written c.take_up.new.stations.len c.serve_first-served.new.regraders c.take_up.new.stations.items did.count (let ok = c.take_up.new.stations.ok in omega (arith, ok)) in
    let fresh = subst (λ n. AreUnnoted n c.take_up.new.stations.items) is c.take_up.ensures.unnoted in
    let many = rw c.in-Ok-served.is at c.serve_first-served.ensures.many in
    notes_works _ _ _ _ _ _ _ _ _ _ c.take_up.ensures.taken did fresh _ _ _ _ _ (c.in_default-take_up.ensures.all ∙ c.from-count.ensures) (rw all at c.leave-2.ensures.passes) many (rw all at c.leave-2.ensures.books)

pub returns-in-Ok-served-clause-books : goal.returns-in-Ok-served-clause-books
returns-in-Ok-served-clause-books g c =
    books_both _ _ _ _ c.leave-2.ensures.books (books_on _ _ _ c.leave-2.ensures.passes.follows c.serve_first-served.ensures.books) (books_left _ _ _ _ c.leave-2.ensures.passes c.leave-2.ensures.true_of)

pub returns-in-Ok-served-clause-many : goal.returns-in-Ok-served-clause-many
returns-in-Ok-served-clause-many g c =
    let did = rw c.deref_mut.ensures.value at c.serve_first-served.ensures.gone_on in
    let all = written c.take_up.new.stations.len c.serve_first-served.new.regraders c.take_up.new.stations.items did.count (let ok = c.take_up.new.stations.ok in omega (arith, ok)) in
    let books = ap (λ l. length l) (rw all at c.leave-2.ensures.books) in
    let both = length-append c.serve_first-served.new.books.items (map notes_at c.serve_first-served.new.regraders) in
    let first = rw c.in-Ok-served.is at c.serve_first-served.ensures.many in
    let many = length-map c.serve_first-served.new.regraders notes_at in
    let long = did.count in
    let whole = c.in_default-take_up.ensures.all in
    let count = c.from-count.ensures in
    omega (arith, books, both, first, many, long, whole, count)
