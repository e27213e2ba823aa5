use Rattle.std.proofs.Common.{◌∙◌, ◌++◌, length, length-append, map, ap, subst, arith}
use Rattle.std.proofs.lemmas.List.{length-map}
use Rattle.qz_stations.specs.Posts.{AreUnnoted}
use Rattle.qz_stations.specs.Stations.{notes_at}
use Rattle.qz_stations.proofs.Books.{books_both, books_left, no_books, notes_beside}
use Rattle.qz_stations.proofs.Serving.{back_served, back_taken, counted_door, first_served, gone_on_each, manned_served, manned_taken, none_regraded, written}
use Rattle.qz_visit.proofs.Seeing.{all_self}
use Rattle.qz_stations.proofs.serve.serve_first.Goals as goal

pub returns-in_default-clause-kept : goal.returns-in_default-clause-kept
returns-in_default-clause-kept g c = record { each = λ n there. there }

pub returns-in_default-clause-follows : goal.returns-in_default-clause-follows
returns-in_default-clause-follows g c = all_self _

pub returns-in_default-clause-gone_on : goal.returns-in_default-clause-gone_on
returns-in_default-clause-gone_on g c = none_regraded _

pub returns-in-Err-clause-gone_on : goal.returns-in-Err-clause-gone_on
returns-in-Err-clause-gone_on g c = none_regraded _

pub returns-clause-gone_on : goal.returns-clause-gone_on
returns-clause-gone_on g c = gone_on_each _ _ _ c.serve_all.ensures.regraded

pub leave-requires-clause-manned : goal.leave-requires-clause-manned
leave-requires-clause-manned g c = manned_taken _ _ _ _ _ _ _ c.take_up.ensures.taken (omega arith)

pub returns-in-Err-clause-kept : goal.returns-in-Err-clause-kept
returns-in-Err-clause-kept g c = back_taken _ _ _ _ _ _ _ c.take_up.ensures.taken _ c.leave.ensures.passes

pub leave-end-requires-clause-manned : goal.leave-end-requires-clause-manned
leave-end-requires-clause-manned g c =
    let served = rw c.deref_mut.ensures.value at c.serve_all.ensures.served in
    let all = written c.take_up.new.stations.len c.serve_all.new.stations c.take_up.new.stations.items served.count (let ok = c.take_up.new.stations.ok in omega (arith, ok)) in
    rw all (manned_served _ _ _ _ _ _ _ c.take_up.ensures.taken _ _ served (omega arith) (λ p q is. is.goes_on) (λ p q fresh is. counted_door _ _ _ _ _ _ _ _ (omega arith) is.going) _ c.take_up.ensures.taken.own)

pub returns-clause-kept : goal.returns-clause-kept
returns-clause-kept g c =
    let served = rw c.deref_mut.ensures.value at c.serve_all.ensures.served in
    let all = written c.take_up.new.stations.len c.serve_all.new.stations c.take_up.new.stations.items served.count (let ok = c.take_up.new.stations.ok in omega (arith, ok)) in
    back_served _ _ _ _ _ _ _ c.take_up.ensures.taken _ _ served (λ p q is. is.goes_on) _ _ (record { each = λ n there. there }) (rw all at c.leave-end.ensures.passes)

pub returns-clause-served : goal.returns-clause-served
returns-clause-served g c =
    let served = rw c.deref_mut.ensures.value at c.serve_all.ensures.served in
    let all = written c.take_up.new.stations.len c.serve_all.new.stations c.take_up.new.stations.items served.count (let ok = c.take_up.new.stations.ok in omega (arith, ok)) in
    first_served _ _ _ _ _ _ _ _ c.take_up.ensures.taken c.take_up.ensures.unturned _ _ served c.leave-end.new.passes.seats _ _ (c.in_default-take_up.ensures.all ∙ c.from-count.ensures) (rw all at c.leave-end.ensures.places) (rw all at c.leave-end.ensures.end) (rw all at c.leave-end.ensures.passes) c.requires.unturned (rw all at c.leave-end.ensures.put)

pub returns-in_default-clause-books : goal.returns-in_default-clause-books
returns-in_default-clause-books g c = no_books _ _ c.requires.none

pub returns-in-Err-clause-books : goal.returns-in-Err-clause-books
returns-in-Err-clause-books g c = books_both _ _ _ _ c.leave.ensures.books (no_books _ _ c.requires.none) (books_left _ _ _ _ c.leave.ensures.passes c.leave.ensures.true_of)

pub returns-clause-books : goal.returns-clause-books
returns-clause-books g c = books_both _ _ _ _ c.leave-end.ensures.books (no_books _ _ c.requires.none) (books_left _ _ _ _ c.leave-end.ensures.passes c.leave-end.ensures.true_of)

pub returns-in-Err-clause-few : goal.returns-in-Err-clause-few
returns-in-Err-clause-few g c =
    let books = ap (λ l. length l) c.leave.ensures.books in
    let both = length-append c.args.books.now.items (map notes_at c.take_up.new.stations.items) in
    let none = ap (λ l. length l) c.requires.none in
    let many = length-map c.take_up.new.stations.items notes_at in
    let few = c.take_up.ensures.few in
    let count = c.from-count.ensures in
    omega (arith, books, both, none, many, few, count)

pub returns-clause-noted : goal.returns-clause-noted
returns-clause-noted g c is =
    let served = rw c.deref_mut.ensures.value at c.serve_all.ensures.served in
    let all = written c.take_up.new.stations.len c.serve_all.new.stations c.take_up.new.stations.items served.count (let ok = c.take_up.new.stations.ok in omega (arith, ok)) in
    let fresh = subst (λ n. AreUnnoted n c.take_up.new.stations.items) is c.take_up.ensures.unnoted in
    let books = (rw all at c.leave-end.ensures.books) ∙ ap (λ b. b ++ map notes_at c.serve_all.new.stations) c.requires.none in
    notes_beside _ _ _ _ _ _ _ _ c.take_up.ensures.taken _ _ served fresh _ c.leave-end.new.passes.seats _ _ _ (c.in_default-take_up.ensures.all ∙ c.from-count.ensures) (rw all at c.leave-end.ensures.places) (rw all at c.leave-end.ensures.end) (rw all at c.leave-end.ensures.passes) books

pub returns-clause-many : goal.returns-clause-many
returns-clause-many g c =
    let served = rw c.deref_mut.ensures.value at c.serve_all.ensures.served in
    let all = written c.take_up.new.stations.len c.serve_all.new.stations c.take_up.new.stations.items served.count (let ok = c.take_up.new.stations.ok in omega (arith, ok)) in
    let books = ap (λ l. length l) ((rw all at c.leave-end.ensures.books) ∙ ap (λ b. b ++ map notes_at c.serve_all.new.stations) c.requires.none) in
    let many = length-map c.serve_all.new.stations notes_at in
    let long = served.count in
    let whole = c.in_default-take_up.ensures.all in
    let count = c.from-count.ensures in
    omega (arith, books, many, long, whole, count)

pub returns-clause-few : goal.returns-clause-few
returns-clause-few g c = let many = returns-clause-many g c in omega (arith, many)
