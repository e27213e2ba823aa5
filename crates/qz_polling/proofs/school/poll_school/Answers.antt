use Rattle.std.proofs.Common.{arith}
use Rattle.qz_stations.proofs.Putting.{grown_with, puts_all, starts_whole, unturned_opened}
use Rattle.qz_stations.proofs.Serving.{closed_every, closes_whole, match_mean, opened_every, opened_many, told_whole}
use Rattle.qz_visit.specs.Closing.{Closes, HasGrownBy}
use Rattle.qz_visit.specs.Visits.{seen_in}
use Rattle.qz_visit.proofs.Holding.{passes_held}
use Rattle.qz_visit.proofs.Seeing.{closes_from}
use Rattle.qz_polling.proofs.Seating.{visitors_kept}
use Rattle.qz_polling.proofs.school.poll_school.Goals as goal

pub poll_seats-passes-requires-clause-every : goal.poll_seats-passes-requires-clause-every
poll_seats-passes-requires-clause-every g c = opened_every _ _ _ _ _ c.in-Ok.ensures.opened c.into_parts-catalog.ensures.solo

pub poll_seats-passes-requires-clause-enough : goal.poll_seats-passes-requires-clause-enough
poll_seats-passes-requires-clause-enough g c = let many = opened_many _ _ _ _ _ c.in-Ok.ensures.opened c.into_parts-catalog.ensures.solo in omega (arith, many)

pub poll_seats-passes-requires-clause-unturned : goal.poll_seats-passes-requires-clause-unturned
poll_seats-passes-requires-clause-unturned g c = unturned_opened _ _ _ _ _ c.in-Ok.ensures.opened

pub close-catalog-requires-clause-own : goal.close-catalog-requires-clause-own
close-catalog-requires-clause-own g c = passes_held _ _ _ c.poll_seats-passes.ensures.every.own

pub close-catalog-requires-clause-every : goal.close-catalog-requires-clause-every
close-catalog-requires-clause-every g c = closed_every _ _ _ _ _ c.in-Ok.ensures.opened _ c.poll_seats-passes.ensures.every

pub returns-in-Ok-clause-closes : goal.returns-in-Ok-clause-closes
returns-in-Ok-clause-closes g c =
    let same = c.into_parts-catalog.ensures in
    let told = told_whole g.K.Keeper.faults _ _ _ c.args.solo _ _ same.catalog same.shards c.in-Ok.ensures.opened in
    let closed : Closes g.K.Keeper.faults (seen_in c.poll_seats-passes.result.0.seats) c.of.result = rw c.of.ensures c.close-catalog.ensures.closes in
    rw (← told) (closes_from _ _ _ _ c.poll_seats-passes.ensures.follows closed)

pub returns-in-Ok-clause-served : goal.returns-in-Ok-clause-served
returns-in-Ok-clause-served g c =
    let same = c.into_parts-catalog.ensures in
    let told = told_whole g.K.Keeper.faults _ _ _ c.args.solo _ _ same.catalog same.shards c.in-Ok.ensures.opened in
    let closed : Closes g.K.Keeper.faults (seen_in c.poll_seats-passes.result.0.seats) c.of.result = rw c.of.ensures c.close-catalog.ensures.closes in
    let opened = c.in-Ok.ensures.opened in
    let starts = starts_whole g.K.Keeper.faults _ _ _ c.args.solo _ _ same.catalog same.shards opened in
    let grown : HasGrownBy _ c.poll_seats-passes.result.0.seats c.of.result = rw c.of.ensures c.close-catalog.ensures.grown in
    let own = passes_held _ _ _ c.poll_seats-passes.ensures.every.own in
    let first = unturned_opened _ _ _ _ _ opened in
    rw (← told)
    (match_mean _ _ _ c.poll_seats-passes.result.1 (λ end so. visitors_kept _ _ _ _ _ _ _ _ _ _ _ end (λ t on. closes_from _ t _ _ on closed) (λ ps put. grown_with _ _ _ _ ps starts own grown (puts_all _ _ ps first put)) so) c.poll_seats-passes.ensures.served)

pub returns-in-Err-clause-closes : goal.returns-in-Err-clause-closes
returns-in-Err-clause-closes g c =
    let same = c.into_parts-catalog.ensures in
    rw c.of-in-Err.ensures (closes_whole g.K.Keeper.faults _ _ c.args.solo _ same.catalog same.shards c.in-Err.ensures.refused)
