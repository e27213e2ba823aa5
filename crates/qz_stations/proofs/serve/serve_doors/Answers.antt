use Rattle.std.proofs.Common.{arith}
use Rattle.qz_stations.proofs.Putting.{starts_whole, unturned_opened}
use Rattle.qz_stations.proofs.Serving.{closed_every, closes_whole, crew_closed, ended, match_mean, opened_every, opened_many, told_whole}
use Rattle.qz_visit.specs.Closing.{Closes, HasGrownBy}
use Rattle.qz_visit.specs.Visits.{seen_in}
use Rattle.qz_visit.proofs.Holding.{passes_held}
use Rattle.qz_visit.proofs.Seeing.{closes_from}
use Rattle.qz_stations.proofs.serve.serve_doors.Goals as goal

pub serve_beside-passes-requires-clause-every : goal.serve_beside-passes-requires-clause-every
serve_beside-passes-requires-clause-every g c κs within = opened_every _ _ _ _ _ c.in-Ok.ensures.opened c.into_parts-catalog.ensures.solo

pub serve_beside-passes-requires-clause-enough : goal.serve_beside-passes-requires-clause-enough
serve_beside-passes-requires-clause-enough g c κs within = let many = opened_many _ _ _ _ _ c.in-Ok.ensures.opened c.into_parts-catalog.ensures.solo in omega (arith, many)

pub serve_beside-passes-requires-clause-unturned : goal.serve_beside-passes-requires-clause-unturned
serve_beside-passes-requires-clause-unturned g c κs within = unturned_opened _ _ _ _ _ c.in-Ok.ensures.opened

pub close-catalog-requires-clause-own : goal.close-catalog-requires-clause-own
close-catalog-requires-clause-own g c = passes_held _ _ _ c.serve_beside-passes.ensures.every.own

pub close-catalog-requires-clause-every : goal.close-catalog-requires-clause-every
close-catalog-requires-clause-every g c = closed_every _ _ _ _ _ c.in-Ok.ensures.opened _ c.serve_beside-passes.ensures.every

pub returns-in-Ok-clause-closes : goal.returns-in-Ok-clause-closes
returns-in-Ok-clause-closes g c =
    let same = c.into_parts-catalog.ensures in
    let told = told_whole g.K.Keeper.faults _ _ _ c.args.solo _ _ same.catalog same.shards c.in-Ok.ensures.opened in
    let closed : Closes g.K.Keeper.faults (seen_in c.serve_beside-passes.result.0.seats) c.of.result = rw c.of.ensures c.close-catalog.ensures.closes in
    rw (← told) (closes_from _ _ _ _ c.serve_beside-passes.ensures.follows closed)

pub returns-in-Ok-clause-served : goal.returns-in-Ok-clause-served
returns-in-Ok-clause-served g c =
    let same = c.into_parts-catalog.ensures in
    let opened = c.in-Ok.ensures.opened in
    let told = told_whole g.K.Keeper.faults _ _ _ c.args.solo _ _ same.catalog same.shards opened in
    let starts = starts_whole g.K.Keeper.faults _ _ _ c.args.solo _ _ same.catalog same.shards opened in
    let every = c.serve_beside-passes.ensures.every in
    let closed : Closes g.K.Keeper.faults (seen_in c.serve_beside-passes.result.0.seats) c.of.result = rw c.of.ensures c.close-catalog.ensures.closes in
    let grown : HasGrownBy _ c.serve_beside-passes.result.0.seats c.of.result = rw c.of.ensures c.close-catalog.ensures.grown in
    rw (← told, c.end_of.ensures)
    (ended _ _ c.serve_beside-passes.result.1 (match_mean _ _ _ c.serve_beside-passes.result.1 (λ sat crew. crew_closed _ _ _ _ _ _ _ _ _ _ _ _ sat.0 (unturned_opened _ _ _ _ _ opened) starts (passes_held _ _ _ every.own) closed grown crew) c.serve_beside-passes.ensures.served))

pub returns-in-Err-clause-closes : goal.returns-in-Err-clause-closes
returns-in-Err-clause-closes g c =
    let same = c.into_parts-catalog.ensures in
    rw c.of-in-Err.ensures (closes_whole g.K.Keeper.faults _ _ c.args.solo _ same.catalog same.shards c.in-Err.ensures.refused)
