use Rattle.std.proofs.Common.{refl, arith}
use Rattle.qz_stations.proofs.Books.{long_told}
use Rattle.qz_stations.proofs.Putting.{puts_all, starts_whole, unturned_opened}
use Rattle.qz_stations.proofs.Serving.{closed_every, closes_whole, crew_told, opened_every, opened_many, told_whole}
use Rattle.qz_visit.proofs.Holding.{founding_held, passes_held}
use Rattle.qz_visit.proofs.Seeing.{closes_from}
use Rattle.qz_stations.proofs.noting.serve_noting.Goals as goal

pub serve_beside-passes-requires-clause-every : goal.serve_beside-passes-requires-clause-every
serve_beside-passes-requires-clause-every g c κs within = opened_every _ _ _ _ _ c.in-Ok.ensures.opened c.into_parts-catalog.ensures.solo

pub serve_beside-passes-requires-clause-enough : goal.serve_beside-passes-requires-clause-enough
serve_beside-passes-requires-clause-enough g c κs within = let many = opened_many _ _ _ _ _ c.in-Ok.ensures.opened c.into_parts-catalog.ensures.solo in omega (arith, many)

pub serve_beside-passes-requires-clause-unturned : goal.serve_beside-passes-requires-clause-unturned
serve_beside-passes-requires-clause-unturned g c κs within = unturned_opened _ _ _ _ _ c.in-Ok.ensures.opened

pub closed-requires-clause-own : goal.closed-requires-clause-own
closed-requires-clause-own g c = passes_held _ _ _ (opened_every _ _ _ _ _ c.in-Ok.ensures.opened c.into_parts-catalog.ensures.solo).own

pub closed-requires-clause-every : goal.closed-requires-clause-every
closed-requires-clause-every g c = closed_every _ _ _ _ _ c.in-Ok.ensures.opened _ (opened_every _ _ _ _ _ c.in-Ok.ensures.opened c.into_parts-catalog.ensures.solo)

pub closed-requires-clause-founded : goal.closed-requires-clause-founded
closed-requires-clause-founded g c = founding_held _ _ _ (opened_every _ _ _ _ _ c.in-Ok.ensures.opened c.into_parts-catalog.ensures.solo).own

pub closed-requires-in-Err-served-clause-own : goal.closed-requires-in-Err-served-clause-own
closed-requires-in-Err-served-clause-own g c = passes_held _ _ _ c.serve_beside-passes.ensures.every.own

pub closed-requires-in-Err-served-clause-every : goal.closed-requires-in-Err-served-clause-every
closed-requires-in-Err-served-clause-every g c = closed_every _ _ _ _ _ c.in-Ok.ensures.opened _ c.serve_beside-passes.ensures.every

pub closed-requires-in-Err-served-clause-founded : goal.closed-requires-in-Err-served-clause-founded
closed-requires-in-Err-served-clause-founded g c = founding_held _ _ _ c.serve_beside-passes.ensures.every.own

pub returns-in_default : goal.returns-in_default
returns-in_default g c =
    let same = c.into_parts-catalog.ensures in
    let told = told_whole g.K.Keeper.faults _ _ _ c.args.solo _ _ same.catalog same.shards c.in-Ok.ensures.opened in
    record { closes = rw (← told) c.closed.ensures; stay = refl }

pub returns-in-Ok-served : goal.returns-in-Ok-served
returns-in-Ok-served g c =
    let same = c.into_parts-catalog.ensures in
    let told = told_whole g.K.Keeper.faults _ _ _ c.args.solo _ _ same.catalog same.shards c.in-Ok.ensures.opened in
    let all = c.serve_beside-passes.ensures in
    let crew = crew_told _ _ _ _ _ _ _ _ _ _ told (rw c.in-Ok-served.is at all.served) in
    record {
      own = passes_held _ _ _ all.every.own;
      every = closed_every _ _ _ _ _ c.in-Ok.ensures.opened _ all.every;
      founded = founding_held _ _ _ all.every.own;
      follows = rw (← told) all.follows;
      long = long_told _ _ _ _ _ told c.in-Ok.ensures.unasked c.last.ensures c.in-Ok-copy_of_base.ensures.catalog c.in-Ok-copy_of_base.ensures.parts;
      beside = crew.beside;
      regraded = crew.regraded;
      starts = starts_whole g.K.Keeper.faults _ _ _ c.args.solo _ _ same.catalog same.shards c.in-Ok.ensures.opened;
      puts = puts_all _ _ _ (unturned_opened _ _ _ _ _ c.in-Ok.ensures.opened) crew.put;
      many = rw c.in-Ok-served.is at all.many;
      noted = rw (← told) ((rw c.in-Ok-served.is at all.noted) refl);
      worked = rw (← told) ((rw c.in-Ok-served.is at all.worked) refl);
      true_of = rw c.in-Ok-served.is at all.books;
    }

pub returns-in-Err-served : goal.returns-in-Err-served
returns-in-Err-served g c =
    let same = c.into_parts-catalog.ensures in
    let told = told_whole g.K.Keeper.faults _ _ _ c.args.solo _ _ same.catalog same.shards c.in-Ok.ensures.opened in
    record {
      closes = rw (← told) (closes_from _ _ _ _ c.serve_beside-passes.ensures.follows c.closed-in-Err-served.ensures);
      stay = rw c.in-Err-served.is at c.serve_beside-passes.ensures.served;
    }

pub returns-in-Err : goal.returns-in-Err
returns-in-Err g c =
    let same = c.into_parts-catalog.ensures in
    record { closes = rw c.of.ensures (closes_whole g.K.Keeper.faults _ _ c.args.solo _ same.catalog same.shards c.in-Err.ensures.refused); stay = refl }
