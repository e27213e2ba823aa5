use Rattle.std.proofs.Common.{arith, subst, sym}
use Rattle.qz_gather.specs.Notes.{AreTrueOf}
use Rattle.qz_stations.proofs.Serving.{closed_every, opened_every, opened_many}
use Rattle.qz_visit.specs.Visits.{seen_in}
use Rattle.qz_visit.proofs.Holding.{founding_held, passes_held}
use Rattle.qz_gather_tests.proofs.clerks.gap_of.Goals as goal

pub noted-passes-requires-clause-every : goal.noted-passes-requires-clause-every
noted-passes-requires-clause-every g c = opened_every _ _ _ _ _ c.in-Ok.ensures.opened c.into_parts-catalog.ensures.solo

pub noted-passes-requires-clause-some : goal.noted-passes-requires-clause-some
noted-passes-requires-clause-some g c = let many = opened_many _ _ _ _ _ c.in-Ok.ensures.opened c.into_parts-catalog.ensures.solo in omega (arith, many)

pub gap_by-requires-clause-own : goal.gap_by-requires-clause-own
gap_by-requires-clause-own g c = passes_held _ _ _ c.noted-passes.ensures.every.own

pub gap_by-requires-clause-every : goal.gap_by-requires-clause-every
gap_by-requires-clause-every g c = closed_every _ _ _ _ _ c.in-Ok.ensures.opened _ c.noted-passes.ensures.every

pub gap_by-requires-clause-founded : goal.gap_by-requires-clause-founded
gap_by-requires-clause-founded g c = founding_held _ _ _ c.noted-passes.ensures.every.own

pub gap_by-requires-clause-true_of : goal.gap_by-requires-clause-true_of
gap_by-requires-clause-true_of g c = c.without-left.ensures _ (subst (AreTrueOf (seen_in c.noted-passes.result.0.seats)) (sym c.items_of-kept.ensures) c.noted-passes.ensures.true_of)
