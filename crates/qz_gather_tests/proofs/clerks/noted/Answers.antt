use Rattle.std.proofs.Common.{ap, ◌∙◌}
use Rattle.qz_gather_tests.proofs.Asking.{every_gone, of_some}
use Rattle.qz_stations.proofs.Books.{counts_unasked}
use Rattle.qz_visit.specs.Visits.{Visitor}
use Rattle.qz_gather_tests.proofs.clerks.noted.Goals as goal

pub new-visit-requires : goal.new-visit-requires
new-visit-requires g c = of_some _ _ c.requires.every c.requires.some

pub new-clerk-requires : goal.new-clerk-requires
new-clerk-requires g c = counts_unasked c.new-visit.result _ _ (ap (λ (v : Visitor). v.passes) c.new-visit.ensures) (ap (λ (v : Visitor). v.last) c.new-visit.ensures) c.requires.unasked

pub returns-clause-every : goal.returns-clause-every
returns-clause-every g c = every_gone _ c.new-clerk.result.visit _ _ _ _ (c.new-clerk.ensures.visit ∙ c.new-visit.ensures) c.ask_all.ensures (c.parts_of.ensures.passes ∙ c.into_book-book.ensures.seats) c.requires.every
