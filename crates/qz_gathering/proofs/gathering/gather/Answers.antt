use Rattle.std.proofs.Common.{sym, subst}
use Rattle.qz_visit.specs.Closing.{Closes}
use Rattle.qz_visit.specs.Visits.{seen_in}
use Rattle.qz_gathering.proofs.Closing.{true_closed}
use Rattle.qz_gathering.proofs.gathering.gather.Goals as goal

pub returns-clause-true_of : goal.returns-clause-true_of
returns-clause-true_of g c =
    let faults = g.K.Keeper.faults in
    let seen = seen_in c.args.passes.seats in
    let closes = subst (Closes faults seen) (sym c.of-solo.ensures) c.close-catalog.ensures.closes in
    true_closed faults seen c.args.books.items c.of-solo.result closes c.requires.true_of
