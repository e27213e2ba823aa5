use Rattle.qz_stations.proofs.Asking.{clerk_regraded, visit_regraded}
use Rattle.qz_stations.proofs.Regrading.{clerk_serves, visit_serves}
use Rattle.qz_stations.proofs.seat.Seat.regrade.Goals as goal

pub regrade_loop-requires-clause-serves : goal.regrade_loop-requires-clause-serves
regrade_loop-requires-clause-serves g c = visit_serves

pub regrade_loop-requires-in-Clerk-clause-serves : goal.regrade_loop-requires-in-Clerk-clause-serves
regrade_loop-requires-in-Clerk-clause-serves g c = clerk_serves

pub returns-in-Visit-clause-regraded : goal.returns-in-Visit-clause-regraded
returns-in-Visit-clause-regraded g c = rw c.in-Visit.is (visit_regraded _ _ _ _ _ _ _ c.regrade_loop.ensures.regrades)

pub returns-in-Clerk-clause-regraded : goal.returns-in-Clerk-clause-regraded
returns-in-Clerk-clause-regraded g c = rw c.in-Clerk.is (clerk_regraded _ _ _ _ _ _ _ c.regrade_loop-in-Clerk.ensures.regrades)
