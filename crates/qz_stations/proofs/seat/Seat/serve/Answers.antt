use Rattle.qz_stations.proofs.Asking.{clerk_served, visit_served}
use Rattle.qz_stations.proofs.seat.Seat.serve.Goals as goal

pub returns-in-Visit : goal.returns-in-Visit
returns-in-Visit g c = rw (c.in-Visit.is) (visit_served _ _ _ _ _ _ _ _ _ _ _ _ (rw c.from.ensures at c.serve_door.ensures.serves))

pub returns-in-Clerk : goal.returns-in-Clerk
returns-in-Clerk g c = rw (c.in-Clerk.is) (clerk_served _ _ _ _ _ _ _ _ _ _ _ _ (rw c.from-in-Clerk.ensures at c.serve_door-in-Clerk.ensures.serves))
