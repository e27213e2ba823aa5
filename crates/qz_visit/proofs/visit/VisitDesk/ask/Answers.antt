use Rattle.qz_visit.specs.Visits.{said_by}
use Rattle.qz_visit.proofs.Standing.{still_of}
use Rattle.qz_visit.proofs.visit.VisitDesk.ask.Goals as goal

pub invariant_of-self : goal.invariant_of-self
invariant_of-self g c = still_of c.self.inside.school.now c.self.inside.passes.seats c.ask.new.passes.seats c.args.moment c.args.ask.now (said_by c.ask.result c.ask.new.passes.last) c.self.invariant c.ask.ensures.visited
