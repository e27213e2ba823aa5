use Rattle.std.proofs.Common.{rules, ◌≡◌, is_some, false}
use Rattle.qz_journal.proofs.Calls.{spare_run, spare_stands}
use Rattle.qz_journal.proofs.Keeping.{settled}
use Rattle.qz_journal.proofs.journal.Journal.into_disk.Goals as goal

pub returns-clause-any_moment : goal.returns-clause-any_moment
returns-clause-any_moment g c =
    let none : is_some c.self.inside.doubt ≡ false = search rules in
    rw (← c.self.view_is) (spare_run _ c.self.inside.gate _ _ _ _ _ (settled c.self.inside.doubt none) (g.met.D.Disk.reads_now c.self.inside.disk) c.self.invariant.0 c.spare.ensures.crash)

pub returns-clause-stands : goal.returns-clause-stands
returns-clause-stands g c =
    let none : is_some c.self.inside.doubt ≡ false = search rules in
    rw (← c.self.view_is) (spare_stands _ c.self.inside.gate _ _ _ _ _ (spare_run _ c.self.inside.gate _ _ _ _ _ (settled c.self.inside.doubt none) (g.met.D.Disk.reads_now c.self.inside.disk) c.self.invariant.0 c.spare.ensures.crash))
