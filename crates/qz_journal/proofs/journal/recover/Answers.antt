use Rattle.qz_journal.proofs.Keeping.{recover_crash, recover_loaded}
use Rattle.qz_journal.proofs.journal.recover.Goals as goal

pub returns-in_err-mend-clause-crash : goal.returns-in_err-mend-clause-crash
returns-in_err-mend-clause-crash g c =
    let read = c.in_ok-found.ensures in
    recover_crash _ _ _ _ _ _ _ _ read.reads (g.met.D.Disk.reads_now c.args.disk.now) read.crash c.mend.ensures.crash

pub returns-clause-loaded : goal.returns-clause-loaded
returns-clause-loaded g c =
    let read = c.in_ok-found.ensures in
    recover_loaded _ _ _ _ _ _ _ _ _ _ read.reads c.mend.ensures.tells read.found c.mend.ensures.crash c.in_ok-mend.ensures.rests (g.met.D.Disk.reads_now c.mend.new.disk)

pub returns-clause-crash : goal.returns-clause-crash
returns-clause-crash g c =
    let read = c.in_ok-found.ensures in
    recover_crash _ _ _ _ _ _ _ _ read.reads (g.met.D.Disk.reads_now c.args.disk.now) read.crash c.mend.ensures.crash
