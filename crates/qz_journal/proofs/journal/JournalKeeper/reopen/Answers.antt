use Rattle.std.proofs.Common.{rules, ◌≡◌, false, is_none, is_some, refl, ◌∙◌, ap}
use Rattle.std.proofs.lemmas.Result.{err_from_is_err_and}
use Rattle.qz_journal.proofs.Keeping.{recover_loaded, reopen_still, reopen_may, reopen_crash, loaded_kept, doubtful}
use Rattle.qz_journal.proofs.journal.JournalKeeper.reopen.Goals as goal

pub invariant_of-self-in_err-mend-in-Ok : goal.invariant_of-self-in_err-mend-in-Ok
invariant_of-self-in_err-mend-in-Ok g c =
    let read = c.in-Ok.ensures in
    let some : is_none c.self.inside.doubt ≡ false = search rules in (
      (reopen_still _ _ _ c.self.inside.gate _ _ _ _ _ _ read.reads c.mend.ensures.tells (g.met.D.Disk.reads_now c.self.inside.disk) c.self.invariant.0 c.mend.ensures.crash (g.met.D.Disk.reads_now c.mend.new.disk) (doubtful c.self.inside.doubt some)).0,
      c.self.invariant.1,
    )

pub returns-in_err-mend-in-Ok-clause-list : goal.returns-in_err-mend-in-Ok-clause-list
returns-in_err-mend-in-Ok-clause-list g c =
    let read = c.in-Ok.ensures in
    let some : is_none c.self.inside.doubt ≡ false = search rules in
    let p = err_from_is_err_and c.from_residual.result c.from_residual.ensures.1 in
    rw p.1 (record {
      kept = rw (← c.self.view_is) (reopen_still _ _ _ c.self.inside.gate _ _ _ _ _ _ read.reads c.mend.ensures.tells (g.met.D.Disk.reads_now c.self.inside.disk) c.self.invariant.0 c.mend.ensures.crash (g.met.D.Disk.reads_now c.mend.new.disk) (doubtful c.self.inside.doubt some)).1;
      same_doubt = rw (← c.self.view_is) refl;
    })

pub returns-in_err-mend-in-Ok-clause-any_moment : goal.returns-in_err-mend-in-Ok-clause-any_moment
returns-in_err-mend-in-Ok-clause-any_moment g c =
    let read = c.in-Ok.ensures in
    rw (← c.self.view_is) (reopen_crash _ _ c.self.inside.gate _ _ _ _ _ _ read.reads (g.met.D.Disk.reads_now c.self.inside.disk) read.crash c.mend.ensures.crash)

pub invariant_of-self-in-Ok : goal.invariant_of-self-in-Ok
invariant_of-self-in-Ok g c =
    let read = c.in-Ok.ensures in
    let loaded = recover_loaded _ _ _ _ _ _ _ _ _ _ read.reads c.mend.ensures.tells read.found c.mend.ensures.crash c.in_ok-mend-in-Ok.ensures.rests (g.met.D.Disk.reads_now c.mend.new.disk) in (
      (loaded_kept _ _ c.self.inside.gate _ _ _ (c.mend.ensures.tells ∙ ap is_some read.reads) loaded).0,
      read.bound,
    )

pub returns-in_ok-mend-in-Ok-clause-list : goal.returns-in_ok-mend-in-Ok-clause-list
returns-in_ok-mend-in-Ok-clause-list g c =
    let read = c.in-Ok.ensures in
    let loaded = recover_loaded _ _ _ _ _ _ _ _ _ _ read.reads c.mend.ensures.tells read.found c.mend.ensures.crash c.in_ok-mend-in-Ok.ensures.rests (g.met.D.Disk.reads_now c.mend.new.disk) in
    record {
      stands = rw (← c.self.view_is) (reopen_may _ _ c.self.inside.gate _ _ _ _ (g.met.D.Disk.reads_now c.self.inside.disk) c.self.invariant.0 read.found);
      kept = rw (← c.self.view_is) (loaded_kept _ _ c.self.inside.gate _ _ _ (c.mend.ensures.tells ∙ ap is_some read.reads) loaded).1;
      no_doubt = refl;
    }

pub returns-in_ok-mend-in-Ok-clause-any_moment : goal.returns-in_ok-mend-in-Ok-clause-any_moment
returns-in_ok-mend-in-Ok-clause-any_moment g c =
    let read = c.in-Ok.ensures in
    rw (← c.self.view_is) (reopen_crash _ _ c.self.inside.gate _ _ _ _ _ _ read.reads (g.met.D.Disk.reads_now c.self.inside.disk) read.crash c.mend.ensures.crash)
