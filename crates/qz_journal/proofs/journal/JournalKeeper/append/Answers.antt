use Rattle.std.proofs.Common.{Some, ◌∙◌, ap}
use Rattle.qz_journal.specs.Journals.{payload_of}
use Rattle.qz_journal.proofs.Keeping.{holds_frame, append_started, append_run, append_doubtful}
use Rattle.qz_journal.proofs.journal.JournalKeeper.append.Goals as goal

pub returns-in_err-frame-clause-any_moment : goal.returns-in_err-frame-clause-any_moment
returns-in_err-frame-clause-any_moment g c =
    rw (← c.self.view_is) (append_started _ c.self.inside.gate _ _ c.args.payload.now _ c.self.invariant.0 (rw (← c.self.view_is) at c.requires.settled))

pub invariant_of-self-in-Err : goal.invariant_of-self-in-Err
invariant_of-self-in-Err g c =
    let made = c.in_ok-reserve.ensures in (
      rw (← c.as_slice.ensures) (append_doubtful _ _ _ c.self.inside.gate _ _ _ (payload_of c.as_slice.result.now) _ _ _ made.reads c.put.ensures.tells c.self.invariant.0 c.put.ensures.crash (g.met.D.Disk.reads_now c.put.new.disk)).0,
      c.self.invariant.1,
    )

pub returns-in-Ok-clause-any_moment : goal.returns-in-Ok-clause-any_moment
returns-in-Ok-clause-any_moment g c =
    let made = c.in_ok-reserve.ensures in
    rw (← c.self.view_is) (append_run _ _ c.self.inside.gate _ _ _ _ c.args.payload.now (payload_of c.as_slice.result.now) _ _ _ made.reads c.self.invariant.0 (rw (← c.self.view_is) at c.requires.settled)
    (holds_frame c.args.payload.now _ _ c.requires.size (c.as_slice.ensures ∙ c.in_ok-frame.ensures)).0 made.crash c.put.ensures.crash)

pub returns-in-Err-clause-list : goal.returns-in-Err-clause-list
returns-in-Err-clause-list g c =
    let made = c.in_ok-reserve.ensures in
    record {
      kept = rw (← c.self.view_is) (append_doubtful _ _ _ c.self.inside.gate _ _ _ (payload_of c.as_slice.result.now) _ _ _ made.reads c.put.ensures.tells c.self.invariant.0 c.put.ensures.crash (g.met.D.Disk.reads_now c.put.new.disk)).1;
      in_doubt = ap (λ l. Some l) (holds_frame c.args.payload.now _ _ c.requires.size c.in_ok-frame.ensures).0;
    }

pub returns-in-Err-clause-any_moment : goal.returns-in-Err-clause-any_moment
returns-in-Err-clause-any_moment g c =
    let made = c.in_ok-reserve.ensures in
    rw (← c.self.view_is) (append_run _ _ c.self.inside.gate _ _ _ _ c.args.payload.now (payload_of c.as_slice.result.now) _ _ _ made.reads c.self.invariant.0 (rw (← c.self.view_is) at c.requires.settled)
    (holds_frame c.args.payload.now _ _ c.requires.size (c.as_slice.ensures ∙ c.in_ok-frame.ensures)).0 made.crash c.put.ensures.crash)

pub put-requires-clause-framed : goal.put-requires-clause-framed
put-requires-clause-framed g c = (holds_frame c.args.payload.now _ _ c.requires.size (c.as_slice.ensures ∙ c.in_ok-frame.ensures)).1
