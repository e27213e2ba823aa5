use Rattle.qz_journal.specs.Journals.{payload_of}
use Rattle.qz_journal.proofs.Calls.{put_behind, put_opened, put_kept}
use Rattle.qz_journal.proofs.Results.{on_ok_both}
use Rattle.qz_journal.proofs.journal.put.Goals as goal

pub returns-in_err-write_synced-clause-crash : goal.returns-in_err-write_synced-clause-crash
returns-in_err-write_synced-clause-crash g c =
    put_behind _ c.args.gate _ _ _ (payload_of c.args.frame.now) _ _ (g.met.D.Disk.reads_now c.args.disk.now) c.requires.kept c.write_synced.ensures.crash

pub returns-clause-put : goal.returns-clause-put
returns-clause-put g c =
    let first = c.in_ok-write_synced.ensures in
    on_ok_both c.write_synced-2.result c.write_synced-2.ensures.written c.write_synced-2.ensures.durable
    (λ opened durable. put_kept _ _ _ c.args.gate c.args.frame.now _ _ (g.met.D.Disk.reads_now c.args.disk.now) c.requires.kept c.requires.framed c.requires.size first.written opened durable)

pub returns-clause-crash : goal.returns-clause-crash
returns-clause-crash g c =
    let first = c.in_ok-write_synced.ensures in
    put_opened _ _ c.args.gate _ _ _ c.args.frame.now _ _ _ (g.met.D.Disk.reads_now c.args.disk.now) c.requires.kept c.requires.framed c.requires.size
    first.crash first.written first.durable c.write_synced-2.ensures.crash
