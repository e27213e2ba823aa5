use Rattle.std.proofs.Common.{sym, arith}
use Rattle.qz_journal.proofs.Steps.{next_frame_stands}
use Rattle.qz_journal.proofs.reading.next_frame.Goals as goal

pub returns-clause-frame : goal.returns-clause-frame
returns-clause-frame g c =
    next_frame_stands _ _ c.args.gate c.in-Some.length c.args.size _ _ c.in_ok-read_at-2.ensures.reads c.requires.size (omega arith)
    c.in_ok-read_at-2.ensures.bytes (sym c.in-Some.ensures) c.in_ok-read_bytes.ensures.bytes
