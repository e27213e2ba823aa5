use Rattle.std.proofs.Common.{arith}
use Rattle.qz_journal.proofs.Calls.{mend_place, mend_rests, mend_cut, mend_emptied, mend_begun, mend_rests_begun}
use Rattle.qz_journal.proofs.Results.{on_ok_both}
use Rattle.qz_journal.proofs.journal.mend.Goals as goal

pub cut_synced-requires-clause-place : goal.cut_synced-requires-clause-place
cut_synced-requires-clause-place g c = mend_place _ c.args.size c.args.gate c.requires.read (omega arith)

pub returns-then-size-gt-SHORTEST-clause-rests : goal.returns-then-size-gt-SHORTEST-clause-rests
returns-then-size-gt-SHORTEST-clause-rests g c =
    on_ok_both c.cut_synced.result c.cut_synced.ensures.written c.cut_synced.ensures.durable
    (λ written durable. mend_rests _ _ c.args.size c.args.gate _ c.requires.read (omega arith) written durable)

pub returns-then-size-gt-SHORTEST-clause-crash : goal.returns-then-size-gt-SHORTEST-clause-crash
returns-then-size-gt-SHORTEST-clause-crash g c = mend_cut _ c.args.size c.args.gate _ _ _ _ c.requires.read c.requires.durable (omega arith) c.cut_synced.ensures.crash

pub returns-in_err-cut-clause-crash : goal.returns-in_err-cut-clause-crash
returns-in_err-cut-clause-crash g c = mend_emptied _ c.args.size c.args.gate _ _ _ _ c.requires.read c.requires.durable (omega arith) c.cut.ensures.crash

pub returns-clause-crash : goal.returns-clause-crash
returns-clause-crash g c = mend_begun _ c.args.size c.args.gate _ _ _ _ _ _ c.requires.read c.requires.durable (omega arith) c.cut.ensures.crash c.write_synced.ensures.crash

pub returns-clause-rests : goal.returns-clause-rests
returns-clause-rests g c =
    on_ok_both c.write_synced.result c.write_synced.ensures.written c.write_synced.ensures.durable
    (λ written durable. mend_rests_begun _ _ _ c.args.size c.args.gate _ c.requires.read (omega arith) c.in_ok-cut.ensures.written written durable)
