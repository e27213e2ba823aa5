use Rattle.std.proofs.Common.{arith}
use Rattle.std.proofs.lemmas.Result.{err_from_is_err_and}
use Rattle.qz_asking.specs.Following.{stays}
use Rattle.qz_asking.proofs.Following.{follows_on}
use Rattle.qz_script.proofs.ScriptLemmas.{ends_at_last, ends_at_line, ends_done, ends_reading, serves_line, serves_none}
use Rattle.qz_script.proofs.script.serve_through.Goals as goal

pub loop-input-init : goal.loop-input-init
loop-input-init g c = record { served = serves_none _ _ _ _ _ c.new-input.result c.args.limit c.new-input.ensures; follows = stays _; room = c.requires.room }

pub returns-in_err-line-clause-ended : goal.returns-in_err-line-clause-ended
returns-in_err-line-clause-ended g c =
    let p = err_from_is_err_and c.from_residual.result c.from_residual.ensures.1 in
    rw (p.1, p.2) (ends_reading _ _ _ _ _ _ _ _ _ _ _ _ _ c.args.limit c.in_err-line.field-0.0 c.loop-input.invariant.served c.in_err-line.ensures.given)

pub returns-in_err-answer-in-Line-clause-ended : goal.returns-in_err-answer-in-Line-clause-ended
returns-in_err-answer-in-Line-clause-ended g c =
    let p = err_from_is_err_and c.from_residual-in_err-answer-in-Line.result c.from_residual-in_err-answer-in-Line.ensures.1 in
    let given = rw c.in-Line.is at c.in_ok-line.ensures.given in
    rw (p.1, p.2) (ends_at_line _ _ _ _ _ _ _ _ _ _ _ _ _ _ _ _ _ c.args.limit c.in-Line.line c.in_err-answer-in-Line.field-0.0 c.loop-input.invariant.served given c.in_err-answer-in-Line.ensures.answered)

pub loop-input-preserved-in_ok-answer-in-Line : goal.loop-input-preserved-in_ok-answer-in-Line
loop-input-preserved-in_ok-answer-in-Line g c =
    let given = rw c.in-Line.is at c.in_ok-line.ensures.given in
    record { served = serves_line _ _ _ _ _ _ _ _ _ _ _ _ _ _ _ _ _ c.args.limit c.in-Line.line c.loop-input.invariant.served given c.in_ok-answer-in-Line.ensures.answered; follows = follows_on _ _ _ _ c.loop-input.invariant.follows c.in_ok-answer-in-Line.ensures.follows; room = omega arith }

pub loop-input-preserved : goal.loop-input-preserved
loop-input-preserved g c =
    let given = rw c.in-Line.is at c.in_ok-line.ensures.given in
    record { served = serves_line _ _ _ _ _ _ _ _ _ _ _ _ _ _ _ _ _ c.args.limit c.in-Line.line c.loop-input.invariant.served given c.in_ok-answer-in-Line.ensures.answered; follows = follows_on _ _ _ _ c.loop-input.invariant.follows c.in_ok-answer-in-Line.ensures.follows; room = omega arith }

pub returns-in-Last-clause-ended : goal.returns-in-Last-clause-ended
returns-in-Last-clause-ended g c =
    let given = rw c.in-Last.is at c.in_ok-line.ensures.given in
    ends_at_last _ _ _ _ _ _ _ _ _ _ _ _ _ _ _ _ _ c.args.limit c.in-Last.line c.answer-in-Last.result c.loop-input.invariant.served given c.answer-in-Last.ensures.answered

pub returns-in-End-clause-ended : goal.returns-in-End-clause-ended
returns-in-End-clause-ended g c =
    let given = rw c.in-End.is at c.in_ok-line.ensures.given in
    ends_done _ _ _ _ _ _ _ _ _ _ _ _ _ _ c.args.limit c.loop-input.invariant.served given

pub returns-in_err-answer-in-Line-clause-follows : goal.returns-in_err-answer-in-Line-clause-follows
returns-in_err-answer-in-Line-clause-follows g c = follows_on _ _ _ _ c.loop-input.invariant.follows c.in_err-answer-in-Line.ensures.follows

pub returns-in-Last-clause-follows : goal.returns-in-Last-clause-follows
returns-in-Last-clause-follows g c = follows_on _ _ _ _ c.loop-input.invariant.follows c.answer-in-Last.ensures.follows
