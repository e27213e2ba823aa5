use Rattle.qz_wire.proofs.AnswerLemmas.{no-utf8, utf8-text}
use Rattle.qz_wire.proofs.escapes.utf8_in.Goals as goal

pub returns-in_ok-of-in-Ok : goal.returns-in_ok-of-in-Ok
returns-in_ok-of-in-Ok c = utf8-text c.args.bytes.now c.in-Ok.text.now _ c.in-Ok.ensures.cases c.in_ok-of-in-Ok.ensures

pub returns-in-Err : goal.returns-in-Err
returns-in-Err c = no-utf8 c.args.bytes.now c.in-Err.ensures.cases.0
