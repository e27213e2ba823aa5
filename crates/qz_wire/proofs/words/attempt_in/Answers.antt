use Rattle.std.proofs.Common.{sym}
use Rattle.qz_wire.proofs.AskingLemmas.{three_parts}
use Rattle.qz_wire.proofs.words.attempt_in.Goals as goal

pub returns-in-Some : goal.returns-in-Some
returns-in-Some c = sym (three_parts c.args.word.now c.in_ok-user.user.now c.in_ok-user.nth.now _ _ c.in_ok-user.ensures c.in-Some.ensures)
