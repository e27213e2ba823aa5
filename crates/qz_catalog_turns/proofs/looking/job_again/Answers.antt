use Rattle.qz_catalog_turns.proofs.Again.{failed_again, told_again}
use Rattle.qz_catalog_turns.proofs.looking.job_again.Goals as goal

pub returns-in-Ok : goal.returns-in-Ok
returns-in-Ok g c = told_again _ _ _ c.args.job c.requires.job (rw c.in-Ok.is at c.look_up_in_turn.ensures)

pub returns-in-Err : goal.returns-in-Err
returns-in-Err g c = failed_again _ _ _ c.in-Err.why (rw c.in-Err.is at c.look_up_in_turn.ensures)
