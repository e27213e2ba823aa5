use Rattle.qz_command.proofs.ReadLemmas.{none_read, none_refused, told_on}
use Rattle.qz_command.proofs.leaves.words_of_replay.Goals as goal

pub returns-in-Ok : goal.returns-in-Ok
returns-in-Ok c = none_read _ c.in-Ok.matches c.requires c.in-Ok.ensures

pub returns-in-Err : goal.returns-in-Err
returns-in-Err c = told_on _ _ c.in-Err.fault _ c.in-Err.ensures (none_refused _ c.requires)
