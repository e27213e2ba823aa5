use Rattle.std.proofs.Common.{ap, is_some}
use Rattle.qz_command.specs.Readings.{so_many}
use Rattle.qz_command.proofs.ReadLemmas.{one_read, one_refused, told_on}
use Rattle.qz_command.proofs.leaves.one_word.Goals as goal

pub value-requires : goal.value-requires
value-requires c = ap is_some (one_read _ _ c.in-Ok.matches c.requires c.in-Ok.ensures).2

pub returns-in-Ok : goal.returns-in-Ok
returns-in-Ok c =
    let read = one_read _ _ c.in-Ok.matches c.requires c.in-Ok.ensures in
    let all = ap (so_many 1) read.1 in
    let first = c.value.ensures in cc

pub returns-in-Err : goal.returns-in-Err
returns-in-Err c = told_on _ _ c.in-Err.fault _ c.in-Err.ensures (one_refused _ _ c.requires)
