use Rattle.std.proofs.Common.{ap, is_some}
use Rattle.qz_command.specs.Readings.{so_many}
use Rattle.qz_command.proofs.ReadLemmas.{three_read, three_refused, told_on}
use Rattle.qz_command.proofs.leaves.three_words.Goals as goal

pub value-requires : goal.value-requires
value-requires c = ap is_some (three_read _ _ c.in-Ok.matches c.requires c.in-Ok.ensures).4

pub value-requires-in-Ok : goal.value-requires-in-Ok
value-requires-in-Ok c = ap is_some (three_read _ _ c.in-Ok.matches c.requires c.in-Ok.ensures).5

pub value-requires-in-Ok-2 : goal.value-requires-in-Ok-2
value-requires-in-Ok-2 c = ap is_some (three_read _ _ c.in-Ok.matches c.requires c.in-Ok.ensures).6

pub returns-in-Ok : goal.returns-in-Ok
returns-in-Ok c =
    let read = three_read _ _ c.in-Ok.matches c.requires c.in-Ok.ensures in
    let all = ap (so_many 3) read.3 in
    let first = c.value.ensures in
    let second = c.value-in-Ok.ensures in
    let third = c.value-in-Ok-2.ensures in cc

pub returns-in-Err : goal.returns-in-Err
returns-in-Err c = told_on _ _ c.in-Err.fault _ c.in-Err.ensures (three_refused _ _ c.requires)
