use Rattle.std.proofs.Common.{ap, is_some}
use Rattle.qz_command.specs.Readings.{so_many}
use Rattle.qz_command.proofs.ReadLemmas.{told_on, two_read, two_refused}
use Rattle.qz_command.proofs.leaves.two_words.Goals as goal

pub value-requires : goal.value-requires
value-requires c = ap is_some (two_read _ _ c.in-Ok.matches c.requires c.in-Ok.ensures).3

pub value-requires-in-Ok : goal.value-requires-in-Ok
value-requires-in-Ok c = ap is_some (two_read _ _ c.in-Ok.matches c.requires c.in-Ok.ensures).4

pub returns-in-Ok : goal.returns-in-Ok
returns-in-Ok c =
    let read = two_read _ _ c.in-Ok.matches c.requires c.in-Ok.ensures in
    let all = ap (so_many 2) read.2 in
    let first = c.value.ensures in
    let second = c.value-in-Ok.ensures in cc

pub returns-in-Err : goal.returns-in-Err
returns-in-Err c = told_on _ _ c.in-Err.fault _ c.in-Err.ensures (two_refused _ _ c.requires)
