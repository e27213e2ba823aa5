use Rattle.std.proofs.Common.{ap, is_some}
use Rattle.qz_command.proofs.ReadLemmas.{five_found, five_read, five_refused, told_on}
use Rattle.qz_command.proofs.leaves.five_words.Goals as goal

pub value-requires : goal.value-requires
value-requires c = ap is_some (five_read _ _ c.in-Ok.matches c.requires c.in-Ok.ensures).6

pub value-requires-in-Ok : goal.value-requires-in-Ok
value-requires-in-Ok c = ap is_some (five_read _ _ c.in-Ok.matches c.requires c.in-Ok.ensures).7

pub value-requires-in-Ok-2 : goal.value-requires-in-Ok-2
value-requires-in-Ok-2 c = ap is_some (five_read _ _ c.in-Ok.matches c.requires c.in-Ok.ensures).8

pub value-requires-in-Ok-3 : goal.value-requires-in-Ok-3
value-requires-in-Ok-3 c = ap is_some (five_read _ _ c.in-Ok.matches c.requires c.in-Ok.ensures).9

pub value-requires-in-Ok-4 : goal.value-requires-in-Ok-4
value-requires-in-Ok-4 c = ap is_some (five_read _ _ c.in-Ok.matches c.requires c.in-Ok.ensures).10

pub returns-in-Ok : goal.returns-in-Ok
returns-in-Ok c =
    let read = five_read _ _ c.in-Ok.matches c.requires c.in-Ok.ensures in
    five_found _ read.0 read.1 read.2 read.3 read.4 _ _ _ _ _ _ _ _ _ _ read.5 read.6 read.7 read.8 read.9 read.10
    c.value.ensures c.value-in-Ok.ensures c.value-in-Ok-2.ensures c.value-in-Ok-3.ensures c.value-in-Ok-4.ensures

pub returns-in-Err : goal.returns-in-Err
returns-in-Err c = told_on _ _ c.in-Err.fault _ c.in-Err.ensures (five_refused _ _ c.requires)
