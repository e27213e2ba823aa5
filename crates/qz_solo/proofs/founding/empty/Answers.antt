use Rattle.qz_solo.proofs.Beginning.{none_illegal}
use Rattle.qz_solo.proofs.founding.empty.Goals as goal

pub unreachable-requires : goal.unreachable-requires
unreachable-requires c = none_illegal c.args.index c.args.count c.in-Err-default-Illegal.field-0-1-0 (rw c.in-Err-default-Illegal.field-0-1-is at c.in-Err-default-Illegal.ensures.illegal)
