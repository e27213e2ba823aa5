use Rattle.qz_solo.proofs.Beginning.{held_founded, never_illegal}
use Rattle.qz_solo.proofs.founding.founded.Goals as goal

pub returns-in-Ok : goal.returns-in-Ok
returns-in-Ok c =
    held_founded c.one_spelling.ensures c.args.shards c.args.token.now c.in-Ok.catalog _ c.in_ok-founding_payload.ensures.kept (rw c.in_ok-founding_payload.ensures.spelled at c.in-Ok.ensures.opened)

pub unreachable-requires : goal.unreachable-requires
unreachable-requires c =
    never_illegal c.args.shards c.args.token.now _ c.in_ok-founding_payload.ensures.kept
    (rw (c.in-Err-default-Some-Illegal.field-0-1-is, c.in-Err-default-Some-Illegal.field-0-1-0-is, c.in_ok-founding_payload.ensures.spelled) at c.in-Err-default-Some-Illegal.ensures.unopened)
