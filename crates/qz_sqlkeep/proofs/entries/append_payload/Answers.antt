use Rattle.sqlite.specs.Held.{state}
use Rattle.qz_sqlkeep.proofs.Keeping.{ends_storing}
use Rattle.qz_sqlkeep.proofs.entries.append_payload.Goals as goal

pub returns-clause-stored : goal.returns-clause-stored
returns-clause-stored g c clean =
    ends_storing (state g.S.Store c.args.conn.now) (state g.S.Store c.append_entry.new.conn) c.args.payload.now c.in_ok-spelled.spelled c.append_entry.result c.in_ok-spelled.ensures
    (c.append_entry.ensures.entered clean)
