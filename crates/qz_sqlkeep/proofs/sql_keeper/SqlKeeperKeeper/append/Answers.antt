use Rattle.sqlite.specs.Held.{state}
use Rattle.qz_sqlkeep.proofs.Keeping.{kept_with_one_more, rests_stored}
use Rattle.qz_sqlkeep.proofs.sql_keeper.SqlKeeperKeeper.append.Goals as goal

pub invariant_of-self : goal.invariant_of-self
invariant_of-self g c =
    rests_stored g.S.Base.tells (state g.S.Store c.self.inside.conn) (state g.S.Store c.append_payload.new.conn) c.args.payload.now c.in-Ok.ensures.idle c.self.invariant
    (λ told. c.in-Ok.ensures.stored (g.met.S.Base.honest c.append_payload.new.conn.store told).clean)

pub returns-in-Ok-clause-list : goal.returns-in-Ok-clause-list
returns-in-Ok-clause-list g c = record {
  kept = rw (← c.self.view_is)
      (kept_with_one_more g.S.Base.tells (state g.S.Store c.self.inside.conn) (state g.S.Store c.append_payload.new.conn) c.args.payload.now c.self.invariant
      (λ told. c.in-Ok.ensures.stored (g.met.S.Base.honest c.append_payload.new.conn.store told).clean));
  no_doubt = rw (← c.self.view_is) at c.requires.settled;
}
