use Rattle.std.proofs.Common.{refl}
use Rattle.sqlite.specs.Held.{state}
use Rattle.qz_sqlkeep.proofs.Keeping.{kept_again, kept_as_before, rests_as_before, same_again, same_if_kept, stands_again}
use Rattle.qz_sqlkeep.proofs.sql_keeper.SqlKeeperKeeper.reopen.Goals as goal

pub invariant_of-self : goal.invariant_of-self
invariant_of-self g c =
    rests_as_before g.S.Base.tells (state g.S.Store c.self.inside.conn) (state g.S.Store c.read_payloads.new.conn) c.in-Ok.ensures.idle c.self.invariant
    (same_again (λ t. t.payloads) g.S.Base.tells (state g.S.Store c.self.inside.conn) (state g.S.Store c.read_payloads.new.conn) c.in-Ok.found c.self.invariant (λ told. c.in-Ok.ensures.found (g.met.S.Base.honest c.read_payloads.new.conn.store told).clean))

pub invariant_of-self-in-Err : goal.invariant_of-self-in-Err
invariant_of-self-in-Err g c =
    rests_as_before g.S.Base.tells (state g.S.Store c.self.inside.conn) (state g.S.Store c.read_payloads.new.conn) c.in-Err.ensures.idle c.self.invariant
    (same_if_kept g.S.Base.tells (state g.S.Store c.self.inside.conn) (state g.S.Store c.read_payloads.new.conn) c.self.invariant (λ told. (g.met.S.Base.honest c.read_payloads.new.conn.store told).is_open) (λ told. c.in-Err.ensures.found (g.met.S.Base.honest c.read_payloads.new.conn.store told).clean))

pub returns-in-Ok-clause-list : goal.returns-in-Ok-clause-list
returns-in-Ok-clause-list g c = record {
  stands = rw (← c.self.view_is) (stands_again g.S.Base.tells (state g.S.Store c.self.inside.conn) (state g.S.Store c.read_payloads.new.conn) c.self.inside.doubt c.in-Ok.found c.self.invariant (λ told. c.in-Ok.ensures.found (g.met.S.Base.honest c.read_payloads.new.conn.store told).clean));
  kept = rw (← c.self.view_is) (kept_again g.S.Base.tells (state g.S.Store c.self.inside.conn) (state g.S.Store c.read_payloads.new.conn) c.in-Ok.found c.self.invariant (λ told. c.in-Ok.ensures.found (g.met.S.Base.honest c.read_payloads.new.conn.store told).clean));
  no_doubt = refl;
}

pub returns-in-Err-clause-list : goal.returns-in-Err-clause-list
returns-in-Err-clause-list g c = record {
  kept = rw (← c.self.view_is) (kept_as_before g.S.Base.tells (state g.S.Store c.self.inside.conn) (state g.S.Store c.read_payloads.new.conn) (same_if_kept g.S.Base.tells (state g.S.Store c.self.inside.conn) (state g.S.Store c.read_payloads.new.conn) c.self.invariant (λ told. (g.met.S.Base.honest c.read_payloads.new.conn.store told).is_open) (λ told. c.in-Err.ensures.found (g.met.S.Base.honest c.read_payloads.new.conn.store told).clean)));
  same_doubt = rw (← c.self.view_is) refl;
}
