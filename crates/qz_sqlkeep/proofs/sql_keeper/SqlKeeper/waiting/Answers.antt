use Rattle.std.proofs.Common.{refl}
use Rattle.sqlite.specs.Held.{state}
use Rattle.qz_sqltables.specs.Rows.{waiting}
use Rattle.qz_sqlkeep.proofs.Keeping.{kept_as_before, rests_as_before, same_again, same_if_kept, told_found}
use Rattle.qz_sqlkeep.proofs.sql_keeper.SqlKeeper.waiting.Goals as goal

pub invariant_of-self : goal.invariant_of-self
invariant_of-self g c =
    rests_as_before g.S.Base.tells (state g.S.Store c.self.inside.conn) (state g.S.Store c.read_waiting.new.conn) c.in-Ok.ensures.idle c.self.invariant
    (same_again (waiting c.args.quiz) g.S.Base.tells (state g.S.Store c.self.inside.conn) (state g.S.Store c.read_waiting.new.conn) c.in-Ok.found c.self.invariant (λ told. c.in-Ok.ensures.found (g.met.S.Base.honest c.read_waiting.new.conn.store told).clean))

pub invariant_of-self-in-Err : goal.invariant_of-self-in-Err
invariant_of-self-in-Err g c =
    rests_as_before g.S.Base.tells (state g.S.Store c.self.inside.conn) (state g.S.Store c.read_waiting.new.conn) c.in-Err.ensures.idle c.self.invariant
    (same_if_kept g.S.Base.tells (state g.S.Store c.self.inside.conn) (state g.S.Store c.read_waiting.new.conn) c.self.invariant (λ told. (g.met.S.Base.honest c.read_waiting.new.conn.store told).is_open) (λ told. c.in-Err.ensures.found (g.met.S.Base.honest c.read_waiting.new.conn.store told).clean))

pub returns-in-Ok-clause-list : goal.returns-in-Ok-clause-list
returns-in-Ok-clause-list g c = record {
  told = rw (← c.self.view_is) (told_found (waiting c.args.quiz) g.S.Base.tells (state g.S.Store c.self.inside.conn) (state g.S.Store c.read_waiting.new.conn) c.in-Ok.found c.self.invariant (λ told. c.in-Ok.ensures.found (g.met.S.Base.honest c.read_waiting.new.conn.store told).clean));
  kept = rw (← c.self.view_is) (kept_as_before g.S.Base.tells (state g.S.Store c.self.inside.conn) (state g.S.Store c.read_waiting.new.conn) (same_again (waiting c.args.quiz) g.S.Base.tells (state g.S.Store c.self.inside.conn) (state g.S.Store c.read_waiting.new.conn) c.in-Ok.found c.self.invariant (λ told. c.in-Ok.ensures.found (g.met.S.Base.honest c.read_waiting.new.conn.store told).clean)));
  same_doubt = rw (← c.self.view_is) refl;
}

pub returns-in-Err-clause-list : goal.returns-in-Err-clause-list
returns-in-Err-clause-list g c = record {
  told = tt;
  kept = rw (← c.self.view_is) (kept_as_before g.S.Base.tells (state g.S.Store c.self.inside.conn) (state g.S.Store c.read_waiting.new.conn) (same_if_kept g.S.Base.tells (state g.S.Store c.self.inside.conn) (state g.S.Store c.read_waiting.new.conn) c.self.invariant (λ told. (g.met.S.Base.honest c.read_waiting.new.conn.store told).is_open) (λ told. c.in-Err.ensures.found (g.met.S.Base.honest c.read_waiting.new.conn.store told).clean)));
  same_doubt = rw (← c.self.view_is) refl;
}
