use Rattle.std.proofs.Common.{◌≡◌, ◌≤◌, take}
use Rattle.std.specs.Prelude.{string_bytes}
use Rattle.sqlite.specs.Held.{state}
use Rattle.qz_sqlkeep.specs.Keeping.{kept_in}
use Rattle.qz_sqlopen.proofs.Reading.{AreReadSoFar}
use Rattle.qz_sqlopen.proofs.open_lines.lines_of.Given as goal

abbrev pub invariant-loop-attempt : goal.invariant-loop-attempt
invariant-loop-attempt g l = record {
  so_far : AreReadSoFar (take l.attempt-index l.attempts) (state g.S.Store l.fn.keeper.conn) (state g.S.Store l.keeper.conn) (string_bytes l.lines);
  kept : kept_in g.S.Base.tells (state g.S.Store l.keeper.conn).now ≡ kept_in g.S.Base.tells (state g.S.Store l.fn.keeper.conn).now;
  doubt : l.keeper.doubt ≡ l.fn.keeper.doubt;
  later : l.fn.keeper.faults ≤ l.keeper.faults;
}
