use Rattle.std.proofs.Common.{refl, arith}
use Rattle.qz_stations.proofs.Passing.{get_first, set_first}
use Rattle.qz_stations.proofs.Regrading.{solo_serves}
use Rattle.qz_stations.proofs.last.regrade_last.Goals as goal

pub returns-then-regraders-eq0 : goal.returns-then-regraders-eq0
returns-then-regraders-eq0 g c = let none = c.if-regraders-eq0.true in (omega (arith, none), refl, refl)

pub regrade_loop-requires-clause-serves : goal.regrade_loop-requires-clause-serves
regrade_loop-requires-clause-serves g c = solo_serves _ _

pub returns : goal.returns
returns g c =
    let some = c.if-regraders-eq0.false in (
      omega (arith, some),
      record {
        door = c.index_mut.result.now.0;
        before = c.index_mut.result.now.1;
        clock = c.regrade_loop.new.clock;
        first = get_first _ _ c.requires c.index_mut.ensures.value;
        regrades = c.regrade_loop.ensures.regrades;
        ends = c.regrade_loop.ensures.ends;
        doors = set_first _ _ _ c.requires c.index_mut.ensures.value;
      },
    )
