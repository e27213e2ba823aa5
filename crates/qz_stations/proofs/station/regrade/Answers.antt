use Rattle.std.proofs.Common.{refl}
use Rattle.qz_stations.proofs.station.regrade.Goals as goal

pub returns-clause-regraded : goal.returns-clause-regraded
returns-clause-regraded g c =
    let is = c.regrade.ensures.regraded in
    rw (← c.station.view_is) record {
      gone_on = record { goes_on = is.gone_on.goes_on; end = refl };
      loop = is.loop;
      regrades = is.regrades;
      notes = is.notes;
    }
