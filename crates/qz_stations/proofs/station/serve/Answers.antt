use Rattle.qz_stations.proofs.station.serve.Goals as goal

pub returns : goal.returns
returns g c =
    let is = c.serve-station-inside.ensures in
    rw (← c.station.view_is) record { going = is.going; as_often = is.as_often; goes_on = is.goes_on; notes = is.notes }
