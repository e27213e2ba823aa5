use Rattle.qz_stations.proofs.sides.at_each.Goals as goal

pub returns : goal.returns
returns g c = record { each = c.for_each_mut.ensures }
