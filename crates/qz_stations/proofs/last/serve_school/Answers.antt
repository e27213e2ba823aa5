use Rattle.qz_stations.proofs.last.serve_school.Goals as goal

pub returns : goal.returns
returns g c =
    let crew = rw c.in-Ok.is at c.serve_doors-solo.ensures.served in
    record {
      left = c.serve_doors-solo.result.0;
      closes = c.serve_doors-solo.ensures.closes;
      after = c.serve_doors-solo.new.doors.items;
      beside = crew.beside;
      regraded = crew.regraded;
      grows = crew.put;
      last = c.regrade_last-last.ensures;
    }
