use Rattle.std.proofs.Common.{sym}
use Rattle.std.proofs.Math.Logic.{∥∥₁_map}
use Rattle.qz_ready_doors.proofs.KeptLemmas.{kept_ends, stops_so}
use Rattle.qz_ready_doors.proofs.serve.ended.Goals as goal

pub returns : goal.returns
returns g c = record {
  serves = rw (sym c.stop_all.ensures.most) (∥∥₁_map c.stop_all.ensures.kept (λ k. kept_ends _ _ _ _ c.stop_all.new.desks c.vacated.result.items c.why-why.result k c.vacated.ensures
      (stops_so _ _ _ _ c.stop_all.new.desks c.why-why.result k c.why-why.ensures.enough c.why-why.ensures.over c.why-why.ensures.fault)));
}
