use Rattle.std.proofs.Common.{refl, ap, arith, length, sym}
use Rattle.std.proofs.Math.ListN.{length-map}
use Rattle.qz_ready_doors.specs.Kept.{free_slot}
use Rattle.qz_ready_doors.proofs.KeptLemmas.{kept_start, serves_none}
use Rattle.qz_ready_doors.proofs.serve.serve_from.Goals as goal

pub returns-in_default : goal.returns-in_default
returns-in_default g c = record {
  serves = rw c.none_taken.ensures.desks (∣ serves_none _ g.P.Link.ReadyLink _ c.args.work.links _ c.args.work.desks.items c.none_taken.result.links c.none_taken.result.short c.none_taken.result.why c.requires.start c.none_taken.ensures.none.0 c.none_taken.ensures.none.1 c.none_taken.ensures.why ∣₁);
}

pub invariant_of-held : goal.invariant_of-held
invariant_of-held g c = record {
  most = sym c.requires.most;
  count = omega (arith, c.requires.count, ap length c.seated.ensures, length-map c.args.work.desks.items (free_slot {L = g.row.P-Link.Denot}), c.seated.result.ok, c.args.work.desks.ok);
  kept = ∣ kept_start _ g.P.Link.ReadyLink _ _ _ c.args.work.desks.items c.requires.start c.seated.ensures refl refl refl ∣₁;
}
