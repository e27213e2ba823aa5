use Rattle.std.proofs.Common.{◌^◌, ◌-◌}
use Rattle.qz_loading.proofs.Refusing.{gate_step}
use Rattle.qz_loading.proofs.places.gate_behind.Goals as goal

pub loop-payload-preserved : goal.loop-payload-preserved
loop-payload-preserved c =
    rw (c.saturating_add-gate.ensures, c.saturating_add.ensures, c.as_slice.ensures)
    (gate_step c.args.payloads.now c.loop-payload.payload-index c.payload-item.result c.loop-payload.gate (2 ^ 64 - 1) c.loop-payload-test.true c.payload-item.is c.loop-payload.invariant)
