use Rattle.std.proofs.Common.{◌∙◌}
use Rattle.qz_outside.proofs.Steps.{writes_more}
use Rattle.qz_links.proofs.send.send_all.Goals as goal

pub loop-rest-preserved : goal.loop-rest-preserved
loop-rest-preserved g c = record {
  written = writes_more _ _ _ _ _ _ _ _ c.in_ok-count.count c.loop-rest.invariant.written c.in_ok-count.ensures.bytes c.write.ensures.cause.later;
  apart = c.write.ensures.apart ∙ c.loop-rest.invariant.apart;
}
