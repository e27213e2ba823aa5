use Rattle.std.proofs.Common.{◌<◌, length, drop, ap, arith}
use Rattle.qz_http.specs.Links.{head}
use Rattle.qz_http.proofs.LinkLemmas.{head_fits, short_for_body, body_awaited}
use Rattle.qz_http.proofs.fronts.front_of.Goals as goal

pub returns-in-More : goal.returns-in-More
returns-in-More c = record { awaits = head c.in-More.ensures.0 c.in-More.ensures.1; few = omega (arith, c.in-More.ensures.0) }

pub split_at-requires : goal.split_at-requires
split_at-requires c = head_fits c.args.bytes.now c.in-Whole.head c.in-Whole.ensures

pub returns-then-behind-head : goal.returns-then-behind-head
returns-then-behind-head c =
    let head = c.in-Whole.head in
    let short : length (drop head.len c.args.bytes.now) < head.body = omega (arith, ap length c.split_at.ensures.back, c.if-behind-head.true) in
    record {
      awaits = body_awaited c.args.bytes.now head c.in-Whole.ensures short;
      few = short_for_body c.args.bytes.now head c.in-Whole.ensures short;
    }
