use Rattle.std.proofs.Common.{◌<◌, map, arith}
use Rattle.qz_stats.specs.Shards.{replayed}
use Rattle.qz_stats.proofs.Chunks.{chunks-whole, from-first, joined-whole}
use Rattle.qz_stats.proofs.analysis.replay_all.Goals as goal

pub returns : goal.returns
returns g c =
    let size = c.max-size.result in
    let lists = c.args.lists.now in
    let parts = c.in_ok-parts.parts.items in
    let some : 0 < size = let is = c.max-size.ensures in omega arith in
    joined-whole (map (replayed c.args.quiz) lists) parts c.joined.result c.joined.ensures.shards c.joined.ensures.all
    (λ all. chunks-whole c.args.quiz lists size parts some c.in_ok-parts.ensures.count (from-first c.args.quiz lists size parts c.in_ok-parts.ensures.each) all)
