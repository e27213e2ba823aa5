use Rattle.qz_terms.specs.History.{learned_version}
use Rattle.qz_terms.proofs.Walks.{first_kept, option_map-either}
use Rattle.qz_book.proofs.known.learns.Goals as goal

pub loop-learned-preserved : goal.loop-learned-preserved
loop-learned-preserved c =
    let kept = first_kept (learned_version c.args.entry c.args.version) c.learned_by-learned-items.result.now c.loop-learned.learned-index c.learned-item.result c.loop-learned-test.true c.learned-item.is in
    let either = option_map-either (λ q. q.now) c.loop-learned.found c.learned_version.result in
    cc
