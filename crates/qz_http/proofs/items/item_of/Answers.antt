use Rattle.qz_http.proofs.RouteLemmas.{item_by_parts}
use Rattle.qz_http.specs.Routes.{way_of}
use Rattle.qz_http.proofs.items.item_of.Goals as goal

pub returns-clause-value : goal.returns-clause-value
returns-clause-value c = λ h is.
    item_by_parts c.item_at.result _ _ _ _ _ _ _ c.args.body.now is.target is.method is.authorization c.token_in.ensures.value
    (c.item_at.ensures.value (way_of c.args.head.target.now) c.path_in.ensures)
