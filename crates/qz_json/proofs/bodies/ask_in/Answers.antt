use Rattle.std.proofs.Common.{sym, ◌∙◌}
use Rattle.qz_json.proofs.BodyLemmas.{can-be-asked}
use Rattle.qz_json.proofs.bodies.ask_in.Goals as goal

pub returns-clause-asked : goal.returns-clause-asked
returns-clause-asked c = can-be-asked c.in_ok-verb.verb _ c.in_ok-request.ensures.verb (sym c.takes_key.ensures ∙ c.if-not-takes_key.false) c.in_ok-key.ensures.brief
