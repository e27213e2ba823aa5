use Rattle.qz_http.proofs.AskedLemmas.{asked-by}
use Rattle.qz_http.proofs.items.ask_of_body.Goals as goal

pub returns-clause-asked : goal.returns-clause-asked
returns-clause-asked c =
    asked-by c.ask_of_json.result _ c.in_ok-caller.caller c.in_ok-caller.ensures c.ask_of_json.ensures.caller c.ask_of_json.ensures.asked
