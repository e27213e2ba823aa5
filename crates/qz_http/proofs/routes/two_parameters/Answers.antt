use Rattle.qz_http.proofs.RouteLemmas.{three_parameters}
use Rattle.qz_http.proofs.routes.two_parameters.Goals as goal

pub returns-in-Some-cut : goal.returns-in-Some-cut
returns-in-Some-cut c = three_parameters c.args.rest.now c.in-Some.entry.now c.in-Some.version.now _ _ c.in-Some.ensures c.in-Some-cut.ensures
