use Rattle.qz_http.proofs.RouteLemmas.{second_parameter}
use Rattle.qz_http.proofs.routes.one_parameter.Goals as goal

pub returns-in-Some : goal.returns-in-Some
returns-in-Some c = second_parameter c.args.rest.now _ _ c.in-Some.ensures
