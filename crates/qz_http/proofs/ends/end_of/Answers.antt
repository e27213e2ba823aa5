use Rattle.qz_http.specs.declared.responses.Route.TheVariants as route
use Rattle.qz_http.proofs.ends.end_of.Goals as goal

pub returns : goal.returns
returns c = c.end_from.ensures.so route.Ask
