use Rattle.qz_http.proofs.RouteLemmas.{below_report}
use Rattle.qz_http.proofs.routes.report_below.Goals as goal

pub returns-in-Some-cut : goal.returns-in-Some-cut
returns-in-Some-cut c = below_report c.args.rest.now c.in-Some.quiz.now c.in-Some.name.now _ _ c.in-Some.ensures c.in-Some-cut.ensures
