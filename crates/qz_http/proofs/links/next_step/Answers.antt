use Rattle.qz_http.specs.Links.{refused}
use Rattle.qz_http.proofs.LinkLemmas.{stays_waiting}
use Rattle.qz_http.proofs.links.next_step.Goals as goal

pub returns-in-Part-clause-steps : goal.returns-in-Part-clause-steps
returns-in-Part-clause-steps c = stays_waiting c.args.finished c.args.bytes.now c.waiting.result c.waiting.ensures.value c.in-Part.ensures.awaits

pub returns-in-Bad-clause-steps : goal.returns-in-Bad-clause-steps
returns-in-Bad-clause-steps c = refused c.in-Bad.status c.in-Bad.ensures
