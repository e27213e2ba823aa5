use Rattle.qz_regrading.proofs.Working.{works_one}
use Rattle.qz_regrading.proofs.worker.ask.Goals as goal

pub returns-clause-works : goal.returns-clause-works
returns-clause-works g c =
    works_one _ _ _ _ (record { request = c.args.request; reply = c.ask.result }) c.requires.may (record { moment = c.now.result; told = c.now.ensures; answered = rw c.min-moment.ensures at c.ask.ensures })
