use Rattle.qz_behave.proofs.MachineLemmas.{certainty-few}
use Rattle.qz_behave.proofs.grades.graded_outcome.Goals as goal

pub by_certainty-requires-clause-certainty : goal.by_certainty-requires-clause-certainty
by_certainty-requires-clause-certainty g c = certainty-few c.args.behaviour c.args.question.now c.args.response.now c.requires.fits
