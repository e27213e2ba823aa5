use Rattle.qz_index.specs.Jobs.{skip_of}
use Rattle.qz_index.proofs.skips.Skips.grow.Goals as goal

pub returns-in-Skipped-clause-same : goal.returns-in-Skipped-clause-same
returns-in-Skipped-clause-same c = λ job a k. c.make.ensures.same (skip_of job a k)
