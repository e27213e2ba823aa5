use Rattle.std.proofs.Common.{◌∙◌}
use Rattle.qz_index.proofs.VersionLemmas.{origins_more}
use Rattle.qz_index.proofs.versions.Versions.grow.Goals as goal

pub returns-in_err-make-clause-same : goal.returns-in_err-make-clause-same
returns-in_err-make-clause-same c = λ e v. c.make.ensures.same (e, v) ∙ c.loop-learned.invariant.1 e v

pub loop-learned-preserved : goal.loop-learned-preserved
loop-learned-preserved c = (
  origins_more c.loop-learned.self (record { origins = c.make.new.map }) c.learned_by-learned-items.result.now c.loop-learned.learned-index c.learned-item.result c.loop-learned-test.true c.learned-item.is
      (λ e v is. c.make.ensures.kept (e, v) is) c.in_ok-make.ensures.room c.loop-learned.invariant.0,
  λ e v. c.make.ensures.same (e, v) ∙ c.loop-learned.invariant.1 e v,
)
