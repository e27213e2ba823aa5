use Rattle.std.proofs.Common.{◌≡◌, ◌∙◌, ap, sym}
use Rattle.qz_usage.specs.Runs.{behaviour_of, steps_of}
use Rattle.qz_usage.proofs.RunLemmas.{taken, limits_kept}
use Rattle.qz_usage.proofs.slot_run.SlotRun.act.Goals as goal

pub feed-requires-clause-fits : goal.feed-requires-clause-fits
feed-requires-clause-fits g c =
    let t = taken (behaviour_of c.args.self.now) c.args.question.now c.args.self.now.bound.max c.args.self.now.steps c.args.step (sym c.cause.ensures ∙ c.in_default.is) in
    t.fits

pub feed-requires-clause-limits : goal.feed-requires-clause-limits
feed-requires-clause-limits g c =
    let t = taken (behaviour_of c.args.self.now) c.args.question.now c.args.self.now.bound.max c.args.self.now.steps c.args.step (sym c.cause.ensures ∙ c.in_default.is) in
    let same : c.self.inside.steps.items ≡ c.args.self.now.steps = ap steps_of c.self.view_is in
    let limits = rw same at c.self.invariant.limits in
    limits_kept (behaviour_of c.args.self.now) c.args.question.now c.args.self.now.bound.max c.args.self.now.steps c.args.step t limits
