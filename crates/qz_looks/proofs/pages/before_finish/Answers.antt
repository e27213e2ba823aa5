use Rattle.std.proofs.Common.{ℕ, ap, take, ◌∙◌}
use Rattle.qz_looks.proofs.PageLemmas.{before_front}
use Rattle.qz_looks.proofs.pages.before_finish.Goals as goal

pub returns : goal.returns
returns c = c.split_at.ensures.front ∙ ap (λ (n : ℕ). take n c.args.steps.now) c.count_before.ensures.value ∙ before_front c.args.steps.now
