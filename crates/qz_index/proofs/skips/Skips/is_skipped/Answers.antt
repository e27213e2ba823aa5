use Rattle.std.proofs.Common.{Bool, Option, false, ap, ◌∙◌}
use Rattle.std.specs.BTreeMap.{get}
use Rattle.std.specs.Prelude.{unwrap_or}
use Rattle.qz_index.specs.declared.skips.Skip.{Skip}
use Rattle.qz_index.specs.Jobs.{skip_cmp}
use Rattle.qz_index.proofs.skips.Skips.is_skipped.Goals as goal

pub returns : goal.returns
returns c = λ h are.
    c.unwrap_or.ensures ∙ ap (λ (o : Option Bool). unwrap_or o false) (c.copied.ensures ∙ c.get.ensures.value)
    ∙ ap (λ (k : Skip). unwrap_or (get skip_cmp c.args.self.now.skipped k) false) c.skip_of-key.ensures ∙ are.each c.args.job c.args.attempt c.args.slot
