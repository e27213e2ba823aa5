use Rattle.std.proofs.Common.{◌∙◌}
use Rattle.qz_index.specs.declared.keys.Replied.{Replied}
use Rattle.qz_terms.specs.Cause.{has_key}
use Rattle.qz_legal.proofs.TakeLemmas.{is-none-by, new-by}
use Rattle.qz_legal.proofs.legal.has_new_key.Goals as goal

pub returns-in-Some : goal.returns-in-Some
returns-in-Some c = λ h keys.
    rw c.in-Some.is (is-none-by c.look.result c.is_none.result c.is_none.ensures ∙ new-by (λ (r : Replied). r.at) (has_key c.args.made.now.caller c.in-Some.key) h c.look.result (c.look.ensures.at h keys))
