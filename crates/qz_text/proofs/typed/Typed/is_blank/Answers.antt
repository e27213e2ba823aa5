use Rattle.std.proofs.Common.{eqb, length, ap, ◌∙◌}
use Rattle.qz_text.proofs.FoldedLemmas.{is_blank-folded}
use Rattle.qz_text.proofs.typed.Typed.is_blank.Goals as goal

pub returns : goal.returns
returns c = c.is_empty.ensures ∙ ap (λ bytes. eqb (length bytes) 0) c.compared.ensures ∙ is_blank-folded c.args.self.now
