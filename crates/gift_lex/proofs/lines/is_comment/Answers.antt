use Rattle.std.proofs.Common.{eqb, refl, ap, ◌∙◌}
use Rattle.std.specs.Prelude.{codes}
use Rattle.std.specs.List.{starts_with}
use Rattle.std.proofs.lemmas.Str.Pattern.{starts_text}
use Rattle.gift_lex.proofs.Fronts.{starts_with-chars}
use Rattle.gift_lex.proofs.lines.is_comment.Goals as goal

pub returns : goal.returns
returns c =
    starts_text c.starts_with.result (codes "//") c.unindented.result.now c.starts_with.ensures.cases
    ∙ starts_with-chars c.unindented.result.now (codes "//") c.unindented.utf8 refl
    ∙ ap (λ cs. starts_with eqb cs (codes "//")) c.unindented.ensures
