use Rattle.std.proofs.Common.{eqb, length, sym, ap, ◌∙◌}
use Rattle.std.specs.Str.{chars}
use Rattle.gift_lex.proofs.Fronts.{all_gap-unindented, length-chars-zero}
use Rattle.gift_lex.proofs.lines.is_blank_line.Goals as goal

pub returns : goal.returns
returns c =
    c.is_empty.ensures
    ∙ length-chars-zero c.unindented.result.now c.unindented.utf8
    ∙ ap (λ cs. eqb (length cs) 0) c.unindented.ensures
    ∙ sym (all_gap-unindented (chars c.args.line.now))
