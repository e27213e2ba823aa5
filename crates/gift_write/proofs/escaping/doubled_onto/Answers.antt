use Rattle.std.proofs.Common.{◌++◌, string_bytes, sym, ap, ◌∙◌}
use Rattle.gift_write.proofs.EscapeLemmas.{category_name-other}
use Rattle.gift_write.proofs.escaping.doubled_onto.Goals as goal

pub returns : goal.returns
returns c = c.in_ok-push.ensures.bytes ∙ ap (λ t. string_bytes c.args.out.now ++ t) (sym (category_name-other c.args.c c.if-c-eq47.false))
