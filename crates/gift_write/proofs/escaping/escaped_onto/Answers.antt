use Rattle.std.proofs.Common.{◌++◌, string_bytes, sym, ap, ◌∙◌}
use Rattle.gift_write.proofs.EscapeLemmas.{escaped-plain}
use Rattle.gift_write.proofs.escaping.escaped_onto.Goals as goal

pub returns : goal.returns
returns c = c.in_ok-push-3.ensures.bytes ∙ ap (λ t. string_bytes c.args.out.now ++ t) (sym (escaped-plain c.args.c c.if-c-eq10.false (sym c.if-gets_backslash.ensures)))
