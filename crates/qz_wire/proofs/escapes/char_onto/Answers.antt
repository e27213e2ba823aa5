use Rattle.std.proofs.Common.{◌++◌, string_bytes, sym, ap, ◌∙◌}
use Rattle.qz_wire.proofs.EscapeLemmas.{escaped-other}
use Rattle.qz_wire.proofs.escapes.char_onto.Goals as goal

pub returns-in_ok-push-in-None : goal.returns-in_ok-push-in-None
returns-in_ok-push-in-None c = c.in_ok-push-in-None.ensures.bytes ∙ ap (λ t. string_bytes c.args.out.now ++ t) (sym (escaped-other c.args.c (sym c.in-None.ensures)))
