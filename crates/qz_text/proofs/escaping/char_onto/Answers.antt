use Rattle.std.proofs.Common.{◌++◌, string_bytes, sym, ap, ◌∙◌}
use Rattle.qz_text.proofs.HtmlLemmas.{html_of-other}
use Rattle.qz_text.proofs.escaping.char_onto.Goals as goal

pub returns : goal.returns
returns c = c.in_ok-push.ensures.bytes ∙ ap (λ t. string_bytes c.args.out.now ++ t) (sym (html_of-other c.args.c c.if-c-eq38.false c.if-c-eq60.false c.if-c-eq62.false c.if-c-eq34.false c.if-c-eq39.false))
