use Rattle.std.proofs.Common.{◌++◌, encode_utf8, sym, ap, ◌∙◌}
use Rattle.qz_text.specs.Html.{html_of}
use Rattle.qz_text.proofs.HtmlLemmas.{html_of-push}
use Rattle.qz_text.proofs.escaping.html_of.Goals as goal

pub loop-c-preserved : goal.loop-c-preserved
loop-c-preserved c =
    c.in_ok-char_onto.ensures ∙ ap (λ t. t ++ html_of (encode_utf8 c.in-Some.c)) c.loop-c.invariant
    ∙ sym (html_of-push c.loop-c.yielded c.in-Some.c)
