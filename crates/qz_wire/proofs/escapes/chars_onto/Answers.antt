use Rattle.std.proofs.Common.{◌++◌, string_bytes, encode_utf8_all, encode_utf8, sym, ap, ◌∙◌, append_assoc}
use Rattle.qz_wire.specs.Escapes.{escaped}
use Rattle.qz_wire.proofs.EscapeLemmas.{escaped-push}
use Rattle.qz_wire.proofs.escapes.chars_onto.Goals as goal

pub loop-c-preserved : goal.loop-c-preserved
loop-c-preserved c =
    let before = escaped (encode_utf8_all c.loop-c.yielded) in
    c.in_ok-char_onto.ensures ∙ ap (λ t. t ++ escaped (encode_utf8 c.in-Some.c)) c.loop-c.invariant
    ∙ append_assoc (string_bytes c.args.out.now) before (escaped (encode_utf8 c.in-Some.c))
    ∙ ap (λ t. string_bytes c.args.out.now ++ t) (sym (escaped-push c.loop-c.yielded c.in-Some.c))
