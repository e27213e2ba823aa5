use Rattle.std.proofs.Common.{◌++◌, string_bytes, encode_utf8_all, encode_utf8, sym, ap, ◌∙◌, append_assoc}
use Rattle.gift_write.specs.Escapes.{written_text}
use Rattle.gift_write.proofs.EscapeLemmas.{written_text-push}
use Rattle.gift_write.proofs.escaping.text_onto.Goals as goal

pub loop-c-preserved : goal.loop-c-preserved
loop-c-preserved c =
    let e = c.args.escape in
    let before = written_text e (encode_utf8_all c.loop-c.yielded) in
    c.in_ok-char_onto.ensures ∙ ap (λ t. t ++ written_text e (encode_utf8 c.in-Some.c)) c.loop-c.invariant
    ∙ append_assoc (string_bytes c.args.out.now) before (written_text e (encode_utf8 c.in-Some.c))
    ∙ ap (λ t. string_bytes c.args.out.now ++ t) (sym (written_text-push e c.loop-c.yielded c.in-Some.c))
