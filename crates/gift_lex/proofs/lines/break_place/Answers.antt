use Rattle.std.proofs.Common.{subst}
use Rattle.memchr.specs.Find.{IsFirstByte}
use Rattle.qz_lemmas.proofs.Bytes.{first_byte}
use Rattle.gift_lex.specs.Gathering.{is_break}
use Rattle.gift_lex.proofs.lines.break_place.Goals as goal

pub returns : goal.returns
returns c =
    first_byte is_break c.args.text.now c.memchr2.result
    (subst (λ bytes. IsFirstByte is_break bytes c.memchr2.result) c.as_bytes.ensures.value c.memchr2.ensures)
