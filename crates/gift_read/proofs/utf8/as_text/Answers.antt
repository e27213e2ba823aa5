use Rattle.std.proofs.Common.{◌≡◌, Bool, true, false, take, length, refl, ap, sym, ◌∙◌}
use Rattle.std.specs.Str.{is_utf8}
use Rattle.std.proofs.lemmas.Str.{IsUtf8-from_is_utf8, is_utf8-from_IsUtf8}
use Rattle.gift_lex.specs.Blocks.{lines_of}
use Rattle.gift_lex.specs.Gathering.{split_lines}
use Rattle.std.specs.Str.Lossy.{utf8_valid_len}
use Rattle.gift_read.proofs.LineCounts.{length-lines_of}
use Rattle.gift_read.proofs.utf8.as_text.Goals as goal

pub returns-in-Ok-clause-utf8 : goal.returns-in-Ok-clause-utf8
returns-in-Ok-clause-utf8 c = is_utf8-from_IsUtf8 c.args.bytes.now c.in-Ok.ensures.cases.1

pub returns-in-Err-clause-not_utf8 : goal.returns-in-Err-clause-not_utf8
returns-in-Err-clause-not_utf8 c = go (is_utf8 c.args.bytes.now) refl
  where
    go : (b : Bool) → is_utf8 c.args.bytes.now ≡ b → b ≡ false
    go true e = absurd (c.in-Err.ensures.cases.0 (IsUtf8-from_is_utf8 c.args.bytes.now e))
    go false e = refl

pub returns-in-Err-clause-line : goal.returns-in-Err-clause-line
returns-in-Err-clause-line c =
    let front : take c.valid_up_to.result c.args.bytes.now ≡ take (utf8_valid_len c.args.bytes.now) c.args.bytes.now =
    ap (λ n. take n c.args.bytes.now) (c.valid_up_to.ensures ∙ c.in-Err.ensures.valid_len) in
    let utf8 = rw (sym c.valid_up_to.ensures) at c.in-Err.ensures.cases.1.front in
    c.line_count.ensures
    ∙ ap (λ t. length (split_lines t)) c.split_at.ensures.front
    ∙ sym (length-lines_of (take c.valid_up_to.result c.args.bytes.now) utf8)
    ∙ ap (λ t. length (lines_of t)) front
