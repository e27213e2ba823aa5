use Rattle.std.proofs.Common.{sym, ◌∙◌}
use Rattle.qz_wire.proofs.AskingLemmas.{token_text}
use Rattle.qz_wire.proofs.BriefLemmas.{brief-token}
use Rattle.qz_wire.proofs.words.token_in.Goals as goal

pub returns-then-is_token-clause-value : goal.returns-then-is_token-clause-value
returns-then-is_token-clause-value c = rw c.ok.ensures.value (token_text c.args.word.now c.from_utf8.result (sym c.is_token.ensures ∙ c.if-is_token.true) c.from_utf8.ensures.cases)

pub returns-then-is_token-clause-brief : goal.returns-then-is_token-clause-brief
returns-then-is_token-clause-brief c =
    rw (c.ok.ensures.value, token_text c.args.word.now c.from_utf8.result (sym c.is_token.ensures ∙ c.if-is_token.true) c.from_utf8.ensures.cases)
    (brief-token c.args.word.now)
