use Rattle.std.proofs.Common.{arith, sym, ◌∙◌}
use Rattle.qz_wire.proofs.AnswerLemmas.{is-no-text, is-typed}
use Rattle.qz_wire.proofs.answers.typed_in.Goals as goal

pub returns-in-Ok-clause-value : goal.returns-in-Ok-clause-value
returns-in-Ok-clause-value c =
    let short = c.if-bytes-gt-MOST_TEXT.false in
    is-typed c.args.word.now c.in-Some.found c.as_slice-bytes.result.now (sym c.in-Some.is ∙ c.in_ok-found.ensures) c.as_slice-bytes.ensures c.in-Ok.text.now c.in_ok-of-in-Ok.field-0 c.in-Ok.ensures.cases c.in_ok-of-in-Ok.ensures (omega arith)

pub returns-clause-value : goal.returns-clause-value
returns-clause-value c = is-no-text c.args.word.now c.in-Some.found c.as_slice-bytes.result.now (sym c.in-Some.is ∙ c.in_ok-found.ensures) c.as_slice-bytes.ensures c.in-Err.ensures.cases.0
