use Rattle.std.proofs.Common.{Some, None, ◌++◌, ap, sym, ◌∙◌, arith}
use Rattle.std.proofs.lemmas.Bool.Decides.{Decides-eqb}
use Rattle.std.proofs.lemmas.Slice.Eq.{strip_prefix_is}
use Rattle.qz_text.proofs.GapsLemmas.{joined-from_escape, joined-from_star, joined-from_plain}
use Rattle.qz_text.proofs.gaps.first_sign.Goals as goal

pub returns-in-Some-clause-kept : goal.returns-in-Some-clause-kept
returns-in-Some-clause-kept c =
    let cut = strip_prefix_is Decides-eqb c.args.pattern.now c.as_slice.result.now (Some c.in-Some.later) c.in-Some.ensures.cases in
    joined-from_escape c.args.pattern.now c.in-Some.later.now (cut ∙ ap (λ l. l ++ c.in-Some.later.now) c.as_slice.ensures)

pub returns-in-42-default-clause-kept : goal.returns-in-42-default-clause-kept
returns-in-42-default-clause-kept c =
    joined-from_star c.args.pattern.now c.in_ok-later.field-0.1.now c.in_ok-later.field-0.0.now c.in_ok-later.ensures.cases.0 (omega arith)

pub returns-in_default-2-clause-kept : goal.returns-in_default-2-clause-kept
returns-in_default-2-clause-kept c =
    let apart = strip_prefix_is Decides-eqb c.args.pattern.now c.as_slice.result.now None c.in_default.ensures.cases in
    joined-from_plain c.args.pattern.now c.in_ok-later.field-0.1.now c.in_ok-later.field-0.0.now c.in_ok-later.ensures.cases.0 (omega arith)
    (λ ds e. apart ds (e ∙ sym (ap (λ l. l ++ ds) c.as_slice.ensures)))
