use Rattle.std.proofs.Common.{◌++◌, List, [], ◌∷◌, ℕ, ap, ◌∙◌, length, arith}
use Rattle.std.proofs.lemmas.List.{length-append}
use Rattle.qz_wire.specs.Words.{parts_at}
use Rattle.qz_wire.proofs.HintLemmas.{too-many}
use Rattle.qz_wire.proofs.PartLemmas.{some-parts}
use Rattle.qz_wire.proofs.bank_words.lines_in.Goals as goal

pub returns-then-len-ge-MOST_HINTS : goal.returns-then-len-ge-MOST_HINTS
returns-then-len-ge-MOST_HINTS c =
    let hints = c.loop-line.items.items in
    too-many (parts_at 10 c.args.text.now) hints c.in-Some.line.now (parts_at 10 c.in-Some.behind.now)
    (c.loop-line.invariant.joined ∙ ap (λ (l : List (List ℕ)). hints ++ l) c.in-Some.ensures.parts)
    (some-parts 10 c.in-Some.behind.now)
    (omega (arith, c.if-len-ge-MOST_HINTS.true, c.len.ensures, c.in_ok-push.ensures.len, ap (λ (l : List (List ℕ)). length l) c.in_ok-push.ensures.items, length-append hints (c.in-Some-2.hint ∷ []), c.loop-line.items.ok))
