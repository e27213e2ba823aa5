use Rattle.std.proofs.Common.{Bool, ◌&&◌, length, sym, ap, ◌∙◌}
use Rattle.std.specs.Prelude.{◌==◌}
use Rattle.qz_legal.proofs.LearnTests.{matched-new, matched-old, matched-whole}
use Rattle.qz_legal.proofs.new_versions.learns_new.Goals.{then-is_new, else-is_new}
use Rattle.qz_legal.proofs.new_versions.learns_new.Goals as goal

pub loop-place-preserved : goal.loop-place-preserved
loop-place-preserved c =
    let h = c.args.book.now in
    let bs = c.args.bounds.now in
    let ls = c.args.learned.now in
    let n = c.loop-place.place in
    let b = c.index-bounds-place.result in
    elim c.if-is_new.branch [
      | then-is_new w ↦ rw (w.count-is, w.matches-is, w.learns_on-matches.ensures) (matched-new h bs ls n c.loop-place.count c.loop-place.matches b c.loop-place-test.true c.index-bounds-place.is (sym c.is_new.ensures ∙ w.if-is_new.true) c.loop-place.invariant)
      | else-is_new w ↦ rw (w.count-is, w.matches-is) (matched-old h bs ls n c.loop-place.count c.loop-place.matches b c.loop-place-test.true c.index-bounds-place.is (sym c.is_new.ensures ∙ w.if-is_new.false) c.loop-place.invariant)
    ]

pub returns-then-matches : goal.returns-then-matches
returns-then-matches c =
    let ls = c.args.learned.now in
    ap (λ (b : Bool). b && (c.loop-place.count == length ls)) (sym c.if-matches.true)
    ∙ matched-whole c.args.book.now c.args.bounds.now ls c.loop-place.place c.loop-place.count c.loop-place.matches c.loop-place-test.false c.loop-place.invariant

pub returns-else-matches : goal.returns-else-matches
returns-else-matches c =
    let ls = c.args.learned.now in
    c.if-matches.false
    ∙ ap (λ (b : Bool). b && (c.loop-place.count == length ls)) (sym c.if-matches.false)
    ∙ matched-whole c.args.book.now c.args.bounds.now ls c.loop-place.place c.loop-place.count c.loop-place.matches c.loop-place-test.false c.loop-place.invariant
