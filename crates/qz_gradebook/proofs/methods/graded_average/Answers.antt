use Rattle.std.proofs.Common.{◌≡◌, ◌<◌, ◌^◌, Bool, sym, subst, ap, ◌∙◌, arith, to_z}
use Rattle.std.specs.Prelude.{IfSome, if◌then◌else◌, is_some}
use Rattle.std.specs.Int.{w128}
use Rattle.std.proofs.lemmas.List.Elements.{All-get_or}
use Rattle.qz_gradebook.specs.declared.finished.Finished.{Finished}
use Rattle.qz_terms.specs.Rows.{IsTotal}
use Rattle.qz_gradebook.proofs.GradeLemmas.{added-none, added_more, few-more, one-if, sum-kept}
use Rattle.qz_gradebook.proofs.methods.graded_average.Goals as goal

pub loop-attempt-init : goal.loop-attempt-init
loop-attempt-init c = record { added = added-none; few = omega arith }

pub overflow_add-count : goal.overflow_add-count
overflow_add-count c =
    let more = few-more c.loop-attempt.count c.loop-attempt.attempt-index c.from-count.result c.is_some.result c.loop-attempt.invariant.few c.from-count.ensures in
    omega (arith, c.loop-attempt-test.true, c.requires.few)

pub loop-attempt-preserved : goal.loop-attempt-preserved
loop-attempt-preserved c =
    let xs = c.args.attempts.now in
    let i = c.loop-attempt.attempt-index in
    let x = c.attempt-item.result in
    let within : IfSome x.total IsTotal = subst (λ (f : Finished). IfSome f.total IsTotal) (sym c.attempt-item.is) (All-get_or (λ (f : Finished). IfSome f.total IsTotal) xs i x c.loop-attempt-test.true c.requires.totals) in
    let small : c.loop-attempt.count < 2 ^ 32 = omega (arith, c.loop-attempt.invariant.few, c.loop-attempt-test.true, c.requires.few) in
    let kept = sum-kept (to_z w128 c.loop-attempt.sum-bits) c.loop-attempt.count x.total c.units-sum.result within c.units-sum.ensures c.loop-attempt.invariant.added.range small in
    let number : c.from-count.result ≡ (if is_some x.total then 1 else 0) = c.from-count.ensures ∙ one-if c.is_some.result ∙ ap (λ (b : Bool). if b then 1 else 0) c.is_some.ensures in
    record {
      added = rw (kept, number) (added_more xs i x (to_z w128 c.loop-attempt.sum-bits) c.loop-attempt.count c.loop-attempt-test.true c.attempt-item.is within c.loop-attempt.invariant.added);
      few = few-more c.loop-attempt.count i c.from-count.result c.is_some.result c.loop-attempt.invariant.few c.from-count.ensures;
    }
