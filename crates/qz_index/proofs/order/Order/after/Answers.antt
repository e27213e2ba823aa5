use Rattle.std.proofs.Common.{◌≡◌, ℕ, Some, None, refl, sym, ap, ◌∙◌}
use Rattle.qz_index.specs.Orders.{key_of}
use Rattle.qz_index.proofs.OrderLemmas.{after_key, first_true, found-after}
use Rattle.qz_index.proofs.order.Order.after.Goals as goal

pub loop-key-init : goal.loop-key-init
loop-key-init c = refl

pub loop-key-preserved : goal.loop-key-preserved
loop-key-preserved c = c.loop-key.invariant ∙ ap first_true c.in-Some.ensures.steps ∙ rw c.if-is_there.false refl

pub returns-then-is_there-clause-found : goal.returns-then-is_there-clause-found
returns-then-is_there-clause-found c =
    let es = c.args.self.now.attempts.entries in
    let range : c.range-key-items.result ≡ after_key (key_of c.args.after) es = c.range-key-items.ensures.between tt ∙ ap (λ (k : ℕ × ℕ). after_key k es) c.key_of-after.ensures in
    let first : first_true c.loop-key.key-iterator ≡ Some (c.in-Some.key.now, c.in-Some.is_there.now) = ap first_true c.in-Some.ensures.steps ∙ rw c.if-is_there.true refl in
    found-after c.args.self.now c.args.after (Some (c.in-Some.key.now, c.in-Some.is_there.now)) (ap first_true (sym (c.into_iter-key-iterator.ensures.into_iter_gives ∙ range)) ∙ c.loop-key.invariant ∙ first)

pub returns-clause-found : goal.returns-clause-found
returns-clause-found c =
    let es = c.args.self.now.attempts.entries in
    let range : c.range-key-items.result ≡ after_key (key_of c.args.after) es = c.range-key-items.ensures.between tt ∙ ap (λ (k : ℕ × ℕ). after_key k es) c.key_of-after.ensures in
    found-after c.args.self.now c.args.after None (ap first_true (sym (c.into_iter-key-iterator.ensures.into_iter_gives ∙ range)) ∙ c.loop-key.invariant ∙ ap first_true c.in-None.ensures.steps.0)
