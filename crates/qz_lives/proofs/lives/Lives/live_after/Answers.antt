use Rattle.std.proofs.Common.{◌≡◌, ℕ, Bool, Some, None, option_map, refl, sym, ap, ◌∙◌}
use Rattle.qz_lives.specs.Attempts.{key_of}
use Rattle.qz_lives.proofs.Lively.{after_key, attempt_at, first_true, live-found}
use Rattle.qz_lives.proofs.lives.Lives.live_after.Goals as goal

pub loop-key-init : goal.loop-key-init
loop-key-init c = refl

pub returns-then-goes_on : goal.returns-then-goes_on
returns-then-goes_on c = λ h lives.
    let a = c.args.after in
    let m = c.args.self.now in
    let range : c.range-key-items.result ≡ after_key (key_of a) m.going.entries = c.range-key-items.ensures.between tt ∙ ap (λ (k : ℕ × ℕ). after_key k m.going.entries) c.key_of-after.ensures in
    let first : first_true c.loop-key.key-iterator ≡ Some (c.in-Some.key.now, c.in-Some.goes_on.now) = ap first_true c.in-Some.ensures.steps ∙ rw c.if-goes_on.true refl in
    let found : first_true (after_key (key_of a) m.going.entries) ≡ Some (c.in-Some.key.now, c.in-Some.goes_on.now) = ap first_true (sym (c.into_iter-key-iterator.ensures.into_iter_gives ∙ range)) ∙ c.loop-key.invariant ∙ first in
    sym (ap (option_map (λ (e : (ℕ × ℕ) × Bool). attempt_at e.0)) found) ∙ live-found m h a lives c.range-key-items.ensures.ordered

pub loop-key-preserved : goal.loop-key-preserved
loop-key-preserved c = c.loop-key.invariant ∙ ap first_true c.in-Some.ensures.steps ∙ rw c.if-goes_on.false refl

pub returns : goal.returns
returns c = λ h lives.
    let a = c.args.after in
    let m = c.args.self.now in
    let range : c.range-key-items.result ≡ after_key (key_of a) m.going.entries = c.range-key-items.ensures.between tt ∙ ap (λ (k : ℕ × ℕ). after_key k m.going.entries) c.key_of-after.ensures in
    let found : first_true (after_key (key_of a) m.going.entries) ≡ None = ap first_true (sym (c.into_iter-key-iterator.ensures.into_iter_gives ∙ range)) ∙ c.loop-key.invariant ∙ ap first_true c.in-None.ensures.steps.0 in
    sym (ap (option_map (λ (e : (ℕ × ℕ) × Bool). attempt_at e.0)) found) ∙ live-found m h a lives c.range-key-items.ensures.ordered
