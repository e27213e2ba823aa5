use Rattle.std.proofs.Common.{◌≡◌, ◌-◌, ◌<◌, ◌∙◌, ap, sym, subst, arith}
use Rattle.std.specs.Prelude.{vec_capacity, vec_len}
use Rattle.std.specs.List.{insert}
use Rattle.qz_gradebook.specs.Orders.{IsFinished, IsGradebook}
use Rattle.qz_gradebook.specs.Totals.{Gradebook}
use Rattle.qz_gradebook.proofs.TotalLemmas.{nowhere, put-again, put-new}
use Rattle.qz_gradebook.proofs.rows.Rows.put_total.Goals as goal

-- where it stood already
pub invariant_of-self : goal.invariant_of-self
invariant_of-self c =
    let finished : c.self.inside.finished.items ≡ c.args.self.now.finished = ap (λ (g : Gradebook). g.finished) c.self.view_is in
    let ok : IsFinished (record { quiz = c.args.quiz; attempt = c.args.attempt; total = c.args.total }) = record { number = c.requires.number; width = omega arith; total = c.requires.range } in
    rw finished (put-again c.args.quiz c.args.attempt c.args.total c.args.self.now.finished c.place_of-place.result (subst IsGradebook finished c.self.invariant) ok c.place_of-place.ensures (sym c.stands_at.ensures ∙ c.if-stands_at.true)).kept

pub returns-then-stands_at-clause-put : goal.returns-then-stands_at-clause-put
returns-then-stands_at-clause-put c =
    let finished : c.self.inside.finished.items ≡ c.args.self.now.finished = ap (λ (g : Gradebook). g.finished) c.self.view_is in
    let ok : IsFinished (record { quiz = c.args.quiz; attempt = c.args.attempt; total = c.args.total }) = record { number = c.requires.number; width = omega arith; total = c.requires.range } in
    rw finished (put-again c.args.quiz c.args.attempt c.args.total c.args.self.now.finished c.place_of-place.result (subst IsGradebook finished c.self.invariant) ok c.place_of-place.ensures (sym c.stands_at.ensures ∙ c.if-stands_at.true)).is

-- where it is new
pub unwrap-requires : goal.unwrap-requires
unwrap-requires c =
    let finished : c.self.inside.finished.items ≡ c.args.self.now.finished = ap (λ (g : Gradebook). g.finished) c.self.view_is in
    let room : vec_capacity c.self.inside.finished - vec_len c.self.inside.finished ≡ c.args.self.now.room = ap (λ (g : Gradebook). g.room) c.self.view_is in
    let some : 0 < c.args.self.now.room = c.requires.room (nowhere c.args.quiz c.args.attempt c.args.total c.args.self.now.finished c.place_of-place.result (subst IsGradebook finished c.self.invariant) c.place_of-place.ensures (sym c.stands_at.ensures ∙ c.if-stands_at.false)) in
    c.insert.ensures.succeeds (omega arith)

pub invariant_of-self-else-stands_at : goal.invariant_of-self-else-stands_at
invariant_of-self-else-stands_at c =
    let finished : c.self.inside.finished.items ≡ c.args.self.now.finished = ap (λ (g : Gradebook). g.finished) c.self.view_is in
    let ok : IsFinished (record { quiz = c.args.quiz; attempt = c.args.attempt; total = c.args.total }) = record { number = c.requires.number; width = omega arith; total = c.requires.range } in
    let items : c.insert.new.self.items ≡ insert c.self.inside.finished.items c.place_of-place.result (record { quiz = c.args.quiz; attempt = c.args.attempt; total = c.args.total }) = rw c.unwrap.ensures at c.insert.ensures.items in
    rw (items, finished) (put-new c.args.quiz c.args.attempt c.args.total c.args.self.now.finished c.place_of-place.result (subst IsGradebook finished c.self.invariant) ok c.place_of-place.ensures (sym c.stands_at.ensures ∙ c.if-stands_at.false)).kept

pub returns-else-stands_at-clause-put : goal.returns-else-stands_at-clause-put
returns-else-stands_at-clause-put c =
    let finished : c.self.inside.finished.items ≡ c.args.self.now.finished = ap (λ (g : Gradebook). g.finished) c.self.view_is in
    let ok : IsFinished (record { quiz = c.args.quiz; attempt = c.args.attempt; total = c.args.total }) = record { number = c.requires.number; width = omega arith; total = c.requires.range } in
    let items : c.insert.new.self.items ≡ insert c.self.inside.finished.items c.place_of-place.result (record { quiz = c.args.quiz; attempt = c.args.attempt; total = c.args.total }) = rw c.unwrap.ensures at c.insert.ensures.items in
    rw (items, finished) (put-new c.args.quiz c.args.attempt c.args.total c.args.self.now.finished c.place_of-place.result (subst IsGradebook finished c.self.invariant) ok c.place_of-place.ensures (sym c.stands_at.ensures ∙ c.if-stands_at.false)).is

pub returns-else-stands_at-clause-changed : goal.returns-else-stands_at-clause-changed
returns-else-stands_at-clause-changed c there =
    let finished : c.self.inside.finished.items ≡ c.args.self.now.finished = ap (λ (g : Gradebook). g.finished) c.self.view_is in
    let none = nowhere c.args.quiz c.args.attempt c.args.total c.args.self.now.finished c.place_of-place.result (subst IsGradebook finished c.self.invariant) c.place_of-place.ensures (sym c.stands_at.ensures ∙ c.if-stands_at.false) in
    absurd cc
