use Rattle.std.proofs.Common.{◌≡◌, ◌<◌, ◌≤◌, Some, None, length, ap, sym, subst, ◌∙◌}
use Rattle.std.specs.Prelude.{false, option_map, slice_get, unwrap_or}
use Rattle.std.proofs.lemmas.Bool.{ltb-false, ltb-true}
use Rattle.std.proofs.lemmas.Option.{slice_get_past, slice_get-get_or}
use Rattle.qz_gradebook.specs.declared.finished.Finished.{Finished}
use Rattle.qz_gradebook.specs.Orders.{IsGradebook}
use Rattle.qz_gradebook.specs.Totals.{Gradebook, is_attempt}
use Rattle.qz_gradebook.proofs.TotalLemmas.{total-nowhere, total-there}
use Rattle.qz_gradebook.proofs.rows.Rows.total.Goals as goal

pub returns-in_err-old-clause-value : goal.returns-in_err-old-clause-value
returns-in_err-old-clause-value c =
    let fs = c.args.self.now.finished in
    let i = c.place_of-place.result in
    let view : c.self.inside.finished.items ≡ fs = ap (λ (g : Gradebook). g.finished) c.self.view_is in
    let past : length c.deref.result.now ≤ i = ltb-false i (length c.deref.result.now) (sym c.in_err-old.ensures.lookup.0) in
    let none : slice_get fs i ≡ None = ap (λ gs. slice_get gs i) (sym (c.deref.ensures.value ∙ view)) ∙ slice_get_past c.deref.result.now i past in
    c.from_residual.ensures ∙ sym (total-nowhere c.args.quiz c.args.attempt fs i (subst IsGradebook view c.self.invariant) c.place_of-place.ensures (ap (λ o. unwrap_or (option_map (is_attempt c.args.quiz c.args.attempt) o) false) none))

pub returns-then-is_attempt-clause-value : goal.returns-then-is_attempt-clause-value
returns-then-is_attempt-clause-value c =
    let fs = c.args.self.now.finished in
    let i = c.place_of-place.result in
    let x = c.in_ok-old.old.now in
    let view : c.self.inside.finished.items ≡ fs = ap (λ (g : Gradebook). g.finished) c.self.view_is in
    let less : i < length c.deref.result.now = ltb-true i (length c.deref.result.now) (sym c.in_ok-old.ensures.lookup.0) in
    let there : slice_get fs i ≡ Some x = ap (λ gs. slice_get gs i) (sym (c.deref.ensures.value ∙ view)) ∙ slice_get-get_or c.deref.result.now i x less ∙ ap (λ (y : Finished). Some y) (sym c.in_ok-old.ensures.lookup.1) in
    sym (total-there c.args.quiz c.args.attempt fs i (subst IsGradebook view c.self.invariant) c.place_of-place.ensures x there (sym c.is_attempt.ensures ∙ c.if-is_attempt.true))

pub returns-else-is_attempt-clause-value : goal.returns-else-is_attempt-clause-value
returns-else-is_attempt-clause-value c =
    let fs = c.args.self.now.finished in
    let i = c.place_of-place.result in
    let x = c.in_ok-old.old.now in
    let view : c.self.inside.finished.items ≡ fs = ap (λ (g : Gradebook). g.finished) c.self.view_is in
    let less : i < length c.deref.result.now = ltb-true i (length c.deref.result.now) (sym c.in_ok-old.ensures.lookup.0) in
    let there : slice_get fs i ≡ Some x = ap (λ gs. slice_get gs i) (sym (c.deref.ensures.value ∙ view)) ∙ slice_get-get_or c.deref.result.now i x less ∙ ap (λ (y : Finished). Some y) (sym c.in_ok-old.ensures.lookup.1) in
    sym (total-nowhere c.args.quiz c.args.attempt fs i (subst IsGradebook view c.self.invariant) c.place_of-place.ensures (ap (λ o. unwrap_or (option_map (is_attempt c.args.quiz c.args.attempt) o) false) there ∙ sym c.is_attempt.ensures ∙ c.if-is_attempt.false))
