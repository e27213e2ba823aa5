use Rattle.std.proofs.Common.{ℕ, ◌+◌, Option, Some, None, sym, ap, ◌∙◌}
use Rattle.std.specs.Option.{option_or}
use Rattle.std.specs.Prelude.{if◌then◌else◌}
use Rattle.qz_terms.specs.History.{is_target}
use Rattle.qz_book.proofs.TargetLemmas.{first-place}
use Rattle.qz_book.proofs.targets.first_left.Goals as goal

pub loop-place-preserved : goal.loop-place-preserved
loop-place-preserved c =
    let test = is_target c.args.book.now c.args.job c.args.position c.args.attempt in
    let n = c.loop-place.place in
    c.found_or-found.ensures
    ∙ ap (λ (o : Option ℕ). option_or o (if test (n + 1) then Some (n + 1) else None)) c.loop-place.invariant
    ∙ sym (first-place test n)
