use Rattle.std.proofs.Common.{◌≡◌, false, ap, sym, ◌∙◌}
use Rattle.std.specs.BTreeMap.{get}
use Rattle.std.specs.Prelude.{is_some}
use Rattle.qz_gradebook.specs.Totals.{Gradebook}
use Rattle.qz_lives.specs.Attempts.{by_number}
use Rattle.qz_lives.proofs.Totals.{row-grown}
use Rattle.qz_lives.proofs.rows.make_entry.Goals as goal

pub returns-in_ok-insert-clause-kept : goal.returns-in_ok-insert-clause-kept
returns-in_ok-insert-clause-kept c =
    let fresh : is_some (get by_number c.args.rows.now c.args.key) ≡ false = sym c.contains_key.ensures ∙ c.if-not-contains_key.true in
    row-grown c.args.rows.now c.insert.new.self c.args.key c.new.result (ap (λ (g : Gradebook). g.finished) c.new.ensures) c.in_ok-insert.ensures.updates fresh
