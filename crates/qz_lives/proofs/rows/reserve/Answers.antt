use Rattle.std.proofs.Common.{◌≡◌, Some, ap, refl, sym, ◌∙◌}
use Rattle.std.specs.BTreeMap.{Updates, get}
use Rattle.qz_gradebook.specs.Totals.{Gradebook}
use Rattle.qz_lives.specs.Attempts.{by_number}
use Rattle.qz_lives.proofs.Totals.{row-same}
use Rattle.qz_lives.proofs.rows.reserve.Goals as goal

pub returns-clause-kept : goal.returns-clause-kept
returns-clause-kept c = λ q u.
    let m = c.make_entry.new.rows in
    let n = c.get_mut.follows.lender c.reserve.new.self in
    let key = c.args.key in
    let there : get by_number m key ≡ Some c.in-Some.row.now = sym c.in-Some.ensures.value in
    let written : Updates by_number m n key (Some c.reserve.new.self) = (c.get_mut.follows.holds c.reserve.new.self).3 (rw there refl) in
    row-same m n key.0 key.1 c.in-Some.row.now c.reserve.new.self there written (ap (λ (g : Gradebook). g.finished) c.reserve.ensures.rest) q u ∙ c.make_entry.ensures.kept q u
