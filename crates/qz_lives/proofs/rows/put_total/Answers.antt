use Rattle.std.proofs.Common.{◌≡◌, Some, refl, sym}
use Rattle.std.specs.BTreeMap.{Updates, get}
use Rattle.qz_lives.specs.Attempts.{by_number}
use Rattle.qz_lives.proofs.Totals.{row-put}
use Rattle.qz_lives.proofs.rows.put_total.Goals as goal

pub returns : goal.returns
returns c = λ q u.
    let m = c.args.rows.now in
    let n = c.get_mut.follows.lender c.put_total.new.self in
    let a = c.args.attempt in
    let there : get by_number m (c.args.quiz, a.user) ≡ Some c.in-Some.row.now = sym c.in-Some.ensures.value in
    let written : Updates by_number m n (c.args.quiz, a.user) (Some c.put_total.new.self) = (c.get_mut.follows.holds c.put_total.new.self).3 (rw there refl) in
    row-put m n c.args.quiz a c.args.total q u c.in-Some.row.now c.put_total.new.self written there c.put_total.ensures.put
