use Rattle.std.proofs.Common.{◌≡◌, ◌++◌, ℕ, arith, map, subst}
use Rattle.qz_terms.specs.Lists.{places_to}
use Rattle.qz_bulk.specs.Bulk.{save_line}
use Rattle.qz_bulk.proofs.BulkLemmas.{more_mapped}
use Rattle.qz_bulk.proofs.bulk_school.saves_onto.Goals as goal

pub loop-before-preserved : goal.loop-before-preserved
loop-before-preserved c = rw (c.in_ok-added.ensures, c.in_ok-save_line.ensures, c.loop-before.invariant) (more_mapped (save_line c.args.student) c.args.lines.now c.loop-before.before)

pub returns : goal.returns
returns c =
    let all : c.loop-before.before ≡ 10 = omega (arith, c.loop-before-test.false, c.loop-before.auto.before-end) in
    subst (λ (n : ℕ). c.loop-before.lines ≡ c.args.lines.now ++ map (save_line c.args.student) (places_to n)) all c.loop-before.invariant
