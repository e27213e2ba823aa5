use Rattle.std.proofs.Common.{◌≡◌, refl, ◌∙◌, string_bytes, ◌++◌, arith}
use Rattle.std.proofs.lemmas.Result.{err_from_is_err_and}
use Rattle.qz_wire.specs.Lines.{lines_of}
use Rattle.qz_replay.proofs.ReplayLemmas.{said, says_more, fails_more, says_all}
use Rattle.qz_replay.proofs.replaying.lines_behind.Goals as goal

pub returns-in_err-asked : goal.returns-in_err-asked
returns-in_err-asked g c =
    let p = err_from_is_err_and c.from_residual.result c.from_residual.ensures.1 in
    let reads = rw c.max.ensures at c.in_err-asked.ensures.value in
    rw (p.1, p.2) (fails_more c.loop-line.number c.loop-line.played _ (lines_of c.in-Some.after.now) c.in-Some.line.now (string_bytes c.loop-line.out) _ c.in-Some.ensures.line c.loop-line.invariant.goes_on c.in_err-asked.field-0.0 reads)

pub loop-line-preserved : goal.loop-line-preserved
loop-line-preserved g c =
    let number = c.loop-line.number in
    let before = c.loop-line.played in
    let asked = c.in_ok-asked.asked in
    let fate_is = c.in_ok-fate.ensures.fate in
    let next_is = c.in_ok-fate.ensures.next in
    let reads = rw c.max.ensures at c.in_ok-asked.ensures.value in
    let longer : string_bytes c.told_line_onto.new.out ≡ string_bytes c.loop-line.out ++ said number before asked = c.in_ok-told_line_onto.ensures ∙ rw (fate_is, next_is) refl in
    let more = says_more number before _ (lines_of c.in-Some.after.now) c.in-Some.line.now (string_bytes c.loop-line.out) _ c.in-Some.ensures.line c.loop-line.invariant.goes_on asked reads in
    record {
      goes_on = rw (longer, next_is) more;
      short = omega (arith, c.loop-line.invariant.short, c.in-Some.ensures.shorter);
    }

pub returns : goal.returns
returns g c = says_all c.loop-line.number c.loop-line.played _ (string_bytes c.loop-line.out) _ c.in_default.ensures.line c.loop-line.invariant.goes_on
