use Rattle.std.proofs.Common.{sym, ◌∙◌, arith}
use Rattle.qz_grading.specs.Words.{in_digits}
use Rattle.qz_grading.proofs.DigitLemmas.{tenth_fits}
use Rattle.qz_grading.proofs.DigitLemmas.{some_place, drop_zero, keep_last, no_decimals}
use Rattle.qz_grading.proofs.WrittenNumbers.{length-in_digits, length-behind_point}
use Rattle.qz_grading.proofs.written.decimals_len.Goals as goal

pub returns-then-part-eq0-clause-value : goal.returns-then-part-eq0-clause-value
returns-then-part-eq0-clause-value c =
    rw (c.if-part-eq0.true, no_decimals c.args.places) (omega arith)

pub loop-digits-preserved : goal.loop-digits-preserved
loop-digits-preserved c =
    let l = c.loop-digits in
    let places = some_place l.left l.digits l.invariant.some l.invariant.fit in
    record {
      some = omega arith;
      few = omega arith;
      fit = tenth_fits l.left l.digits l.invariant.some l.invariant.fit;
      same = drop_zero l.left l.digits places l.invariant.some (omega arith) c.loop-digits-test.true ∙ l.invariant.same;
    }

pub returns-clause-value : goal.returns-clause-value
returns-clause-value c =
    let l = c.loop-digits in
    let places = some_place l.left l.digits l.invariant.some l.invariant.fit in
    let long = length-in_digits l.left l.digits places l.invariant.fit (omega arith) in
    let same = sym l.invariant.same ∙ keep_last l.left l.digits places (omega arith) c.loop-digits-test.false in
    rw same (omega (arith, long, length-behind_point (in_digits l.left l.digits) (omega (arith, long))))
