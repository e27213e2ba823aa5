use Rattle.std.proofs.Common.{arith}
use Rattle.qz_grading.proofs.WrittenNumbers.{length-decimal-step, length-decimal-one, length-decimal-few}
use Rattle.qz_grading.proofs.written.digit_count.Goals as goal

pub overflow_add-count : goal.overflow_add-count
overflow_add-count c = omega (arith, c.loop-left.invariant, length-decimal-few c.args.number (omega arith))

pub loop-left-preserved : goal.loop-left-preserved
loop-left-preserved c = omega (arith, c.loop-left.invariant, length-decimal-step c.loop-left.left (omega arith) (omega arith))

pub returns-clause-value : goal.returns-clause-value
returns-clause-value c = omega (arith, c.loop-left.invariant, length-decimal-one c.loop-left.left (omega arith))

pub returns-clause-few : goal.returns-clause-few
returns-clause-few c = omega (arith, c.loop-left.invariant, length-decimal-few c.args.number (omega arith))
