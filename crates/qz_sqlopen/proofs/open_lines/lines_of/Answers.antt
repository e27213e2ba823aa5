use Rattle.std.proofs.Common.{◌∙◌, arith, refl}
use Rattle.qz_sqlopen.proofs.Reading.{none_read, one_more_read}
use Rattle.qz_sqlopen.proofs.open_lines.lines_of.Goals as goal

pub loop-attempt-init : goal.loop-attempt-init
loop-attempt-init g c = record { so_far = none_read _ _ c.new-lines.ensures.bytes; kept = refl; doubt = refl; later = omega arith }

pub loop-attempt-preserved : goal.loop-attempt-preserved
loop-attempt-preserved g c = record {
  so_far = one_more_read c.args.attempts.now c.loop-attempt.attempt-index _ _ _ _ _ _ _ c.loop-attempt-test.true (record { user = 0; nth = 0 }) refl c.loop-attempt.invariant.so_far (λ clean. c.steps_of.ensures.clean clean) (λ clean. c.in_ok-steps.ensures.tables clean) (rw c.as_slice.ensures at c.in_ok-line_onto.ensures);
  kept = c.in_ok-steps.ensures.list.kept ∙ c.loop-attempt.invariant.kept;
  doubt = c.in_ok-steps.ensures.list.same_doubt ∙ c.loop-attempt.invariant.doubt;
  later = omega (arith, c.loop-attempt.invariant.later, c.steps_of.ensures.cause.later);
}
