use Rattle.std.proofs.Common.{get_or}
use Rattle.qz_grading.specs.declared.refusal.AttemptId.{AttemptId}
use Rattle.qz_terms.specs.History.{is_finished}
use Rattle.qz_stats.proofs.Lists.{filtered_more, same_got}
use Rattle.qz_stats.proofs.sampling.finished_onto.Goals as goal

pub loop-attempt-preserved : goal.loop-attempt-preserved
loop-attempt-preserved c =
    let none : AttemptId = record { user = 0; nth = 0 } in
    let item = get_or c.args.attempts.now c.loop-attempt.attempt-index none in
    filtered_more (is_finished c.args.book.now) c.args.attempts.now c.loop-attempt.attempt-index item c.args.found.now.items c.loop-attempt.found.items c.one_onto.new.found.items c.loop-attempt-test.true
    (same_got c.args.attempts.now c.loop-attempt.attempt-index none item c.loop-attempt-test.true) c.loop-attempt.invariant c.in_ok-one_onto.ensures
