use Rattle.std.proofs.Common.{get_or}
use Rattle.qz_grading.specs.declared.refusal.AttemptId.{AttemptId}
use Rattle.qz_stats.specs.Shards.{slots_in}
use Rattle.qz_stats.proofs.Gathering.{gathered-more}
use Rattle.qz_stats.proofs.Lists.{same_got}
use Rattle.qz_stats.proofs.slots.slots_onto.Goals as goal

pub loop-attempt-preserved : goal.loop-attempt-preserved
loop-attempt-preserved c =
    let attempts = c.as_slice-attempt-items.result.now in
    let none : AttemptId = record { user = 0; nth = 0 } in
    let item = get_or attempts c.loop-attempt.attempt-index none in
    record {
      added =
          gathered-more c.args.number c.args.shard.now.book attempts c.loop-attempt.attempt-index item (slots_in c.args.slots.now.items) (slots_in c.loop-attempt.slots.items) (slots_in c.slot_onto.new.slots.items) c.loop-attempt-test.true
          (same_got attempts c.loop-attempt.attempt-index none item c.loop-attempt-test.true) c.loop-attempt.invariant.added c.in_ok-slot_onto.ensures.added;
      all = c.in_ok-slot_onto.ensures.all;
      few = c.in_ok-slot_onto.ensures.few;
    }
