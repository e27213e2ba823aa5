use Rattle.std.proofs.Common.{rules, refl, []}
use Rattle.qz_usage.proofs.slot_run.SlotRun.new.Goals as goal
use Rattle.qz_usage.proofs.RunLemmas.{earned}

pub invariant_of-result : goal.invariant_of-result
invariant_of-result c = let none = c.in_ok-with_capacity.ensures.items in record {
  answering = rw none refl;
  marks = rw none refl;
  finished = rw none refl;
  given = rw none refl;
  in_range = search rules;
  limits = rw none (search rules);
  max = c.requires.max;
  earned = earned c.start.result c.args.question.now [] (c.start.ensures.played c.args.question.now);
}
