use Rattle.std.proofs.Common.{◌≡◌, ◌++◌, ◌∷◌, [], rules}
use Rattle.qz_grading.specs.Steps.{is_answering, is_mark}
use Rattle.qz_usage.proofs.StepCounts.{counted_more, finished_more, given_more, given_in_range}
use Rattle.qz_usage.proofs.slot_run.SlotRun.keep.Goals as goal

pub invariant_of-self : goal.invariant_of-self
invariant_of-self c =
    let items = c.push.new.self.items in
    let before = c.self.inside.steps.items in
    let longer : items ≡ before ++ c.args.step ∷ [] = rw c.unwrap.ensures at c.push.ensures.items in
    record {
      answering = counted_more is_answering items before c.args.step _ _ _ longer c.self.invariant.answering c.is_answering.ensures c.from.ensures;
      marks = counted_more is_mark items before c.args.step _ _ _ longer c.self.invariant.marks c.is_mark.ensures c.from-2.ensures;
      finished = finished_more items before c.args.step _ _ longer c.self.invariant.finished c.is_finish.ensures;
      given = given_more items before c.args.step _ _ _ longer c.self.invariant.given c.given.ensures c.or-self-inside.ensures;
      in_range = rw (c.or-self-inside.ensures, c.given.ensures) (given_in_range _ _ c.requires.given c.self.invariant.in_range);
      limits = rw longer (search rules);
      max = c.self.invariant.max;
      earned = c.self.invariant.earned;
    }
