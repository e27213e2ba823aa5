use Rattle.std.proofs.Common.{◌≡◌, ◌*◌, List, false, take, map, pos, neg_ℤ, ◌≤ℤ◌}
use Rattle.std.specs.List.{list_any}
use Rattle.qz_decimal.specs.Numbers.{one}
use Rattle.qz_grading.specs.declared.question.Question.{Question}
use Rattle.qz_terms.specs.Rows.{awaits_mark, sum_of}
use Rattle.qz_usage.specs.Usages.{AreBound}
use Rattle.qz_usage.proofs.UsageLemmas.{added, all_scored}
use Rattle.qz_usage.proofs.usage.Usage.total.Given as goal

abbrev pub invariant-loop-slot : goal.invariant-loop-slot
invariant-loop-slot l = record {
  none : (qs : List Question) → AreBound l.slot-items qs → list_any awaits_mark (take l.slot-index (all_scored l.slot-items qs)) ≡ false;
  value : (qs : List Question) → AreBound l.slot-items qs → l.total ≡ sum_of (map added (take l.slot-index (all_scored l.slot-items qs)));
  least : neg_ℤ (pos (60000 * one * l.slot-index)) ≤ℤ l.total;
  greatest : l.total ≤ℤ pos (60000 * one * l.slot-index);
}
