use Rattle.std.proofs.Common.{◌≡◌, ◌*◌, ◌^◌, take, pos, ◌≤ℤ◌, neg_ℤ}
use Rattle.qz_terms.specs.Rows.{sum_of}
use Rattle.qz_bulk.proofs.bulk_school.sum_of.Given as goal

abbrev pub invariant-loop-mark : goal.invariant-loop-mark
invariant-loop-mark l = record {
  sum : l.sum ≡ sum_of (take l.mark-index l.marks);
  least : neg_ℤ (pos (2 ^ 63 * l.mark-index)) ≤ℤ l.sum;
  greatest : l.sum ≤ℤ pos (2 ^ 63 * l.mark-index);
}
