use Rattle.std.proofs.Common.{List, rules}
use Rattle.std.proofs.lemmas.List.Sorted.{IsPartitionPoint-from_clause}
use Rattle.qz_gradebook.specs.declared.finished.Finished.{Finished}
use Rattle.qz_gradebook.specs.Totals.{comes_before}
use Rattle.qz_gradebook.proofs.TotalLemmas.{place-found, place-parted}
use Rattle.qz_gradebook.proofs.rows.Rows.place_of.Goals as goal

pub returns : goal.returns
returns c =
    let new : Finished = c.args.attempt.now in
    let fs : List Finished = c.self.inside.finished.items in
    rw (← c.self.view_is, ← c.deref.ensures.value) (place-found c.deref.result.now new c.partition_point.result c.partition_point.ensures.bound
    (IsPartitionPoint-from_clause (λ (f : Finished). comes_before f new) c.deref.result.now c.partition_point.result c.partition_point.ensures.partitioned (place-parted c.deref.result.now new (rw c.deref.ensures.value c.self.invariant)) (λ x b f' k. search rules)))
