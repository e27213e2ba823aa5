use Rattle.std.proofs.Common.{◌≡◌, ◌<◌, ◌≤◌, ◌^◌, ◌∙◌, true, false, length, drop, List, Option, ap, arith, subst, rules}
use Rattle.std.specs.Prelude.{ℤ}
use Rattle.std.specs.List.Sorted.{IsPartitionPoint}
use Rattle.std.proofs.lemmas.List.{length-map}
use Rattle.std.proofs.lemmas.List.Sorted.{IsPartitionPoint-from_clause}
use Rattle.qz_gradebook.specs.declared.finished.Finished.{Finished}
use Rattle.qz_gradebook.specs.Orders.{comes_before_user}
use Rattle.qz_gradebook.specs.Totals.{Gradebook, is_by, total, totals_of}
use Rattle.qz_gradebook.proofs.TotalLemmas.{by-parted, totals-few, totals-read, user-parted}
use Rattle.qz_gradebook.proofs.rows.Rows.attempts.Goals as goal

pub returns-clause-attempts : goal.returns-clause-attempts
returns-clause-attempts c =
    let fs : List Finished = c.self.inside.finished.items in
    let q = c.args.quiz in
    let u = c.args.user in
    let first = c.partition_point-first.result in
    let count = c.partition_point-count.result in
    let finished : fs ≡ c.args.self.now.finished = ap (λ (g : Gradebook). g.finished) c.self.view_is in
    let rest : c.split_at.result.1.now ≡ drop first fs = c.split_at.ensures.back ∙ ap (drop first) c.deref-2.ensures.value in
    let inside : first ≤ length fs = rw c.deref.ensures.value at c.partition_point-first.ensures.bound in
    let point : IsPartitionPoint (λ (f : Finished). comes_before_user q u f ≡ true) (λ (f : Finished). comes_before_user q u f ≡ false) fs first =
    subst (λ (xs : List Finished). IsPartitionPoint (λ (f : Finished). comes_before_user q u f ≡ true) (λ (f : Finished). comes_before_user q u f ≡ false) xs first) c.deref.ensures.value
    (IsPartitionPoint-from_clause (comes_before_user q u) c.deref.result.now first c.partition_point-first.ensures.partitioned (rw c.deref.ensures.value (user-parted fs q u c.self.invariant)) (λ x b f' k. search rules)) in
    let few : count ≤ length (drop first fs) = rw rest at c.partition_point-count.ensures.bound in
    let end : IsPartitionPoint (λ (f : Finished). is_by q u f ≡ true) (λ (f : Finished). is_by q u f ≡ false) (drop first fs) count =
    subst (λ (xs : List Finished). IsPartitionPoint (λ (f : Finished). is_by q u f ≡ true) (λ (f : Finished). is_by q u f ≡ false) xs count) rest
    (IsPartitionPoint-from_clause (is_by q u) c.split_at.result.1.now count c.partition_point-count.ensures.partitioned (rw rest (by-parted fs q u c.self.invariant first inside point)) (λ x b f' k. search rules)) in
    rw (c.split_at-2.ensures.front, rest, ← finished) (totals-read fs q u c.self.invariant first inside point count few end)

pub returns-clause-few : goal.returns-clause-few
returns-clause-few c =
    let fs : List Finished = c.self.inside.finished.items in
    let finished : fs ≡ c.args.self.now.finished = ap (λ (g : Gradebook). g.finished) c.self.view_is in
    let few : length (totals_of c.args.self.now.finished c.args.quiz c.args.user) < 2 ^ 32 = rw (← finished) (totals-few fs c.args.quiz c.args.user c.self.invariant) in
    let long = length-map c.split_at-2.result.0.now total in
    let same = ap (λ (ts : List (Option ℤ)). length ts) (returns-clause-attempts c) in
    omega arith
