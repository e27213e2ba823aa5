use Rattle.std.proofs.Common.{◌≡◌, ◌<◌, ◌∷◌, [], Some, ℕ, length, length-append, sym, subst, arith}
use Rattle.std.specs.Prelude.{slice_get, slice_set}
use Rattle.std.proofs.lemmas.List.{nil_from_length}
use Rattle.qz_visit.proofs.Closed.{JoinedFrom, join_lock, joined_all, joined_one, other_lock}
use Rattle.qz_visit.proofs.Standing.{there_at}
use Rattle.qz_visit.proofs.closing.join_parts.Goals as goal

pub join-requires-clause-pass : goal.join-requires-clause-pass
join-requires-clause-pass g c =
    let ls = c.args.parts.now.items in
    let before = c.args.passes.now.items in
    let others = c.args.others.items in
    let now = c.loop-other.passes.items in
    let left = c.pop.new.self.items in
    let k = c.len-index.result in
    let o = c.in-Some.other in
    let told = c.len-index.ensures in
    let at_end : k ≡ length left = omega (arith, told) in
    let so = subst (JoinedFrom before others now) c.in-Some.ensures.items c.loop-other.invariant in
    let few = so.few in
    let long = c.requires.own.count in
    let count = so.count in
    let one = length-append left (o ∷ []) in
    let inside : k < length ls = omega (arith, at_end, few, long, one) in
    let within : k < length now = omega (arith, at_end, few, count, one) in
    let lock = subst (λ (j : ℕ). slice_get ls j ≡ Some c.index.result.now) at_end (there_at ls k c.index.result.now inside c.index.ensures) in
    let at = subst (λ (j : ℕ). slice_get now j ≡ Some c.index_mut.result.now) at_end (there_at now k c.index_mut.result.now within c.index_mut.ensures.value) in
    join_lock ls before others now left o c.index_mut.result.now c.index.result.now c.requires.own so lock at

pub join-requires-clause-other : goal.join-requires-clause-other
join-requires-clause-other g c =
    let ls = c.args.parts.now.items in
    let before = c.args.passes.now.items in
    let others = c.args.others.items in
    let now = c.loop-other.passes.items in
    let left = c.pop.new.self.items in
    let k = c.len-index.result in
    let o = c.in-Some.other in
    let told = c.len-index.ensures in
    let at_end : k ≡ length left = omega (arith, told) in
    let so = subst (JoinedFrom before others now) c.in-Some.ensures.items c.loop-other.invariant in
    let few = so.few in
    let long = c.requires.own.count in
    let count = so.count in
    let one = length-append left (o ∷ []) in
    let inside : k < length ls = omega (arith, at_end, few, long, one) in
    let within : k < length now = omega (arith, at_end, few, count, one) in
    let lock = subst (λ (j : ℕ). slice_get ls j ≡ Some c.index.result.now) at_end (there_at ls k c.index.result.now inside c.index.ensures) in
    let at = subst (λ (j : ℕ). slice_get now j ≡ Some c.index_mut.result.now) at_end (there_at now k c.index_mut.result.now within c.index_mut.ensures.value) in
    other_lock ls before others now left o c.index.result.now c.requires.others so lock

pub loop-other-preserved : goal.loop-other-preserved
loop-other-preserved g c =
    let ls = c.args.parts.now.items in
    let before = c.args.passes.now.items in
    let others = c.args.others.items in
    let now = c.loop-other.passes.items in
    let left = c.pop.new.self.items in
    let k = c.len-index.result in
    let o = c.in-Some.other in
    let told = c.len-index.ensures in
    let at_end : k ≡ length left = omega (arith, told) in
    let so = subst (JoinedFrom before others now) c.in-Some.ensures.items c.loop-other.invariant in
    let few = so.few in
    let long = c.requires.own.count in
    let count = so.count in
    let one = length-append left (o ∷ []) in
    let inside : k < length ls = omega (arith, at_end, few, long, one) in
    let within : k < length now = omega (arith, at_end, few, count, one) in
    let lock = subst (λ (j : ℕ). slice_get ls j ≡ Some c.index.result.now) at_end (there_at ls k c.index.result.now inside c.index.ensures) in
    let at = subst (λ (j : ℕ). slice_get now j ≡ Some c.index_mut.result.now) at_end (there_at now k c.index_mut.result.now within c.index_mut.ensures.value) in
    subst (λ (j : ℕ). JoinedFrom before others (slice_set now j c.join.new.pass) left) (sym at_end) (joined_one before others now left o c.index_mut.result.now c.join.new.pass so at c.join.ensures)

pub returns : goal.returns
returns g c =
    let so = c.loop-other.invariant in
    let none = c.in_default.ensures.cases in
    let none_left = none.0 in
    let empty : c.loop-other.others.items ≡ [] = nil_from_length c.loop-other.others.items (omega (arith, none_left)) in
    joined_all c.args.passes.now.items c.args.others.items c.loop-other.passes.items (subst (JoinedFrom c.args.passes.now.items c.args.others.items c.loop-other.passes.items) empty so)
