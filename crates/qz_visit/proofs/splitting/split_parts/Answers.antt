use Rattle.std.proofs.Common.{◌+◌, ◌<◌, List, length, sym, subst, arith}
use Rattle.std.specs.Prelude.{slice_set}
use Rattle.qz_visit.specs.Ways.{Part}
use Rattle.qz_visit.proofs.Dealt.{SplitTo, split_count, split_one, split_there}
use Rattle.qz_visit.proofs.Standing.{there_at}
use Rattle.qz_visit.proofs.splitting.split_parts.Goals as goal

pub split-requires : goal.split-requires
split-requires g c =
    let ls = c.args.parts.now.items in
    let before = c.args.passes.now.items in
    let now = c.loop-index.passes.items in
    let k = c.loop-index.index in
    let so = c.loop-index.invariant.0 in
    let long = c.requires.own.count in
    let same = split_count before now c.loop-index.given.items k so in
    let counted = c.len-index-end.ensures in
    let test = c.loop-index-test.true in
    let within : k < length before = omega (arith, test, counted) in
    let lock = there_at ls k c.index.result.now (omega (arith, within, long)) c.index.ensures in
    let at = there_at now k c.index_mut.result.now (omega (arith, within, same)) c.index_mut.ensures.value in
    c.requires.own.own k c.index.result.now c.index_mut.result.now lock (split_there before now c.loop-index.given.items k c.index_mut.result.now so within at)

pub loop-index-preserved : goal.loop-index-preserved
loop-index-preserved g c =
    let before = c.args.passes.now.items in
    let now = c.loop-index.passes.items in
    let given = c.loop-index.given.items in
    let k = c.loop-index.index in
    let so = c.loop-index.invariant.0 in
    let same = split_count before now given k so in
    let counted = c.len-index-end.ensures in
    let test = c.loop-index-test.true in
    let within : k < length before = omega (arith, test, counted) in
    let at = there_at now k c.index_mut.result.now (omega (arith, within, same)) c.index_mut.ensures.value in
    let next = split_one before now given k c.index_mut.result.now c.split.new.pass c.split.result so within at c.split.ensures.left c.split.ensures.given in
    let pushed = c.push_reserved.ensures in
    let room = c.loop-index.invariant.1 in
    let many = c.loop-index.invariant.2 in
    let kept = pushed.capacity in
    let longer = pushed.len in (
      subst (λ (x : List Part). SplitTo before (slice_set now k c.split.new.pass) x (k + 1)) (sym pushed.items) next,
      omega (arith, room, kept),
      omega (arith, many, longer),
    )
