use Rattle.std.proofs.Common.{◌≡◌, arith}
use Rattle.qz_solo.proofs.Beginning.{fresh_more, fresh_none}
use Rattle.qz_solo.proofs.founding.fresh.Goals as goal

pub loop-index-init : goal.loop-index-init
loop-index-init c = rw c.new-shards.ensures.items (fresh_none c.args.count)

pub loop-index-preserved : goal.loop-index-preserved
loop-index-preserved c =
    let s = c.in_ok-empty.field-0 in
    let more = fresh_more c.args.count c.loop-index.index c.loop-index.shards.items s c.loop-index.invariant c.in_ok-empty.ensures.index c.in_ok-empty.ensures.count c.in_ok-empty.ensures.empty in
    rw c.in_ok-push.ensures.items more

pub returns : goal.returns
returns c =
    let end = c.loop-index.auto.index-end in
    let test = c.loop-index-test.false in
    let all : c.loop-index.index ≡ c.args.count = omega (arith, end, test) in
    rw all at c.loop-index.invariant
