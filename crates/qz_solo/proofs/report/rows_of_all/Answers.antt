use Rattle.std.proofs.Common.{◌<◌, ◌+◌, ◌++◌, List, length, refl, ap, ◌∙◌, arith}
use Rattle.std.proofs.lemmas.Result.{err_from_is_err_and}
use Rattle.qz_school.specs.Reports.{short, untold}
use Rattle.qz_solo.proofs.Reporting.{count_read, read_more, read_none, rows_whole, told_more}
use Rattle.qz_solo.proofs.Standing.{part_there}
use Rattle.qz_solo.proofs.report.rows_of_all.Goals as goal

pub loop-index-init : goal.loop-index-init
loop-index-init g c = (read_none g.K.Keeper.sound g.K.Keeper.faults c.args.shards.now.items, c.empty-all.ensures)

pub returns-in_err-rows-clause-stops : goal.returns-in_err-rows-clause-stops
returns-in_err-rows-clause-stops g c =
    let p = err_from_is_err_and c.from_residual.result c.from_residual.ensures.1 in
    let ss = c.loop-index.shards.items in
    let i = c.loop-index.index in
    let s = c.index_mut.result.now in
    let read = c.loop-index.invariant.0 in
    let long = count_read g.K.Keeper.sound g.K.Keeper.faults i c.args.shards.now.items ss read in
    let last = c.len-index-end.ensures in
    let test = c.loop-index-test.true in
    let inside : i < length ss = omega (arith, long, last, test) in
    rw (p.1, p.2) (untold i ss s c.rows.new.shard read (part_there ss i s inside c.index_mut.ensures.value) c.in_err-rows.ensures.told refl)

pub returns-in_err-added-clause-stops : goal.returns-in_err-added-clause-stops
returns-in_err-added-clause-stops g c =
    let p = err_from_is_err_and c.from_residual-in_err-added.result c.from_residual-in_err-added.ensures.1 in
    let ss = c.loop-index.shards.items in
    let i = c.loop-index.index in
    let s = c.index_mut.result.now in
    let read = c.loop-index.invariant.0 in
    let long = count_read g.K.Keeper.sound g.K.Keeper.faults i c.args.shards.now.items ss read in
    let last = c.len-index-end.ensures in
    let test = c.loop-index-test.true in
    let inside : i < length ss = omega (arith, long, last, test) in
    rw p.1 (short (i + 1) (read_more g.K.Keeper.sound g.K.Keeper.faults i c.args.quiz c.args.policy.now c.args.shards.now.items ss s c.rows.new.shard c.in_ok-rows.rows read (part_there ss i s inside c.index_mut.ensures.value) c.in_ok-rows.ensures.told c.in_ok-rows.ensures.legal) p.2)

pub loop-index-preserved : goal.loop-index-preserved
loop-index-preserved g c =
    let ss = c.loop-index.shards.items in
    let i = c.loop-index.index in
    let s = c.index_mut.result.now in
    let read = c.loop-index.invariant.0 in
    let long = count_read g.K.Keeper.sound g.K.Keeper.faults i c.args.shards.now.items ss read in
    let last = c.len-index-end.ensures in
    let test = c.loop-index-test.true in
    let inside : i < length ss = omega (arith, long, last, test) in
    let there = part_there ss i s inside c.index_mut.ensures.value in (
      read_more g.K.Keeper.sound g.K.Keeper.faults i c.args.quiz c.args.policy.now c.args.shards.now.items ss s c.rows.new.shard c.in_ok-rows.rows read there c.in_ok-rows.ensures.told c.in_ok-rows.ensures.legal,
      c.in_ok-added.ensures ∙ (ap (λ (rows : List _). c.loop-index.all ++ rows) c.as_slice.ensures
          ∙ told_more g.K.Keeper.sound g.K.Keeper.faults i c.args.quiz c.args.policy.now ss s c.rows.new.shard c.loop-index.all c.in_ok-rows.rows there c.loop-index.invariant.1 c.in_ok-rows.ensures.told),
    )

pub returns-clause-rows : goal.returns-clause-rows
returns-clause-rows g c =
    let last = c.len-index-end.ensures in
    let end = c.loop-index.auto.index-end in
    let test = c.loop-index-test.false in
    rows_whole g.K.Keeper.sound g.K.Keeper.faults c.loop-index.index c.args.quiz c.args.policy.now c.args.shards.now.items c.loop-index.shards.items c.loop-index.all (omega (arith, last, end, test)) c.loop-index.invariant.0 c.loop-index.invariant.1
