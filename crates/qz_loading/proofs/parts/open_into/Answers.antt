use Rattle.std.proofs.Common.{arith}
use Rattle.qz_loading.proofs.OpeningParts.{next_free, next_same, one_more_agrees, one_more_open, out_stays, rest_left}
use Rattle.qz_loading.proofs.Refusing.{shard_fault_like}
use Rattle.qz_loading.proofs.Results.{any_err}
use Rattle.std.proofs.lemmas.Result.{err_from_is_err_and}
use Rattle.qz_loading.proofs.Sounding.{one_more_sound, stays_both, stays_told}
use Rattle.qz_loading.proofs.parts.open_into.Goals as goal

pub open_agreeing-requires-clause-free : goal.open_agreeing-requires-clause-free
open_agreeing-requires-clause-free g c κs within =
    next_free c.args.folder.now (g.F.Shelf.files c.args.shelf.now) (g.F.Shelf.files c.loop-index.shelf) c.args.count c.loop-index.index c.requires.few c.loop-index-test.true c.requires.free c.loop-index.invariant.opening.others

pub loop-index-preserved : goal.loop-index-preserved
loop-index-preserved g c = record {
  opening =
      rw c.push_reserved.ensures.items
      (one_more_open g.F.Disk.Disk.moment g.F.Disk.Disk.left_at c.args.folder.now (g.F.Shelf.files c.args.shelf.now) (g.F.Shelf.files c.loop-index.shelf) (g.F.Shelf.files c.open_agreeing.new.shelf) c.args.count c.loop-index.index c.loop-index.shards.items c.in_ok-shard.shard
      (omega (arith, c.requires.few, c.loop-index-test.true)) c.loop-index.invariant.opening c.in_ok-shard.ensures.opened c.in_ok-shard.ensures.out c.open_agreeing.ensures.others);
  agree = rw c.push_reserved.ensures.items (one_more_agrees c.args.catalog.now c.loop-index.shards.items c.in_ok-shard.shard c.loop-index.invariant.agree c.in_ok-shard.ensures.agrees);
  later = omega (arith, c.loop-index.invariant.later, c.open_agreeing.ensures.cause.later);
  sound = λ was.
      rw c.push_reserved.ensures.items
      (one_more_sound g.F.Disk.Disk.sound g.F.Disk.Disk.faults c.args.folder.now (g.F.Shelf.files c.args.shelf.now) (g.F.Shelf.files c.loop-index.shelf) c.loop-index.index c.loop-index.shards.items c.in_ok-shard.shard c.loop-index.invariant.opening.number
      (next_same c.args.folder.now (g.F.Shelf.files c.args.shelf.now) (g.F.Shelf.files c.loop-index.shelf) c.loop-index.index (omega (arith, c.requires.few, c.loop-index-test.true)) c.loop-index.invariant.opening.others) (c.loop-index.invariant.sound was)
      (c.in_ok-shard.ensures.sound (c.loop-index.invariant.stays.still was)));
  stays = stays_both _ _ _ _ _ _ ⊥ ⊥ c.loop-index.invariant.stays (stays_told _ _ _ _ _ ⊥ c.open_agreeing.ensures.stays_sound (λ none. absurd none));
  room = rw c.push_reserved.ensures.capacity c.loop-index.invariant.room;
}

pub returns-in_err-shard-clause-out : goal.returns-in_err-shard-clause-out
returns-in_err-shard-clause-out g c =
    rw c.loop-index.invariant.opening.number
    (out_stays c.args.folder.now c.loop-index.index (g.F.Shelf.files c.loop-index.shelf) (g.F.Shelf.files c.open_agreeing.new.shelf) (omega (arith, c.requires.few, c.loop-index-test.true)) c.loop-index.invariant.opening.out c.open_agreeing.ensures.others)

pub returns-in_err-shard-clause-rest : goal.returns-in_err-shard-clause-rest
returns-in_err-shard-clause-rest g c =
    rw c.loop-index.invariant.opening.number (any_err c.from_residual.result
    (rest_left c.args.folder.now (g.F.Shelf.files c.args.shelf.now) (g.F.Shelf.files c.loop-index.shelf) (g.F.Shelf.files c.open_agreeing.new.shelf) c.args.count c.loop-index.index c.requires.few c.loop-index-test.true c.requires.free
    c.loop-index.invariant.opening.others c.in_err-shard.ensures.stays c.in_err-shard.ensures.back c.open_agreeing.ensures.others))

pub returns-in_err-shard-clause-why : goal.returns-in_err-shard-clause-why
returns-in_err-shard-clause-why g c =
    let p = err_from_is_err_and c.from_residual.result c.from_residual.ensures.1 in
    rw (p.1, p.2, c.loop-index.invariant.opening.number)
    (shard_fault_like _ _ c.loop-index.index c.args.count c.args.catalog.now c.in_err-shard.field-0.0 (next_same c.args.folder.now (g.F.Shelf.files c.args.shelf.now) (g.F.Shelf.files c.loop-index.shelf) c.loop-index.index (omega (arith, c.requires.few, c.loop-index-test.true)) c.loop-index.invariant.opening.others) c.in_err-shard.ensures.why)

pub returns-in_err-shard-clause-stays_sound : goal.returns-in_err-shard-clause-stays_sound
returns-in_err-shard-clause-stays_sound g c =
    let p = err_from_is_err_and c.from_residual.result c.from_residual.ensures.1 in
    stays_both _ _ _ _ _ _ ⊥ _ c.loop-index.invariant.stays (stays_told _ _ _ _ _ _ c.open_agreeing.ensures.stays_sound (λ is. (let q = p.1 in let r = p.2 in let w = c.in_err-shard.was in cc)))
