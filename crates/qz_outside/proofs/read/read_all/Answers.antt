use Rattle.std.proofs.Common.{◌≤◌, length, take, length-take, arith}
use Rattle.std.proofs.lemmas.Result.{err_from_is_err_and}
use Rattle.qz_outside.proofs.Steps.{stops_more}
use Rattle.qz_outside.proofs.read.read_all.Goals as goal

pub returns-in_err-count : goal.returns-in_err-count
returns-in_err-count g c =
    let p = err_from_is_err_and c.from_residual-in_err-count.result c.from_residual-in_err-count.ensures.1 in
    let room : length (take c.min-wanted.result c.deref_mut.result.now) ≤ c.min-wanted.result = omega (arith, length-take c.min-wanted.result c.deref_mut.result.now) in
    rw (p.1, p.2) (stops_more c.args.limit _ _ _ _ _ _ _ _ c.in_err-count.field-0.0 c.loop-items.invariant.reads (omega arith) (omega arith) c.in_err-count.ensures.stopped)
