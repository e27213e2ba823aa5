use Rattle.std.proofs.lemmas.Result.{err_from_is_err_and}
use Rattle.qz_record.specs.Fields.{many}
use Rattle.qz_record.proofs.Many.{many-goes_on, many-fails, many-ends}
use Rattle.qz_record.proofs.part.many_from.Goals as goal

pub returns-in_err-read_from : goal.returns-in_err-read_from
returns-in_err-read_from g c =
    let p = err_from_is_err_and c.from_residual.result c.from_residual.ensures.1 in
    rw (p.1, p.2) (many-fails g.T.Part.field c.in_err-read_from.field-0.0 c.loop.items.items c.args.count c.loop.counter c.loop.rest.now c.read_from.new.rest.now c.args.rest.now.now c.loop-test.true c.in_err-read_from.ensures c.loop.invariant)

pub loop-preserved : goal.loop-preserved
loop-preserved g c =
    rw c.in_ok-push.ensures.items
    (many-goes_on g.T.Part.field c.loop.items.items c.args.count c.loop.counter c.loop.rest.now c.in_ok-read_from.field-0 c.read_from.new.rest.now (many g.T.Part.field c.args.count c.args.rest.now.now) c.loop-test.true c.in_ok-read_from.ensures c.loop.invariant)

pub returns : goal.returns
returns g c = many-ends g.T.Part.field c.loop.items.items c.args.count c.loop.counter c.loop.rest.now (many g.T.Part.field c.args.count c.args.rest.now.now) c.loop-test.false c.loop.invariant
