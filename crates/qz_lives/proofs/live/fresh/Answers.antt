use Rattle.std.proofs.Common.{sym}
use Rattle.std.proofs.lemmas.List.{take_all}
use Rattle.qz_lives.specs.Runs.{IsFresh}
use Rattle.qz_lives.proofs.Loops.{fresh-more, fresh-none}
use Rattle.qz_lives.proofs.live.fresh.Goals as goal

pub loop-bound-init : goal.loop-bound-init
loop-bound-init g c = rw c.in_ok-runs.ensures.items (fresh-none (g.V.Versions.version_of c.args.versions.now) c.args.preferred)

pub loop-bound-preserved : goal.loop-bound-preserved
loop-bound-preserved g c =
    let known = g.V.Versions.version_of c.args.versions.now in
    let run = c.in_ok-new.field-0 in
    let made = c.in_ok-new.ensures in
    let one : IsFresh known c.args.preferred c.bound-item.result run = record { question = c.in-Some.question.now; asks = sym c.in-Some.ensures; asked = made.question; behaviour = made.behaviour; bound = made.bound; steps = made.steps } in
    rw c.in_ok-push.ensures.items (fresh-more known c.args.preferred c.args.bounds.now c.loop-bound.bound-index c.loop-bound.runs.items c.bound-item.result run c.loop-bound-test.true c.bound-item.is c.loop-bound.invariant one)

pub returns : goal.returns
returns g c = rw (take_all c.loop-bound.bound-index c.args.bounds.now c.loop-bound-test.false) at c.loop-bound.invariant
