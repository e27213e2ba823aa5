use Rattle.std.proofs.Common.{ap, ◌∙◌, refl, arith, Some}
use Rattle.qz_lives.specs.declared.live.Live.{Live}
use Rattle.qz_lives.proofs.Loops.{can-finish-next, finished-all, finished-more, finished-none}
use Rattle.qz_lives.proofs.live.Live.finish.Goals as goal

pub loop-place-init : goal.loop-place-init
loop-place-init g c = record { finished = finished-none (g.V.Versions.version_of c.args.versions.now) c.args.self.now.slots; rest = refl; count = omega arith }

pub act-requires : goal.act-requires
act-requires g c = can-finish-next (g.V.Versions.version_of c.args.versions.now) c.args.self.now.slots c.loop-place.self.slots c.loop-place.place c.requires.can c.loop-place.invariant.finished (let same = c.requires.count in let less = c.loop-place-test.true in omega arith)

pub loop-place-preserved : goal.loop-place-preserved
loop-place-preserved g c = record {
  finished = finished-more (g.V.Versions.version_of c.args.versions.now) c.args.self.now.slots c.loop-place.self.slots c.act.new.self.slots c.loop-place.place c.loop-place.invariant.finished c.act.ensures.taken;
  rest = c.act.ensures.rest ∙ rw c.loop-place.invariant.rest refl;
  count = (let before = c.loop-place.invariant.count in let one = c.act.ensures.count in omega arith);
}

pub returns : goal.returns
returns g c = record {
  finished = finished-all (g.V.Versions.version_of c.args.versions.now) c.args.self.now.slots c.loop-place.self.slots c.loop-place.place (let same = c.requires.count in let past = c.loop-place-test.false in omega arith) c.loop-place.invariant.finished;
  rest = ap (λ (y : Live). record { begun = y.begun; ending = Some c.args.ending; slots = c.loop-place.self.slots }) c.loop-place.invariant.rest;
  count = (let so_far = c.loop-place.invariant.count in let most = c.loop-place.auto.place-end in let same = c.requires.count in omega arith);
}
