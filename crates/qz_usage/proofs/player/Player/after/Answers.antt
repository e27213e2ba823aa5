use Rattle.std.proofs.Common.{rules, arith}
use Rattle.qz_usage.proofs.RunLemmas.{played_more, fits_at}
use Rattle.qz_usage.proofs.player.Player.after.Goals as goal

pub feed-requires-clause-fits : goal.feed-requires-clause-fits
feed-requires-clause-fits g c = rw c.loop-place.invariant.behaviour (fits_at c.args.behaviour c.args.question.now c.args.taken.now c.loop-place.place c.index-taken-place.result c.requires.fits c.loop-place-test.true c.index-taken-place.is)

pub loop-place-preserved : goal.loop-place-preserved
loop-place-preserved g c = record {
  behaviour = search rules;
  played = played_more c.feed.new.self c.args.question.now c.args.taken.now c.loop-place.place c.index-taken-place.result c.loop-place-test.true c.index-taken-place.is c.feed.ensures.played;
  count = omega arith;
}
