use Rattle.std.proofs.Common.{arith}
use Rattle.qz_lives.proofs.Loops.{is_roomier-more, is_roomier-same, roomy-all, roomy-more, roomy-none}
use Rattle.qz_lives.proofs.live.Live.reserve_all.Goals as goal

pub loop-place-init : goal.loop-place-init
loop-place-init c = (is_roomier-same c.args.self.now, roomy-none c.args.self.now.slots)

pub loop-place-preserved : goal.loop-place-preserved
loop-place-preserved c = (is_roomier-more c.args.self.now c.loop-place.self c.reserve.new.self c.loop-place.invariant.0 c.reserve.ensures.kept, roomy-more c.loop-place.self.slots c.reserve.new.self.slots c.loop-place.place c.reserve.ensures.kept.slots c.loop-place.invariant.1 c.in_ok-reserve.ensures.room)

pub returns-in_err-reserve-clause-kept : goal.returns-in_err-reserve-clause-kept
returns-in_err-reserve-clause-kept c = is_roomier-more c.args.self.now c.loop-place.self c.reserve.new.self c.loop-place.invariant.0 c.reserve.ensures.kept

pub returns : goal.returns
returns c = record { room = roomy-all c.loop-place.self.slots c.loop-place.place (let same = c.loop-place.invariant.0.slots.count in let count = c.requires.count in let past = c.loop-place-test.false in omega arith) c.loop-place.invariant.1; kept = c.loop-place.invariant.0 }
