use Rattle.std.proofs.Common.{refl, sym}
use Rattle.qz_lives.proofs.Rooms.{roomier-with}
use Rattle.qz_lives.proofs.live.Live.reserve.Goals as goal

pub returns-in-Some-clause-kept : goal.returns-in-Some-clause-kept
returns-in-Some-clause-kept c = record { begun = refl; ending = refl; slots = roomier-with c.args.self.now.slots c.args.slot c.in-Some.run'.now c.reserve.new.self (sym c.in-Some.ensures.value) c.reserve.ensures.rest c.reserve.ensures.kept }
