use Rattle.qz_lives.specs.Ones.{IsRoomier}
use Rattle.qz_lives.proofs.Loops.{RoomyTo}
use Rattle.qz_lives.proofs.live.Live.reserve_all.Given as goal

abbrev pub invariant-loop-place : goal.invariant-loop-place
invariant-loop-place l = IsRoomier l.initial.self l.self × RoomyTo l.self.slots l.place
