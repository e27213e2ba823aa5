use Rattle.std.proofs.Common.{◌≡◌, take}
use Rattle.qz_stats.proofs.replaying.book_of.Given as goal

abbrev pub ghosts-follow : goal.ghosts-follow
ghosts-follow a = record { name = a.blank.name; parts = a.blank.parts }

abbrev pub invariant-loop-next : goal.invariant-loop-next
invariant-loop-next l = l.book ≡ take l.next-index l.records
