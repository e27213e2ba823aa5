use Rattle.std.proofs.Common.{length}
use Rattle.gift_read.proofs.places.+characters_at.Given as goal

abbrev pub decreases-characters_at : goal.decreases-characters_at
decreases-characters_at l = length l.word.now
