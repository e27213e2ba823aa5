use Rattle.std.proofs.Common.{refl}
use Rattle.gift_read.specs.Places.{is_at, is_last}
use Rattle.gift_read.proofs.PlaceLemmas.{before-take}
use Rattle.gift_read.proofs.places.split_last.Goals as goal

pub returns-clause-before : goal.returns-clause-before
returns-clause-before c = rw (before-take (is_last (is_at c.args.landmark)) c.args.marks.now, c.split_at.ensures.front, c.from_last-found.ensures.value) refl
