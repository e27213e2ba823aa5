use Rattle.std.proofs.Common.{refl}
use Rattle.gift_read.specs.Places.{is_at}
use Rattle.gift_read.proofs.PlaceLemmas.{occurs-from}
use Rattle.gift_read.proofs.places.occurs.Goals as goal

pub returns : goal.returns
returns c = rw (occurs-from (is_at c.args.landmark) c.args.marks.now, c.is_empty.ensures, c.from.ensures.value) refl
