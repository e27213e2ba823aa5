use Rattle.std.proofs.Common.{sym, subst}
use Rattle.qz_book.specs.Nexts.{CanGrow}
use Rattle.qz_stats.proofs.replaying.follow.Goals as goal

pub put-requires-clause-grows : goal.put-requires-clause-grows
put-requires-clause-grows g c = subst (CanGrow c.args.book.now) (sym c.in_ok-made.ensures) c.requires.grows
