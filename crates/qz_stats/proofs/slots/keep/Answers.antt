use Rattle.std.proofs.Common.{All, sym, subst}
use Rattle.std.proofs.lemmas.List.Elements.{All-push}
use Rattle.qz_stats.specs.Shards.{IsPlayed}
use Rattle.qz_stats.proofs.slots.keep.Goals as goal

pub returns-clause-all : goal.returns-clause-all
returns-clause-all c = subst (All IsPlayed) (sym c.in_ok-push.ensures.items) (All-push IsPlayed c.args.slots.now.items c.args.slot c.requires.all c.requires.slot)
