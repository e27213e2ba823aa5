use Rattle.std.proofs.Common.{◌≡◌, IfOk, List, subst, ◌∙◌}
use Rattle.qz_stats.specs.declared.rows.SlotRow.{SlotRow}
use Rattle.qz_stats.proofs.Rowing.{rows-same, sound-all}
use Rattle.qz_stats.proofs.analysis.analyse.Goals as goal

pub rows-requires : goal.rows-requires
rows-requires g c = sound-all c.args.lists.now c.args.quiz c.deref.result.now (c.deref.ensures.value ∙ c.in_ok-shards.ensures) c.requires.lists

pub returns : goal.returns
returns g c = subst (λ (t : List SlotRow). IfOk c.rows.result (λ rows. rows ≡ t)) (rows-same c.args.lists.now c.args.quiz c.deref.result.now (c.deref.ensures.value ∙ c.in_ok-shards.ensures)) c.rows.ensures
