use Rattle.std.proofs.Common.{◌≡◌, IfOk, List, subst}
use Rattle.qz_stats.specs.declared.rows.PickRow.{PickRow}
use Rattle.qz_stats.specs.Shards.{slots_in}
use Rattle.qz_stats.proofs.Tallies.{rows-told}
use Rattle.qz_stats.proofs.picks.picks.Goals as goal

pub returns : goal.returns
returns c =
    subst (λ (t : List PickRow). IfOk c.rows_of.result (λ rows. rows ≡ t)) (rows-told c.in_ok-counts.counts (slots_in c.args.slots.now) c.rows_of.ensures.ordered c.in_ok-counts.ensures) c.rows_of.ensures.rows
