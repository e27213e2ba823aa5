use Rattle.std.proofs.Common.{sym, ap, ◌∙◌, subst}
use Rattle.qz_solo.proofs.Beginning.{founded_clear, founded_seen, founded_solo}
use Rattle.qz_solo.specs.Memory.{AreClear, founded_lists}
use Rattle.qz_solo.proofs.memory.MemorySchool.founded.Goals as goal

pub of-requires-2 : goal.of-requires-2
of-requires-2 c = founded_solo c.args.shards c.in_ok-token.token c.in_ok-catalog.catalog c.in_ok-shards.shards.items c.requires.some c.in_ok-catalog.ensures c.in_ok-shards.ensures

pub invariant_of-result : goal.invariant_of-result
invariant_of-result c =
    let seen = founded_seen c.args.shards c.in_ok-token.token c.in_ok-catalog.catalog c.in_ok-shards.shards.items c.in_ok-catalog.ensures c.in_ok-shards.ensures in
    rw c.of-2.ensures (subst AreClear (sym seen) (founded_clear c.args.shards c.in_ok-token.token))

pub returns : goal.returns
returns c =
    let seen = founded_seen c.args.shards c.in_ok-token.token c.in_ok-catalog.catalog c.in_ok-shards.shards.items c.in_ok-catalog.ensures c.in_ok-shards.ensures in
    rw c.of-2.ensures (seen ∙ ap (founded_lists c.args.shards) c.in_ok-token.ensures)
