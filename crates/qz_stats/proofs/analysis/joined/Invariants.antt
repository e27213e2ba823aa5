use Rattle.std.proofs.Common.{◌≡◌, true}
use Rattle.std.specs.List.{list_all}
use Rattle.std.specs.Prelude.{flat_map, is_ok}
use Rattle.qz_stats.specs.Shards.{shards_in}
use Rattle.qz_stats.proofs.analysis.joined.Given as goal

abbrev pub invariant-loop-part : goal.invariant-loop-part
invariant-loop-part l = (l.shards.items ≡ flat_map shards_in l.yielded) × (list_all is_ok l.yielded ≡ true)
