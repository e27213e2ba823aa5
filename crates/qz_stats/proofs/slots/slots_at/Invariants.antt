use Rattle.std.proofs.Common.{◌≡◌, ◌<◌, ◌^◌, length, take, All}
use Rattle.std.specs.Prelude.{flat_map}
use Rattle.qz_stats.specs.Shards.{IsPlayed, shard_slots, slots_in}
use Rattle.qz_stats.proofs.slots.slots_at.Given as goal

abbrev pub invariant-loop-shard : goal.invariant-loop-shard
invariant-loop-shard l = record {
  slots : slots_in l.slots.items ≡ flat_map (shard_slots l.number) (take l.shard-index l.shards);
  all : All IsPlayed l.slots.items;
  few : length l.slots.items < 2 ^ 32;
}
