use Rattle.std.proofs.Common.{◌≡◌, ◌++◌, ◌<◌, ◌^◌, length, take, All}
use Rattle.std.specs.Prelude.{filter_map}
use Rattle.qz_stats.specs.Samples.{slot_at}
use Rattle.qz_stats.specs.Shards.{IsPlayed, slots_in}
use Rattle.qz_stats.proofs.slots.slots_onto.Given as goal

abbrev pub invariant-loop-attempt : goal.invariant-loop-attempt
invariant-loop-attempt l = record {
  added : slots_in l.slots.items ≡ slots_in l.initial.slots.items ++ filter_map (slot_at l.number l.shard.book) (take l.attempt-index l.attempt-items);
  all : All IsPlayed l.slots.items;
  few : length l.slots.items < 2 ^ 32;
}
