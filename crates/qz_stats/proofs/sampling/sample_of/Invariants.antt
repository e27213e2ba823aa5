use Rattle.std.proofs.Common.{◌≡◌, take}
use Rattle.std.specs.Prelude.{flat_map}
use Rattle.qz_stats.specs.Samples.{finished_by}
use Rattle.qz_stats.proofs.sampling.sample_of.Given as goal

abbrev pub invariant-loop-user : goal.invariant-loop-user
invariant-loop-user l = l.items.items ≡ flat_map (finished_by l.book l.quiz) (take l.user-index l.user-items)
