use Rattle.std.proofs.Common.{take}
use Rattle.qz_lives.specs.Runs.{AreFresh}
use Rattle.qz_lives.proofs.live.fresh.Given as goal

abbrev pub invariant-loop-bound : goal.invariant-loop-bound
invariant-loop-bound g l = AreFresh (g.V.Versions.version_of l.versions) l.preferred (take l.bound-index l.bounds) l.runs.items
