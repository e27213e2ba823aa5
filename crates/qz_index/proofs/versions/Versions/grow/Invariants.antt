use Rattle.std.proofs.Common.{◌≡◌, ℕ, take}
use Rattle.qz_index.specs.Versions.{HasOrigins, origin}
use Rattle.qz_index.proofs.versions.Versions.grow.Given as goal

abbrev pub invariant-loop-learned : goal.invariant-loop-learned
invariant-loop-learned l = HasOrigins l.self (take l.learned-index l.learned-items) × ((e v : ℕ) → origin l.self e v ≡ origin l.fn.self e v)
