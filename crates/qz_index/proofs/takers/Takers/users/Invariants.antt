use Rattle.std.proofs.Common.{◌≡◌, ◌++◌}
use Rattle.std.specs.Map.{keys_of}
use Rattle.std.specs.Prelude.{filter}
use Rattle.qz_index.specs.Attempts.{has_any, takers_in}
use Rattle.qz_index.proofs.takers.Takers.users.Given as goal

abbrev pub invariant-loop-user : goal.invariant-loop-user
invariant-loop-user l = l.found.items ++ keys_of (filter (λ e. has_any e.1.items) l.user-iterator) ≡ takers_in l.fn.self
