use Rattle.std.proofs.Common.{◌≡◌, map}
use Rattle.qz_bank.specs.Banks.{first_version}
use Rattle.qz_bank.proofs.entry.first_versions.Given as goal

abbrev pub invariant-loop-item : goal.invariant-loop-item
invariant-loop-item l = l.made.items ≡ map first_version l.yielded
