use Rattle.std.proofs.Common.{◌≡◌, ◌++◌, string_bytes, length}
use Rattle.qz_grading.specs.Canonical.{category_path}
use Rattle.gift_write.proofs.categories.path_onto.Given as goal

abbrev pub invariant-loop-rest : goal.invariant-loop-rest
invariant-loop-rest l = string_bytes l.out ++ category_path l.rest ≡ string_bytes l.initial.out ++ category_path l.names

abbrev pub decreases-loop-rest : goal.decreases-loop-rest
decreases-loop-rest l = length l.rest
