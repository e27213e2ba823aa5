use Rattle.std.proofs.Common.{◌≡◌, ◌≤◌, length}
use Rattle.gift_read.specs.Category.{names}
use Rattle.gift_read.proofs.CategoryLemmas.{onto_front}
use Rattle.gift_read.proofs.category.first_name.Given as goal

abbrev pub invariant-loop-rest : goal.invariant-loop-rest
invariant-loop-rest l = record { left : onto_front l.name.items (names l.rest) ≡ names l.path; within : length l.rest ≤ length l.path }

abbrev pub decreases-loop-rest : goal.decreases-loop-rest
decreases-loop-rest l = length l.rest
