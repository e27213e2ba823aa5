use Rattle.std.proofs.Common.{◌≡◌, take}
use Rattle.qz_access.specs.Lenient.{most_lenient}
use Rattle.qz_access.proofs.lenient.most_lenient.Given as goal

abbrev pub invariant-loop-group : goal.invariant-loop-group
invariant-loop-group l = l.found ≡ most_lenient (take l.group-index l.groups)
