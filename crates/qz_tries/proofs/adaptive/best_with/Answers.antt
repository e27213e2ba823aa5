use Rattle.std.proofs.Common.{arith}
use Rattle.std.proofs.lemmas.Int.{ints, clamps}
use Rattle.qz_tries.proofs.adaptive.best_with.Goals as goal

pub returns-clause-earned : goal.returns-clause-earned
returns-clause-earned c = λ earned.
    let kept = c.best-best.ensures.earned earned in
    (omega (arith, ints, kept.0, kept.1, c.max.ensures.self_bound), omega (arith, ints, clamps, kept.0, kept.1, c.max.ensures.value))
