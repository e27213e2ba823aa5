use Rattle.std.proofs.Common.{◌<◌, length, arith}
use Rattle.std.proofs.lemmas.Bool.{ltb-true}
use Rattle.qz_grading.specs.Grading.{stems}
use Rattle.qz_grading.proofs.WeightLemmas.{share_within}
use Rattle.qz_grading.proofs.grading.share_of_right.Goals as goal

pub returns-clause-within : goal.returns-clause-within
returns-clause-within c =
    let some : 0 < length (stems c.args.pairs.now) = ltb-true _ _ c.requires.stem in
    rw c.share.ensures.value (share_within c.right_stems-right.result c.stem_count-all.result (omega arith) (omega arith))
