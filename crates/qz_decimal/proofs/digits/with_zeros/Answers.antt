use Rattle.std.proofs.Common.{◌*◌, ◌^◌, ◌<◌, ◌≤◌, length, arith}
use Rattle.std.proofs.lemmas.Nat.{pow-add}
use Rattle.std.proofs.Math.Nat.{mul-lt-mul_of_pos_right, one-le-pow}
use Rattle.qz_decimal.proofs.DigitRuns.{pow10-le}
use Rattle.qz_decimal.proofs.digits.with_zeros.Goals as goal
use Rattle.qz_decimal.proofs.digits.with_zeros.Goals.{After-pow}

pub pow-requires : goal.pow-requires
pow-requires c = let le : c.args.zeros ≤ 36 = omega arith in omega (arith, pow10-le le)

below : (c : After-pow) → c.number_of.result * c.pow.result < 10 ^ 36
below c =
    let digits = length c.args.digits.now in
    let zeros = c.args.zeros in
    let positive : 0 < 10 ^ zeros = one-le-pow zeros 10 (omega arith) in
    let product = mul-lt-mul_of_pos_right c.number_of.ensures.room positive in
    let sum = pow-add 10 digits zeros in
    let top = pow10-le c.requires.few in
    rw c.pow.ensures (omega arith)

pub overflow_mul-result : goal.overflow_mul-result
overflow_mul-result c = omega (arith, below c)

pub returns-clause-room : goal.returns-clause-room
returns-clause-room c = below (goal.at.returns-clause-room c).After-pow
