use Rattle.std.proofs.Common.{◌≡◌, ◌+◌, ◌^◌, ◌<◌, ◌≤◌, ◌++◌, length, arith, sym}
use Rattle.std.specs.Str.Parse.{digits_value}
use Rattle.std.proofs.lemmas.List.{length-append}
use Rattle.qz_decimal.proofs.DigitRuns.{digits_value-append, all_ascii_digits-append, digits_value-below, pow10-le}
use Rattle.qz_decimal.proofs.decimal.joined_number.Goals as goal

pub returns : goal.returns
returns c =
    let first = c.args.first.now in
    let second = c.args.second.now in
    let value : c.with_zeros.result + c.number_of.result ≡ digits_value 10 (first ++ second) =
    rw (c.with_zeros.ensures.value, c.number_of.ensures.value) (sym (digits_value-append first second)) in
    let few : length (first ++ second) ≤ 30 = omega (arith, length-append first second, c.requires.few) in
    let below = digits_value-below (first ++ second) (all_ascii_digits-append first second c.requires.first c.requires.second) in
    let small : digits_value 10 (first ++ second) < 10 ^ 30 = omega (arith, below, pow10-le few) in
    record { value = value; room = rw value small }
