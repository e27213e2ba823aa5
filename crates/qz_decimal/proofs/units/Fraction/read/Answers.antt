use Rattle.std.proofs.Common.{◌≡◌, ℤ, pos, Result, rules}
use Rattle.qz_decimal.specs.declared.reading.BadNumber.{BadNumber}
use Rattle.qz_decimal.specs.Numbers.{one}
use Rattle.qz_decimal.specs.Reading.{mark_form, fraction_in}
use Rattle.qz_decimal.proofs.Complete.{reads-as, mark_usual}
use Rattle.qz_decimal.proofs.units.Fraction.read.Goals as goal

pub returns-in_err-units : goal.returns-in_err-units
returns-in_err-units c =
    let value : ◌≡◌ {A = Result ℤ BadNumber} _ (fraction_in c.args.text.now) = search rules in
    let law = reads-as mark_form (pos 0) (pos one) c.args.text.now _ mark_usual value in
    record { value = value; found = law.found; malformed = law.malformed; range = law.range }

pub returns : goal.returns
returns c =
    let value : ◌≡◌ {A = Result ℤ BadNumber} _ (fraction_in c.args.text.now) = search rules in
    let law = reads-as mark_form (pos 0) (pos one) c.args.text.now _ mark_usual value in
    record { value = value; found = law.found; malformed = law.malformed; range = law.range }
