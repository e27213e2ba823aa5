use Rattle.std.proofs.Common.{◌≡◌, ◌*◌, ℤ, pos, Result, rules}
use Rattle.qz_decimal.specs.declared.reading.BadNumber.{BadNumber}
use Rattle.qz_decimal.specs.Numbers.{grade_one}
use Rattle.qz_decimal.specs.Reading.{grade_form, grade_in}
use Rattle.qz_decimal.proofs.Complete.{reads-as, grade_usual}
use Rattle.qz_decimal.proofs.units.Grade.read.Goals as goal

pub returns-in_err-read_within : goal.returns-in_err-read_within
returns-in_err-read_within c =
    let value : ◌≡◌ {A = Result ℤ BadNumber} _ (grade_in c.args.text.now) = search rules in
    let law = reads-as grade_form (pos 0) (pos (10000 * grade_one)) c.args.text.now _ grade_usual value in
    record { value = value; found = law.found; malformed = law.malformed; range = law.range }

pub returns : goal.returns
returns c =
    let value : ◌≡◌ {A = Result ℤ BadNumber} _ (grade_in c.args.text.now) = search rules in
    let law = reads-as grade_form (pos 0) (pos (10000 * grade_one)) c.args.text.now _ grade_usual value in
    record { value = value; found = law.found; malformed = law.malformed; range = law.range }
