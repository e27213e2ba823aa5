-- What may be wrong with the answer of one piece.
use Rattle.std.specs.Prelude.{Bool}
use Rattle.gift_read.specs.declared.faults_of_values.Flaw.{Flaw}
use Rattle.gift_read.specs.declared.faults_of_values.Flaw.TheVariants as flaw
use Rattle.gift_read.specs.Parts.{Part}
use Rattle.gift_read.specs.Faults.{is_misweighed, has_blank_number, has_no_number}

abbrev pub has_flaw : Flaw → Part → Bool
has_flaw flaw.Weight p = is_misweighed p
has_flaw flaw.BlankNumber p = has_blank_number p
has_flaw flaw.NoNumber p = has_no_number p
