-- The parts of a block, as they are found.
use Rattle.std.specs.Prelude.{◌≡◌, Bool}
use Rattle.gift_read.specs.declared.parts.Sort.{Sort}
use Rattle.gift_read.specs.Faults as faults
use Rattle.gift_read.specs.Parts as parts
use Rattle.gift_read.specs.Places.{Marks}

-- its name, its text, its answers, the general feedback, the text behind the answer part, and its kind
pub record HasParts (marks name before answers general behind : Marks) (is_nameless is_unclosed : Bool) (sort : Sort) : Type 0 where
  pub name_is : name ≡ parts.name_marks marks
  pub before_is : before ≡ parts.text_before (parts.body marks)
  pub answers_are : answers ≡ parts.answers (parts.answer_part (parts.body marks))
  pub general_is : general ≡ parts.general_marks (parts.answer_part (parts.body marks))
  pub behind_is : behind ≡ parts.text_behind (parts.body marks)
  pub nameless_is : is_nameless ≡ faults.is_nameless marks
  pub unclosed_is : is_unclosed ≡ faults.is_unclosed (parts.body marks)
  pub sort_is : sort ≡ parts.sort_of (parts.body marks)
