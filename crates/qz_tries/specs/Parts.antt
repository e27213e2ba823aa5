-- What the parts of a machine promise each other.
use Rattle.std.specs.Prelude.{Bool, false, not, List, Option, Some, None, unwrap_or, option_map, if◌then◌else◌}
use Rattle.qz_grading.specs.declared.question.Question.{Question}
use Rattle.qz_grading.specs.declared.response.Response.{Response}
use Rattle.qz_grading.specs.declared.response.Step.{Step}
use Rattle.qz_grading.specs.Grading.{same, gradable}
use Rattle.qz_grading.specs.Steps.{last}

-- a response, where it can be graded
abbrev pub if_gradable : Question → Response → Option Response
if_gradable q r = if gradable q r then Some r else None

abbrev pub gradable_last : Question → List Step → Option Response
gradable_last q s = if_gradable q (last s)

-- a response that isn't the same as the one before, if any
abbrev pub is_new : Option Response → Response → Bool
is_new before r = not (unwrap_or (option_map (λ (t : Response). same t r) before) false)
