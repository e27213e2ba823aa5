-- How marks, grades, numbers and attempts are spelled, and the words of states, behaviours and kinds.
use Rattle.std.specs.Prelude.{ℕ, suc, ◌-◌, ◌/◌, ◌%◌, ◌^◌, Bool, ◌&&◌, ◌==◌, if◌then◌else◌, List, [], ◌∷◌, ◌++◌, length, replicate, Option, Some, None, ℤ, pos, negsuc, decimal, codes}
use Rattle.qz_decimal.specs.Numbers.{one, grade_one}
use Rattle.qz_grading.specs.declared.outcome.Behaviour.{Behaviour}
use Rattle.qz_grading.specs.declared.outcome.Behaviour.TheVariants as behaviour
use Rattle.qz_grading.specs.declared.outcome.State.{State}
use Rattle.qz_grading.specs.declared.outcome.State.TheVariants as state
use Rattle.qz_grading.specs.declared.refusal.AttemptId.{AttemptId}

-- a number in at least so many digits
abbrev pub in_digits : ℕ → ℕ → List ℕ
in_digits width n = replicate (width - length (decimal n)) 48 ++ decimal n

-- the whole part, a point and seven decimals
abbrev pub units_text : ℕ → List ℕ
units_text n = decimal (n / one) ++ codes "." ++ in_digits 7 (n % one)

abbrev pub mark_text : ℤ → List ℕ
mark_text (pos n) = units_text n
mark_text (negsuc n) = codes "-" ++ units_text (suc n)

-- a grade has five decimals
abbrev pub grade_units_text : ℕ → List ℕ
grade_units_text n = decimal (n / grade_one) ++ codes "." ++ in_digits 5 (n % grade_one)

abbrev pub grade_text : ℤ → List ℕ
grade_text (pos n) = grade_units_text n
grade_text (negsuc n) = codes "-" ++ grade_units_text (suc n)

abbrev pub is_nothing : List ℕ → Bool
is_nothing text = length text == 0

-- digits without the zeros at their end
abbrev pub without_zeros : List ℕ → List ℕ
without_zeros [] = []
without_zeros (d ∷ ds) = if (d == 48) && is_nothing (without_zeros ds) then [] else d ∷ without_zeros ds

-- a point and decimals, or nothing where there are none
abbrev pub behind_point : List ℕ → List ℕ
behind_point [] = []
behind_point (d ∷ ds) = codes "." ++ (d ∷ ds)

-- so many units of 10^-places: the whole part, and a point and the decimals where there are any but zeros
abbrev pub short_natural : ℕ → ℕ → List ℕ
short_natural places units = decimal (units / 10 ^ places) ++ behind_point (without_zeros (in_digits places (units % 10 ^ places)))

abbrev pub short_number : ℕ → ℤ → List ℕ
short_number places (pos n) = short_natural places n
short_number places (negsuc n) = codes "-" ++ short_natural places (suc n)

-- a number of a numerical question, whose unit is 10^-10
abbrev pub decimal_text : ℤ → List ℕ
decimal_text value = short_number 10 value

-- a dash where there is no mark
abbrev pub mark_or_dash : Option ℤ → List ℕ
mark_or_dash None = codes "-"
mark_or_dash (Some m) = mark_text m

-- `USER.NTH`
abbrev pub attempt_word : AttemptId → List ℕ
attempt_word a = decimal a.user ++ (codes "." ++ decimal a.nth)

abbrev pub state_word : State → List ℕ
state_word state.Todo = codes "todo"
state_word state.Complete = codes "complete"
state_word state.Invalid = codes "invalid"
state_word state.NeedsGrading = codes "needsgrading"
state_word state.Finished = codes "finished"
state_word state.GaveUp = codes "gaveup"
state_word state.GradedWrong = codes "gradedwrong"
state_word state.GradedPartial = codes "gradedpartial"
state_word state.GradedRight = codes "gradedright"
state_word state.MangrWrong = codes "mangrwrong"
state_word state.MangrPartial = codes "mangrpartial"
state_word state.MangrRight = codes "mangrright"

abbrev pub behaviour_word : Behaviour → List ℕ
behaviour_word behaviour.Deferred = codes "deferredfeedback"
behaviour_word behaviour.Immediate = codes "immediatefeedback"
behaviour_word behaviour.Interactive = codes "interactive"
behaviour_word behaviour.Adaptive = codes "adaptive"
behaviour_word behaviour.AdaptiveNoPenalty = codes "adaptivenopenalty"
behaviour_word behaviour.DeferredCbm = codes "deferredcbm"
behaviour_word behaviour.ImmediateCbm = codes "immediatecbm"
behaviour_word behaviour.Manual = codes "manualgraded"
behaviour_word behaviour.Information = codes "informationitem"

-- the word of the kind with a number
abbrev pub kind_word : ℕ → List ℕ
kind_word n =
    if n == 0 then codes "description"
    else (if n == 1 then codes "essay"
    else (if n == 2 then codes "truefalse"
    else (if n == 3 then codes "choice"
    else (if n == 4 then codes "choices"
    else (if n == 5 then codes "match"
    else (if n == 6 then codes "shortanswer" else codes "numerical"))))))
