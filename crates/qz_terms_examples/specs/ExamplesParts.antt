-- Worked parts of a page: the feedback of each kind, and what is shown of a slot.
use Rattle.std.specs.Prelude.{◌≡◌, ℕ, true, false, List, [], ◌∷◌, ℤ, pos, Some, None, codes, refl}
use Rattle.qz_decimal.specs.Decimals.{decimal_in, digits_in, tens_in, exact_size}
use Rattle.qz_text.specs.Computing.{patterns}
use Rattle.qz_grading.specs.declared.outcome.Behaviour.{Behaviour}
use Rattle.qz_grading.specs.declared.outcome.Behaviour.TheVariants as behaviour
use Rattle.qz_grading.specs.declared.outcome.State.TheVariants as state
use Rattle.qz_grading.specs.declared.question.Choice.{Choice}
use Rattle.qz_grading.specs.declared.question.Extent.{Extent}
use Rattle.qz_grading.specs.declared.question.Extent.TheVariants as extent
use Rattle.qz_grading.specs.declared.question.Kind.{Kind}
use Rattle.qz_grading.specs.declared.question.Kind.TheVariants as kind
use Rattle.qz_grading.specs.declared.question.Num.{Num}
use Rattle.qz_grading.specs.declared.question.Question.{Question}
use Rattle.qz_grading.specs.declared.question.Short.{Short}
use Rattle.qz_grading.specs.declared.response.Answer.{Answer}
use Rattle.qz_grading.specs.declared.response.Answer.TheVariants as answer
use Rattle.qz_grading.specs.declared.response.Response.{Response}
use Rattle.qz_grading.specs.declared.response.Step.{Step}
use Rattle.qz_grading.specs.declared.response.Step.TheVariants as step
use Rattle.qz_terms.specs.declared.reply.Shown.TheVariants as shown
use Rattle.qz_terms_examples.specs.ExamplesSchool.{plain}
use Rattle.qz_terms.specs.History.{Slot}
use Rattle.qz_terms.specs.Parts.{feedbacks, part}

abbrev asking : Kind → Question
asking k = record { name = codes "Q"; text = plain (codes "Q"); general = plain (codes "See page 4"); kind = k; penalty = pos 3333333; hints = codes "first" ∷ codes "second" ∷ [] }

abbrev given : Answer → Response
given a = record { answer = a; certainty = 0 }

abbrev told : Kind → Answer → List (List ℕ)
told k a = feedbacks (asking k) (given a)

-- ---- feedback

abbrev false_is_right : Kind
false_is_right = kind.TrueFalse false (plain (codes "no")) (plain (codes "yes"))

pub the_wrong_side : told false_is_right (answer.Pick 1) ≡ codes "no" ∷ []
the_wrong_side = refl

pub the_right_side : told false_is_right (answer.Pick 2) ≡ codes "yes" ∷ []
the_right_side = refl

abbrev choice : ℤ → List ℕ → Choice
choice weight feedback = record { weight = weight; text = plain (codes "a"); feedback = plain feedback }

abbrev three : List Choice
three = choice (pos 10000000) (codes "one") ∷ choice (pos 0) [] ∷ choice (pos 0) (codes "three") ∷ []

pub of_the_choice : told (kind.One three) (answer.Pick 3) ≡ codes "three" ∷ []
of_the_choice = refl

-- one that is empty isn't shown
pub none_of_the_choice : told (kind.One three) (answer.Pick 2) ≡ []
none_of_the_choice = refl

pub of_each_choice : told (kind.Several three) (answer.Picks (1 ∷ 2 ∷ 3 ∷ [])) ≡ codes "one" ∷ codes "three" ∷ []
of_each_choice = refl

pub of_no_pair : told (kind.Matching (record { stem = plain (codes "a"); answer = codes "x" } ∷ record { stem = plain (codes "b"); answer = codes "y" } ∷ [])) (answer.Match (1 ∷ 2 ∷ [])) ≡ []
of_no_pair = refl

abbrev short : ℤ → List ℕ → List ℕ → Short
short weight pattern feedback = record { weight = weight; pattern = pattern; feedback = plain feedback }

-- of the first that fits, also where a later one fits too
pub of_the_first_pattern : told (kind.ShortAnswer (short (pos 0) (codes "walk") (codes "walked") ∷ short (pos 5000000) (codes "r*") (codes "nearly") ∷ short (pos 10000000) (codes "run") (codes "ran") ∷ [])) (answer.Words (codes "Run")) ≡ codes "nearly" ∷ []
unfolding patterns
of_the_first_pattern = refl

abbrev num : Extent → List ℕ → Num
num taken feedback = record { weight = pos 10000000; extent = taken; feedback = plain feedback }

abbrev some_numbers : Kind
some_numbers = kind.Numerical (num (extent.Between (pos 10000000000) (pos 20000000000)) (codes "small") ∷ num extent.Any (codes "any") ∷ [])

pub of_the_first_number : told some_numbers (answer.Words (codes "1.5")) ≡ codes "small" ∷ []
unfolding decimal_in digits_in tens_in exact_size
of_the_first_number = refl

pub of_any_number : told some_numbers (answer.Words (codes "3")) ≡ codes "any" ∷ []
unfolding decimal_in digits_in tens_in exact_size
of_any_number = refl

pub of_no_number : told some_numbers (answer.Words (codes "three")) ≡ []
unfolding decimal_in digits_in tens_in exact_size
of_no_number = refl

pub of_nothing : told (kind.One three) answer.Blank ≡ []
of_nothing = refl

-- ---- a slot's part

abbrev slot : Behaviour → List Step → Slot
slot b taken = record { behaviour = b; bound = record { entry = 1; version = 1; max = pos 20000000; at = 7 }; question = asking false_is_right; steps = taken }

abbrev save : ℕ → Step
save n = step.Save (given (answer.Pick n))

abbrev submit : ℕ → Step
submit n = step.Submit (given (answer.Pick n))

pub nothing_to_show : part true (slot behaviour.Deferred (save 1 ∷ [])) ≡ record { text = codes "Q"; state = state.Complete; mark = shown.None; hint = None; feedback = []; general = [] }
nothing_to_show = refl

pub all_is_shown : part true (slot behaviour.Deferred (save 1 ∷ step.Finish ∷ [])) ≡ record { text = codes "Q"; state = state.GradedWrong; mark = shown.Value (pos 0); hint = None; feedback = codes "no" ∷ []; general = codes "See page 4" }
all_is_shown = refl

-- where marks are hidden, the state that is shown has no feedback
pub all_is_hidden : part false (slot behaviour.Deferred (save 1 ∷ step.Finish ∷ [])) ≡ record { text = codes "Q"; state = state.Finished; mark = shown.Hidden; hint = None; feedback = []; general = [] }
all_is_hidden = refl

-- a hint is shown all the same, and it is that of the last try
pub the_first_hint : part false (slot behaviour.Interactive (submit 1 ∷ [])) ≡ record { text = codes "Q"; state = state.Todo; mark = shown.Hidden; hint = Some (codes "first"); feedback = []; general = [] }
the_first_hint = refl

pub the_second_hint : part true (slot behaviour.Interactive (submit 1 ∷ step.Again ∷ submit 1 ∷ [])) ≡ record { text = codes "Q"; state = state.Todo; mark = shown.None; hint = Some (codes "second"); feedback = []; general = [] }
the_second_hint = refl

pub no_hint_after_again : part true (slot behaviour.Interactive (submit 1 ∷ step.Again ∷ [])) ≡ record { text = codes "Q"; state = state.Todo; mark = shown.None; hint = None; feedback = []; general = [] }
no_hint_after_again = refl

-- a slot that gave up has a state without feedback, and one with a teacher's mark has the feedback of its last response
pub given_up : part true (slot behaviour.Deferred (step.Finish ∷ [])) ≡ record { text = codes "Q"; state = state.GaveUp; mark = shown.None; hint = None; feedback = []; general = [] }
given_up = refl

pub marked : part true (slot behaviour.Deferred (save 2 ∷ step.Finish ∷ step.Mark (pos 10000000) (pos 20000000) ∷ [])) ≡ record { text = codes "Q"; state = state.MangrPartial; mark = shown.Value (pos 10000000); hint = None; feedback = codes "yes" ∷ []; general = codes "See page 4" }
marked = refl
