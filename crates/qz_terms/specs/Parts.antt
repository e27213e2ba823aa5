-- What a page shows of a slot.
use Rattle.std.specs.Ordering.{int_eq}
use Rattle.qz_text.specs.Patterns as patterns
use Rattle.qz_decimal.specs.Decimals.{decimal_in}
use Rattle.qz_grading.specs.declared.question.Num.{Num}
use Rattle.qz_grading.specs.declared.question.Short.{Short}
use Rattle.std.specs.Prelude.{find, ℤ, ℕ, Bool, true, false, not, List, [], ◌∷◌, map, length, pos, if◌then◌else◌, ◌==◌, None, filter, Option, unwrap_or, option_map}
use Rattle.qz_decimal.specs.Numbers.{one}
use Rattle.qz_grading.specs.declared.outcome.Outcome.{Outcome}
use Rattle.qz_grading.specs.declared.outcome.State.{State}
use Rattle.qz_grading.specs.declared.outcome.State.TheVariants as state
use Rattle.qz_grading.specs.declared.question.Choice.{Choice}
use Rattle.qz_grading.specs.declared.question.Kind.{Kind}
use Rattle.qz_grading.specs.declared.question.Kind.TheVariants as kind
use Rattle.qz_grading.specs.declared.question.Question.{Question}
use Rattle.qz_grading.specs.declared.question.Rich.{Rich}
use Rattle.qz_grading.specs.declared.response.Answer.{Answer}
use Rattle.qz_grading.specs.declared.response.Answer.TheVariants as answer
use Rattle.qz_grading.specs.declared.response.Response.{Response}
use Rattle.qz_grading.specs.Behaviours.{outcome}
use Rattle.qz_grading.specs.Grading.{takes_number, at_place, grade_answer}
use Rattle.qz_grading.specs.Steps.{last}
use Rattle.qz_terms.specs.declared.reply.Part.{Part}
use Rattle.qz_terms.specs.History.{Slot}
use Rattle.qz_terms.specs.History as history
use Rattle.qz_terms.specs.Review.{shown_state, shown_value}

abbrev pub nonempty : List ℕ → Bool
nonempty text = not (length text == 0)

abbrev pub right_or_wrong : Bool → Rich → Rich → List ℕ
right_or_wrong true on_wrong on_right = on_right.text
right_or_wrong false on_wrong on_right = on_wrong.text

abbrev pub choice_feedback : List Choice → ℕ → List ℕ
choice_feedback choices n = unwrap_or (option_map (λ (c : Choice). c.feedback.text) (at_place choices n)) []

abbrev pub short_feedback : List Short → List ℕ → List ℕ
short_feedback answers t = unwrap_or (option_map (λ (a : Short). a.feedback.text) (find (λ (a : Short). patterns.pattern_fits a.pattern t) answers)) []

abbrev pub number_feedback : List Num → ℤ → List ℕ
number_feedback answers x = unwrap_or (option_map (λ (a : Num). a.feedback.text) (find (λ (a : Num). takes_number a.extent x) answers)) []

abbrev pub numerical_feedback : List Num → List ℕ → List ℕ
numerical_feedback answers t = unwrap_or (option_map (number_feedback answers) (decimal_in t)) []

-- of the choice picked, of each choice picked in order, of the first answer that fits, or of the right or the wrong side
abbrev pub feedbacks_by : Kind → Answer → List (List ℕ)
feedbacks_by (kind.TrueFalse right on_wrong on_right) (answer.Pick n) = right_or_wrong (int_eq (grade_answer (kind.TrueFalse right on_wrong on_right) (answer.Pick n)) (pos one)) on_wrong on_right ∷ []
feedbacks_by (kind.One choices) (answer.Pick n) = choice_feedback choices n ∷ []
feedbacks_by (kind.Several choices) (answer.Picks ns) = map (choice_feedback choices) ns
feedbacks_by (kind.ShortAnswer answers) (answer.Words t) = short_feedback answers t ∷ []
feedbacks_by (kind.Numerical answers) (answer.Words t) = numerical_feedback answers t ∷ []
feedbacks_by k a = []

-- those that aren't empty
abbrev pub feedbacks : Question → Response → List (List ℕ)
feedbacks q r = filter nonempty (feedbacks_by q.kind r.answer)

-- a graded state, or one that a teacher gave
abbrev pub shows_feedback : State → Bool
shows_feedback state.GradedWrong = true
shows_feedback state.GradedPartial = true
shows_feedback state.GradedRight = true
shows_feedback state.MangrWrong = true
shows_feedback state.MangrPartial = true
shows_feedback state.MangrRight = true
shows_feedback s = false

-- "try again" is needed: the hint with the number of tries so far, also where marks are hidden
abbrev pub hint_by : Outcome → Question → Option (List ℕ)
hint_by o q = if o.needs_again then at_place q.hints o.tries else None

-- a slot under its state as it is shown, with marks shown or not
abbrev pub part_under : State → Bool → Slot → Part
part_under s visible x = record {
  text = x.question.text.text;
  state = s;
  mark = shown_value visible (history.mark_in x);
  hint = hint_by (outcome x.behaviour x.question x.steps) x.question;
  feedback = if shows_feedback s then feedbacks x.question (last x.steps) else [];
  general = if shows_feedback s then x.question.general.text else [];
}

abbrev pub part : Bool → Slot → Part
part visible x = part_under (shown_state visible (history.state_of x)) visible x
