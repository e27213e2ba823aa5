-- What a student is shown of own marks, states and grades. Teachers and managers are shown all.
use Rattle.std.specs.Prelude.{ℕ, Bool, true, false, not, ◌&&◌, ◌||◌, ℤ, if◌then◌else◌, nat_lt, ◌==◌, Some, None, Option}
use Rattle.qz_grading.specs.declared.outcome.State.{State}
use Rattle.qz_grading.specs.declared.outcome.State.TheVariants as state
use Rattle.qz_terms.specs.declared.access.Review.{Review}
use Rattle.qz_terms.specs.declared.access.Review.TheVariants as review
use Rattle.qz_terms.specs.declared.access.Settings.{Settings}
use Rattle.qz_terms.specs.declared.reply.Shown.{Shown}
use Rattle.qz_terms.specs.declared.reply.Shown.TheVariants as shown

-- the quiz has closed, or never does
abbrev pub past_closing : Settings → ℕ → Bool
past_closing s moment = (s.closes == 0) || nat_lt s.closes moment

abbrev pub marks_under : Review → Settings → Bool → ℕ → Bool
marks_under review.Always s ended moment = true
marks_under review.Finish s ended moment = ended
marks_under review.Close s ended moment = ended && past_closing s moment

-- whether marks are shown, in an attempt that has ended or not
abbrev pub shows_marks : Settings → Bool → ℕ → Bool
shows_marks s ended moment = marks_under s.review s ended moment

abbrev pub grades_under : Review → Settings → ℕ → Bool
grades_under review.Close s moment = past_closing s moment
grades_under r s moment = true

-- whether the grade of the quiz is shown
abbrev pub shows_grade : Settings → ℕ → Bool
shows_grade s moment = grades_under s.review s moment

-- a mark, a total or a grade as it is shown
abbrev pub shown_value : Bool → Option ℤ → Shown ℤ
shown_value false value = shown.Hidden
shown_value true None = shown.None
shown_value true (Some value) = shown.Value value

-- the states after a finish
abbrev pub tells_grade : State → Bool
tells_grade state.NeedsGrading = true
tells_grade state.GaveUp = true
tells_grade state.GradedWrong = true
tells_grade state.GradedPartial = true
tells_grade state.GradedRight = true
tells_grade state.MangrWrong = true
tells_grade state.MangrPartial = true
tells_grade state.MangrRight = true
tells_grade s = false

-- where marks are hidden, these are shown as finished
abbrev pub shown_state : Bool → State → State
shown_state visible s = if not visible && tells_grade s then state.Finished else s
