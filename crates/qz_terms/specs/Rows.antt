-- From marks to totals, and from totals to a grade.
use Rattle.std.specs.Int.{int_max}
use Rattle.std.specs.List.{list_any}
use Rattle.std.specs.Prelude.{◌*◌, Bool, true, false, ◌&&◌, List, [], ◌∷◌, map, length, ℤ, pos, neg_ℤ, ◌+ℤ◌, if◌then◌else◌, int_lt, Some, None, fold, filter_map, Option, unwrap_or, option_to_list}
use Rattle.qz_decimal.specs.Numbers.{IsWithin, grade_of, one}
use Rattle.qz_grading.specs.declared.outcome.State.{State}
use Rattle.qz_grading.specs.declared.outcome.State.TheVariants as state
use Rattle.qz_grading.specs.Steps.{last_of}
use Rattle.qz_terms.specs.declared.grades.Method.{Method}
use Rattle.qz_terms.specs.declared.grades.Method.TheVariants as method
use Rattle.qz_terms.specs.declared.grades.Policy.{Policy}
use Rattle.qz_terms.specs.Lists.{first_of}

-- ---- the total of an attempt that is finished

-- what a slot adds to a total
pub record Scored : Type 0 where
  pub state : State
  pub max : ℤ
  pub mark : Option ℤ

abbrev pub needs_grading : State → Bool
needs_grading state.NeedsGrading = true
needs_grading s = false

-- a teacher's mark is missing that would count
abbrev pub awaits_mark : Scored → Bool
awaits_mark slot = needs_grading slot.state && int_lt (pos 0) slot.max

abbrev pub sum_of : List ℤ → ℤ
sum_of xs = fold ◌+ℤ◌ (pos 0) xs

-- the sum of the marks, where one that is missing counts 0, and none while a mark is awaited
abbrev pub total_of : List Scored → Option ℤ
total_of slots = if list_any awaits_mark slots then None else Some (sum_of (map (λ (s : Scored). unwrap_or s.mark (pos 0)) slots))

-- a total of at most 200 slots is from -12,000,000 to 12,000,000
abbrev pub IsTotal : ℤ → Type 0
IsTotal = IsWithin (neg_ℤ (pos (12000000 * one))) (pos (12000000 * one))

-- ---- the grade over totals

abbrev pub greatest_total : List ℤ → Option ℤ
greatest_total [] = None
greatest_total (t ∷ ts) = Some (fold int_max t ts)

-- the totals that count, of a user's finished attempts in order of start; the highest and the average skip attempts
-- without a total, the first and the last don't
abbrev pub totals_taken : Method → List (Option ℤ) → List ℤ
totals_taken method.Highest totals = option_to_list (greatest_total (filter_map (λ t. t) totals))
totals_taken method.Average totals = filter_map (λ t. t) totals
totals_taken method.First totals = option_to_list (unwrap_or (first_of totals) None)
totals_taken method.Last totals = option_to_list (unwrap_or (last_of totals) None)

abbrev pub graded_by : Policy → List ℤ → Option ℤ
graded_by policy [] = None
graded_by policy (t ∷ ts) = Some (grade_of (sum_of (t ∷ ts)) (length (t ∷ ts)) policy.grade policy.sum)

-- the grade, and none where no total is taken
abbrev pub row_of : Policy → List (Option ℤ) → Option ℤ
row_of policy totals = graded_by policy (totals_taken policy.method totals)
