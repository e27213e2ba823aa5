-- Worked grades: three totals of one user, for a grade of 10 and max marks of 3 in all.
use Rattle.std.specs.Prelude.{◌≡◌, max, List, [], ◌∷◌, ℤ, pos, negsuc, Some, None, Option, refl}
use Rattle.qz_grading.specs.declared.outcome.State.{State}
use Rattle.qz_grading.specs.declared.outcome.State.TheVariants as state
use Rattle.qz_terms.specs.declared.grades.Method.{Method}
use Rattle.qz_terms.specs.declared.grades.Method.TheVariants as method
use Rattle.qz_terms.specs.declared.grades.Policy.{Policy}
use Rattle.qz_terms.specs.Rows.{Scored, row_of, total_of}

abbrev by : Method → Policy
by m = record { method = m; grade = pos 1000000; sum = pos 30000000 }

abbrev three : List (Option ℤ)
three = Some (pos 10000000) ∷ Some (pos 20000000) ∷ Some (pos 20000000) ∷ []

pub average_of_three : row_of (by method.Average) three ≡ Some (pos 555556)
average_of_three = refl

pub first_of_three : row_of (by method.First) three ≡ Some (pos 333333)
first_of_three = refl

pub highest_of_three : row_of (by method.Highest) three ≡ Some (pos 666667)
highest_of_three = refl

pub last_of_three : row_of (by method.Last) three ≡ Some (pos 666667)
last_of_three = refl

pub average_of_two : row_of (by method.Average) (Some (pos 20000000) ∷ Some (pos 0) ∷ []) ≡ Some (pos 333333)
average_of_two = refl

-- a total that isn't there is skipped, but not where the attempt is the one that counts
pub highest_skips : row_of (by method.Highest) (None ∷ Some (pos 10000000) ∷ []) ≡ Some (pos 333333)
highest_skips = refl

pub average_skips : row_of (by method.Average) (None ∷ Some (pos 10000000) ∷ []) ≡ Some (pos 333333)
average_skips = refl

pub first_doesnt : row_of (by method.First) (None ∷ Some (pos 10000000) ∷ []) ≡ None
first_doesnt = refl

pub last_doesnt : row_of (by method.Last) (Some (pos 10000000) ∷ None ∷ []) ≡ None
last_doesnt = refl

-- a negative total, which certainty may give, counts as any other; nothing is cut at 0
pub highest_of_negatives : row_of (by method.Highest) (Some (negsuc 59999999) ∷ Some (negsuc 29999999) ∷ []) ≡ Some (negsuc 999999)
highest_of_negatives = refl

pub none_of_none : row_of (by method.Average) [] ≡ None
none_of_none = refl

-- ---- totals

abbrev with_mark : Option ℤ → State → ℤ → Scored
with_mark m s max = record { state = s; max = max; mark = m }

-- a mark that is missing counts 0
pub missing_counts_nothing : total_of (with_mark (Some (pos 10000000)) state.GradedRight (pos 10000000) ∷ with_mark None state.GaveUp (pos 10000000) ∷ []) ≡ Some (pos 10000000)
missing_counts_nothing = refl

-- but there is no total while a teacher has to mark, unless that mark can't count
pub awaits_a_mark : total_of (with_mark (Some (pos 10000000)) state.GradedRight (pos 10000000) ∷ with_mark None state.NeedsGrading (pos 10000000) ∷ []) ≡ None
awaits_a_mark = refl

pub awaits_nothing : total_of (with_mark (Some (pos 10000000)) state.GradedRight (pos 10000000) ∷ with_mark None state.NeedsGrading (pos 0) ∷ []) ≡ Some (pos 10000000)
awaits_nothing = refl
