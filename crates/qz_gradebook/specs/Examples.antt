-- Worked rows: totals that are put in any order, and changed.
use Rattle.std.specs.Prelude.{◌≡◌, ℕ, List, [], ◌∷◌, Option, Some, None, ℤ, pos, refl}
use Rattle.qz_terms.specs.declared.grades.Method.TheVariants as method
use Rattle.qz_terms.specs.Rows.{row_of}
use Rattle.qz_gradebook.specs.declared.finished.Finished.{Finished}
use Rattle.qz_gradebook.specs.Totals.{total_at, totals_of, with_total}

-- the total of the attempt of user 2 with this number, at quiz 1
abbrev with : ℕ → Option ℤ → List Finished → List Finished
with n t fs = with_total 1 (record { user = 2; nth = n }) t fs

-- three attempts, of which the last is put first
abbrev three : List Finished
three = with 2 (Some (pos 20)) (with 1 (Some (pos 10)) (with 3 None []))

pub in_order_of_number : totals_of three 1 2 ≡ Some (pos 10) ∷ Some (pos 20) ∷ None ∷ []
in_order_of_number = refl

-- a total that is put again takes the place of the one before
pub put_again : totals_of (with 2 (Some (pos 5)) three) 1 2 ≡ Some (pos 10) ∷ Some (pos 5) ∷ None ∷ []
put_again = refl

pub put_again_alone : with 1 None (with 1 (Some (pos 10)) []) ≡ with 1 None []
put_again_alone = refl

-- the total of one attempt, as it was put last
pub of_one_attempt : total_at 1 (record { user = 2; nth = 2 }) (with 2 (Some (pos 5)) three) ≡ Some (pos 5)
of_one_attempt = refl

pub of_no_attempt : total_at 1 (record { user = 2; nth = 4 }) three ≡ None
of_no_attempt = refl

-- those of another user or quiz are others
pub of_another_user : totals_of (with_total 1 (record { user = 3; nth = 1 }) (Some (pos 7)) three) 1 2 ≡ totals_of three 1 2
of_another_user = refl

pub of_another_quiz : totals_of (with_total 2 (record { user = 2; nth = 1 }) (Some (pos 7)) three) 1 2 ≡ totals_of three 1 2
of_another_quiz = refl

-- a greatest total that is lowered lowers the highest
pub highest_lowered : row_of (record { method = method.Highest; grade = pos 1000000; sum = pos 20 }) (totals_of (with 2 (Some (pos 5)) three) 1 2) ≡ Some (pos 500000)
highest_lowered = refl
