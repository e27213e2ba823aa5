-- The slots of an attempt, in order.
use Rattle.std.specs.Prelude.{ℕ, ◌-◌, ◌==◌, if◌then◌else◌, slice_set, List, [], ◌∷◌}
use Rattle.qz_grading.specs.declared.question.Question.{Question}
use Rattle.qz_grading.specs.Slots.{slot_mark, slot_state}
use Rattle.qz_terms.specs.Rows.{Scored}
use Rattle.qz_usage.specs.Runs.{Run, behaviour_of, IsBound}

-- the questions that are bound to the slots, one to each
abbrev pub AreBound : List Run → List Question → Type 0
AreBound [] [] = Unit {0}
AreBound [] (q ∷ qs) = ⊥
AreBound (r ∷ rs) [] = ⊥
AreBound (r ∷ rs) (q ∷ qs) = IsBound r q × AreBound rs qs

-- what a slot adds to the total
abbrev pub scored : Run × Question → Scored
scored s = record { state = slot_state (behaviour_of s.0) s.1 s.0.steps; max = s.0.bound.max; mark = slot_mark (behaviour_of s.0) s.1 s.0.bound.max s.0.steps }

-- with another slot at a place, from 1, if there is one
abbrev pub with_slot : List Run → ℕ → Run → List Run
with_slot slots k r = if k == 0 then slots else slice_set slots (k - 1) r
