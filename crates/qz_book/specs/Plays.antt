-- What a slot that is played promises.
use Rattle.std.specs.Prelude.{◌≡◌, Option, Some, None, Result, MatchResult}
use Rattle.qz_grading.specs.declared.outcome.Moved.{Moved}
use Rattle.qz_grading.specs.declared.refusal.Refusal.{Refusal}
use Rattle.qz_grading.specs.declared.response.Step.{Step}
use Rattle.qz_grading.specs.Behaviours.{moved}
use Rattle.qz_grading.specs.Slots.{step_cause}
use Rattle.qz_terms.specs.History.{Slot}
use Rattle.qz_usage.specs.Runs.{IsBound}
use Rattle.qz_lives.specs.Attempts.{slot_of}
use Rattle.qz_book.specs.declared.book.Played.{Played}

-- a slot of a list and its run
abbrev pub IsSlot : Option Played → Option Slot → Type 0
IsSlot None s = s ≡ None
IsSlot (Some p) s = (s ≡ Some (slot_of p.run.now p.question.now)) × IsBound p.run.now p.question.now

-- a step is taken on a slot, or refused for its first cause
abbrev pub IsMove : Slot → Step → Result Moved Refusal → Type 0
IsMove s x told = MatchResult told
    (λ m. (step_cause s.behaviour s.question s.bound.max s.steps x ≡ None) × (m ≡ moved s.steps x))
    (λ r. step_cause s.behaviour s.question s.bound.max s.steps x ≡ Some r)
