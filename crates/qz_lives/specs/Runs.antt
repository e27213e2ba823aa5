-- The runs of an attempt's slots, and what is done to them. A question is found by what is bound.
use Rattle.std.specs.Prelude.{◌≡◌, ℕ, ◌<◌, ◌≤◌, true, false, List, [], ◌∷◌, ◌++◌, length, Option, Some, IfSome, slice_get}
use Rattle.qz_decimal.specs.Numbers.{IsMaxMark}
use Rattle.qz_grading.specs.declared.outcome.Behaviour.{Behaviour}
use Rattle.qz_grading.specs.declared.question.Question.{Question}
use Rattle.qz_grading.specs.declared.response.Step.{Step}
use Rattle.qz_grading.specs.declared.response.Step.TheVariants as step
use Rattle.qz_grading.specs.Behaviours.{behaviour_for}
use Rattle.qz_grading.specs.Grading.{at_place, shape}
use Rattle.qz_grading.specs.Questions.{IsQuestion}
use Rattle.qz_grading.specs.Shapes.{same_shape}
use Rattle.qz_grading.specs.Slots.{is_misfit}
use Rattle.qz_grading.specs.Steps.{given}
use Rattle.qz_terms.specs.declared.plan.Bound.{Bound}
use Rattle.qz_usage.specs.Runs.{Adds, IsBound, IsGiven, IsWithinLimits, Run, behaviour_of}
use Rattle.qz_usage.specs.Usages.{with_slot}

-- the questions of versions that are known
abbrev pub Known : Type 0
Known = ℕ → ℕ → Option Question

-- ---- one run

-- a version may be bound to a slot of an attempt that starts
pub record CanOpen (known : Known) (b : Bound) : Type 0 where
  pub question : Question
  pub asks : known b.entry b.version ≡ Some question
  pub is_question : IsQuestion question
  pub max : IsMaxMark b.max

abbrev pub IsRoomy : Run → Type 0
IsRoomy r = 0 < r.room

-- a run has no step yet, and has the question of what is bound to it
pub record IsFresh (known : Known) (preferred : Behaviour) (b : Bound) (r : Run) : Type 0 where
  pub question : Question
  pub asks : known b.entry b.version ≡ Some question
  pub asked : IsBound r question
  pub behaviour : behaviour_of r ≡ behaviour_for question.kind preferred
  pub bound : r.bound ≡ b
  pub steps : r.steps ≡ []

-- a run may follow a step: there is room, the response fits, the mark is one that a teacher may give, and the slot takes one more
pub record CanTake (known : Known) (r : Run) (x : Step) : Type 0 where
  pub question : Question
  pub asks : known r.bound.entry r.bound.version ≡ Some question
  pub asked : IsBound r question
  pub room : 0 < r.room
  pub fits : is_misfit (behaviour_of r) question x ≡ false
  pub given : IfSome (given x) IsGiven
  pub limits : IsWithinLimits (r.steps ++ x ∷ [])

-- a run has followed one step more
pub record HasTaken (known : Known) (old new : Run) (x : Step) : Type 0 where
  pub question : Question
  pub asks : known old.bound.entry old.bound.version ≡ Some question
  pub adds : Adds old new x
  pub asked : IsBound new question

-- another version of the same shape may be bound to a run
pub record CanBind (known : Known) (r : Run) (b : Bound) : Type 0 where
  pub old : Question
  pub newer : Question
  pub asks_old : known r.bound.entry r.bound.version ≡ Some old
  pub asks_newer : known b.entry b.version ≡ Some newer
  pub asked : IsBound r old
  pub is_question : IsQuestion newer
  pub same : same_shape (shape old) (shape newer) ≡ true
  pub max : IsMaxMark b.max

-- it is bound, and the steps have been read again
pub record HasBound (known : Known) (old new : Run) (b : Bound) : Type 0 where
  pub question : Question
  pub asks : known b.entry b.version ≡ Some question
  pub asked : IsBound new question
  pub bound : new.bound ≡ b
  pub steps : new.steps ≡ old.steps
  pub behaviour : behaviour_of new ≡ behaviour_of old

-- ---- the runs of an attempt

pub record AreFresh (known : Known) (preferred : Behaviour) (bounds : List Bound) (runs : List Run) : Type 0 where
  pub count : length runs ≡ length bounds
  pub each : (n : ℕ) (b : Bound) (r : Run) → slice_get bounds n ≡ Some b → slice_get runs n ≡ Some r → IsFresh known preferred b r

pub record HaveRoom (runs : List Run) : Type 0 where
  pub each : (k : ℕ) (r : Run) → at_place runs k ≡ Some r → IsRoomy r

-- the same runs, with no less room
pub record AreRoomier (old new : List Run) : Type 0 where
  pub count : length new ≡ length old
  pub each : (k : ℕ) (r : Run) → at_place old k ≡ Some r → (n : ℕ) × (at_place new k ≡ Some (record r { room = n })) × (r.room ≤ n)

-- of the slot at a place, from 1
pub record CanTakeAt (known : Known) (runs : List Run) (k : ℕ) (x : Step) : Type 0 where
  pub run : Run
  pub there : at_place runs k ≡ Some run
  pub can : CanTake known run x

pub record HasTakenAt (known : Known) (old new : List Run) (k : ℕ) (x : Step) : Type 0 where
  pub run : Run
  pub there : at_place old k ≡ Some run
  pub next : Run
  pub taken : HasTaken known run next x
  pub runs : new ≡ with_slot old k next

pub record CanBindAt (known : Known) (runs : List Run) (k : ℕ) (b : Bound) : Type 0 where
  pub run : Run
  pub there : at_place runs k ≡ Some run
  pub can : CanBind known run b

pub record HasBoundAt (known : Known) (old new : List Run) (k : ℕ) (b : Bound) : Type 0 where
  pub run : Run
  pub there : at_place old k ≡ Some run
  pub next : Run
  pub anew : HasBound known run next b
  pub runs : new ≡ with_slot old k next

-- of each slot
pub record CanFinish (known : Known) (runs : List Run) : Type 0 where
  pub each : (k : ℕ) (r : Run) → at_place runs k ≡ Some r → CanTake known r step.Finish

pub record HaveFinished (known : Known) (old new : List Run) : Type 0 where
  pub count : length new ≡ length old
  pub each : (k : ℕ) (r n : Run) → at_place old k ≡ Some r → at_place new k ≡ Some n → HasTaken known r n step.Finish
