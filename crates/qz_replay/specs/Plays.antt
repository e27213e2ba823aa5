-- A slot that is replayed: what a line asks for, what comes of it, and what is said of it.
use Rattle.std.specs.Prelude.{◌≡◌, ℕ, ℤ, IfSome, List, [], ◌∷◌, ◌++◌, Some, None, Result, Ok, Err, if◌then◌else◌, codes}
use Rattle.qz_decimal.specs.Numbers.{IsMaxMark}
use Rattle.qz_grading.specs.declared.outcome.Behaviour.{Behaviour}
use Rattle.qz_grading.specs.declared.outcome.Moved.{Moved}
use Rattle.qz_grading.specs.declared.outcome.Moved.TheVariants.{Kept, Same}
use Rattle.qz_grading.specs.declared.question.Question.{Question}
use Rattle.qz_grading.specs.declared.refusal.Refusal.{Refusal}
use Rattle.qz_grading.specs.declared.refusal.Refusal.TheVariants.{Incompatible}
use Rattle.qz_grading.specs.declared.response.Step.{Step}
use Rattle.qz_grading.specs.Behaviours.{behaviour_for, moved}
use Rattle.qz_grading.specs.Questions.{IsQuestion}
use Rattle.qz_grading.specs.Shapes.{shape, same_shape}
use Rattle.qz_grading.specs.Slots.{slot_state, slot_mark, step_cause}
use Rattle.qz_grading.specs.Steps.{given}
use Rattle.qz_grading.specs.Words.{state_word, mark_or_dash}
use Rattle.qz_replay.specs.declared.asked.Asked.{Asked}
use Rattle.qz_replay.specs.declared.asked.Asked.TheVariants as asked
use Rattle.qz_replay.specs.declared.slot.Slot.{Slot}
use Rattle.qz_wire.specs.Refusals.{refused_words}

-- a slot, and the steps taken on it
pub record Play : Type 0 where
  pub slot : Slot
  pub taken : List Step

-- a slot with a question and a max mark in range
pub record IsPlayable (slot : Slot) : Type 0 where
  pub question : IsQuestion slot.question
  pub max : IsMaxMark slot.max

-- a Mark is out of the max mark that is bound, and a version has a question and a max mark in range
abbrev pub IsAskable : ℤ → Asked → Type 0
IsAskable max (asked.Step x) = IfSome (given x) (λ m. m.1 ≡ max)
IsAskable max (asked.Bind v) = IsMaxMark v.max × IsQuestion v.question

-- how the slot behaves, whose question may have a behaviour of its own
abbrev pub behaves : Slot → Behaviour
behaves slot = behaviour_for slot.question.kind slot.behaviour

-- ---- what comes of a line

-- a step is refused for its first cause, the same as before, or kept
abbrev pub step_fate : Play → Step → Result Moved Refusal
step_fate p x = elim (step_cause (behaves p.slot) p.slot.question p.slot.max p.taken x) [ None ↦ Ok (moved p.taken x) | Some r ↦ Err r ]

-- a newer version of another shape is refused
abbrev pub bind_fate : Question → Question → Result Moved Refusal
bind_fate old newer = if same_shape (shape old) (shape newer) then Ok Kept else Err (Incompatible (shape old) (shape newer))

abbrev pub fate : Play → Asked → Result Moved Refusal
fate p (asked.Step x) = step_fate p x
fate p (asked.Bind v) = bind_fate p.slot.question v.question

abbrev pub kept : Play → Asked → Play
kept p (asked.Step x) = record p { taken = p.taken ++ x ∷ [] }
kept p (asked.Bind v) = record p { slot = record { behaviour = p.slot.behaviour; max = v.max; question = v.question } }

-- what is refused or the same adds nothing
abbrev pub after_fate : Result Moved Refusal → Play → Asked → Play
after_fate (Ok Kept) p a = kept p a
after_fate (Ok Same) p a = p
after_fate (Err r) p a = p

abbrev pub next : Play → Asked → Play
next p a = after_fate (fate p a) p a

-- ---- what is said of it

-- the state and the mark of the slot
abbrev pub standing : Play → List ℕ
standing p = state_word (slot_state (behaves p.slot) p.slot.question p.taken) ++ (codes " " ++ mark_or_dash (slot_mark (behaves p.slot) p.slot.question p.slot.max p.taken))

abbrev pub said_of : Result Moved Refusal → Play → List ℕ
said_of (Ok Kept) p = standing p
said_of (Ok Same) p = codes "same " ++ standing p
said_of (Err r) p = codes "refused " ++ refused_words r

abbrev pub told : Play → Asked → List ℕ
told p a = said_of (fate p a) (next p a)
