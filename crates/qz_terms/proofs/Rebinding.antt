-- A job that binds again what is bound changes nothing of the slot.
use Rattle.std.proofs.Common.{◌≡◌, ℕ, true, List, [], ◌∷◌, ◌++◌, Option, Some, None, refl, ap, ◌∙◌, sym, arith}
use Rattle.std.specs.Prelude.{filter_map, option_and_then, option_map, unwrap_or, ◌==◌}
use Rattle.qz_grading.specs.declared.outcome.State.TheVariants.{Todo}
use Rattle.qz_grading.specs.declared.question.Question.{Question}
use Rattle.qz_grading.specs.declared.refusal.AttemptId.{AttemptId}
use Rattle.qz_grading.specs.declared.response.Step.{Step}
use Rattle.qz_grading.specs.Steps.{last_of}
use Rattle.qz_terms.specs.declared.plan.Bound.{Bound}
use Rattle.qz_terms.specs.declared.record.Learned.{Learned}
use Rattle.qz_terms.specs.declared.record.Record.{Record}
use Rattle.qz_terms.specs.Lists.{first_of}
use Rattle.qz_terms.specs.History as history
use Rattle.qz_terms.specs.Laws.{rebound, later_bound, SameBoundChangesNothing}
use Rattle.qz_terms.proofs.Readings.{filter_map-other, filter_map-push, last_or-push, first_of-append}
use Rattle.std.proofs.lemmas.List.Elements.{filter_map-append}

eqb-same : (n : ℕ) → (n == n) ≡ true
eqb-same n = grind arith

binds-rebound : (r : Record) (job : ℕ) (a : AttemptId) (k : ℕ) (b : Bound) (learned : List Learned) → history.binds a k (rebound r job a k b learned) ≡ Some b
binds-rebound r job a k b learned = rw (eqb-same a.user, eqb-same a.nth, eqb-same k) refl

abbrev longer : List Record → Record → ℕ → AttemptId → ℕ → Bound → List Learned → List Record
longer h r job a k b learned = h ++ rebound r job a k b learned ∷ []

-- a start and the steps aren't touched
start-rebound : (h : List Record) (r : Record) (job : ℕ) (a : AttemptId) (k : ℕ) (b : Bound) (learned : List Learned) → history.start (longer h r job a k b learned) a ≡ history.start h a
start-rebound h r job a k b learned = ap first_of (filter_map-other (history.starts a) h (rebound r job a k b learned) refl)

steps-rebound : (h : List Record) (r : Record) (job : ℕ) (a : AttemptId) (k : ℕ) (b : Bound) (learned : List Learned) → history.steps (longer h r job a k b learned) a k ≡ history.steps h a k
steps-rebound h r job a k b learned = filter_map-other (history.step_in a k) h (rebound r job a k b learned) refl

bound-rebound : (h : List Record) (r : Record) (job : ℕ) (a : AttemptId) (k : ℕ) (b : Bound) (learned : List Learned) → history.bound (longer h r job a k b learned) a k ≡ Some b
bound-rebound h r job a k b learned = ap last_of (filter_map-push (history.binds a k) h (rebound r job a k b learned) b (binds-rebound r job a k b learned)) ∙ last_or-push None (filter_map (history.binds a k) h) b

-- a version that was learned stays as it was learned
version-rebound : (h : List Record) (r : Record) (job : ℕ) (a : AttemptId) (k : ℕ) (b : Bound) (learned : List Learned) (e v : ℕ) (q : Question) → history.version h e v ≡ Some q → history.version (longer h r job a k b learned) e v ≡ Some q
version-rebound h r job a k b learned e v q known = ap first_of (filter_map-append (history.learns e v) h (rebound r job a k b learned ∷ [])) ∙ first_of-append (filter_map (history.learns e v) h) _ q known

-- a slot by its start, what is bound to it, its steps and its question
slot-known : (h : List Record) (a : AttemptId) (k : ℕ) (b : Bound) (q : Question) → history.bound h a k ≡ Some b → history.version h b.entry b.version ≡ Some q → history.slot h a k ≡ option_map (λ s. history.slot_with s b (history.steps h a k) q) (history.start h a)
slot-known h a k b q bound_is version_is = elim (history.start h a) as (λ s. option_and_then (λ t. option_and_then (λ (d : Bound). option_map (history.slot_with t d (history.steps h a k)) (history.version h d.entry d.version)) (history.bound h a k)) s ≡ option_map (λ t. history.slot_with t b (history.steps h a k) q) s) [
  | None ↦ refl
  | Some s ↦ rw (bound_is, version_is) refl
]

-- what the bound's place in the catalogue doesn't tell
state-of-some : (o : Option history.Start) (b : Bound) (position : ℕ) (taken : List Step) (q : Question) → unwrap_or (option_map history.state_of (option_map (λ s. history.slot_with s (later_bound b position) taken q) o)) Todo ≡ unwrap_or (option_map history.state_of (option_map (λ s. history.slot_with s b taken q) o)) Todo
state-of-some None b position taken q = refl
state-of-some (Some s) b position taken q = refl

mark-of-some : (o : Option history.Start) (b : Bound) (position : ℕ) (taken : List Step) (q : Question) → option_and_then history.mark_in (option_map (λ s. history.slot_with s (later_bound b position) taken q) o) ≡ option_and_then history.mark_in (option_map (λ s. history.slot_with s b taken q) o)
mark-of-some None b position taken q = refl
mark-of-some (Some s) b position taken q = refl

-- the slot afterwards
slot-rebound : (h : List Record) (r : Record) (job position : ℕ) (a : AttemptId) (k : ℕ) (b : Bound) (learned : List Learned) (q : Question) → history.version h b.entry b.version ≡ Some q
    → history.slot (longer h r job a k (later_bound b position) learned) a k ≡ option_map (λ s. history.slot_with s (later_bound b position) (history.steps h a k) q) (history.start h a)
slot-rebound h r job position a k b learned q version_is =
    slot-known (longer h r job a k (later_bound b position) learned) a k (later_bound b position) q (bound-rebound h r job a k (later_bound b position) learned) (version-rebound h r job a k (later_bound b position) learned b.entry b.version q version_is)
    ∙ (λ i. option_map (λ s. history.slot_with s (later_bound b position) (steps-rebound h r job a k (later_bound b position) learned i) q) (start-rebound h r job a k (later_bound b position) learned i))

pub rebinding_law : SameBoundChangesNothing
rebinding_law = record {
  state = λ h r job position a k b learned q bound_is version_is.
      ap (λ (s : Option history.Slot). unwrap_or (option_map history.state_of s) Todo) (slot-rebound h r job position a k b learned q version_is)
      ∙ state-of-some (history.start h a) b position (history.steps h a k) q
      ∙ ap (λ (s : Option history.Slot). unwrap_or (option_map history.state_of s) Todo) (sym (slot-known h a k b q bound_is version_is));
  mark = λ h r job position a k b learned q bound_is version_is.
      ap (λ (s : Option history.Slot). option_and_then history.mark_in s) (slot-rebound h r job position a k b learned q version_is)
      ∙ mark-of-some (history.start h a) b position (history.steps h a k) q
      ∙ ap (λ (s : Option history.Slot). option_and_then history.mark_in s) (sym (slot-known h a k b q bound_is version_is));
}
