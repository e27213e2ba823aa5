-- A noted record changes no reading.
use Rattle.std.proofs.Common.{◌≡◌, ℕ, List, [], ◌∷◌, ◌++◌, Option, None, refl, ap, if◌then◌else◌}
use Rattle.std.specs.Prelude.{filter_map, filter, map, option_and_then, option_map, unwrap_or, length}
use Rattle.qz_grading.specs.declared.outcome.State.TheVariants.{Todo}
use Rattle.qz_grading.specs.declared.refusal.AttemptId.{AttemptId}
use Rattle.qz_grading.specs.declared.response.Step.{Step}
use Rattle.qz_grading.specs.Steps.{last_of}
use Rattle.qz_terms.specs.declared.grades.Policy.{Policy}
use Rattle.qz_terms.specs.declared.plan.Bound.{Bound}
use Rattle.qz_terms.specs.declared.record.Record.{Record}
use Rattle.qz_terms.specs.Lists.{first_of, in_order, places_to}
use Rattle.qz_terms.specs.Rows.{row_of, total_of}
use Rattle.qz_terms.specs.History as history
use Rattle.qz_terms.specs.Laws.{noted, NotedChangesNothing}
use Rattle.qz_terms.proofs.Readings.{filter_map-other}

abbrev more : List Record → Record → AttemptId → ℕ → Step → List Record
more h r b j x = h ++ noted r b j x ∷ []

steps-noted : (h : List Record) (r : Record) (b : AttemptId) (j : ℕ) (x : Step) (a : AttemptId) (k : ℕ) → history.steps (more h r b j x) a k ≡ history.steps h a k
steps-noted h r b j x a k = filter_map-other (history.step_in a k) h (noted r b j x) refl

start-noted : (h : List Record) (r : Record) (b : AttemptId) (j : ℕ) (x : Step) (a : AttemptId) → history.start (more h r b j x) a ≡ history.start h a
start-noted h r b j x a = ap first_of (filter_map-other (history.starts a) h (noted r b j x) refl)

bound-noted : (h : List Record) (r : Record) (b : AttemptId) (j : ℕ) (x : Step) (a : AttemptId) (k : ℕ) → history.bound (more h r b j x) a k ≡ history.bound h a k
bound-noted h r b j x a k = ap last_of (filter_map-other (history.binds a k) h (noted r b j x) refl)

version-noted : (h : List Record) (r : Record) (b : AttemptId) (j : ℕ) (x : Step) (e v : ℕ) → history.version (more h r b j x) e v ≡ history.version h e v
version-noted h r b j x e v = ap first_of (filter_map-other (history.learns e v) h (noted r b j x) refl)

ended-noted : (h : List Record) (r : Record) (b : AttemptId) (j : ℕ) (x : Step) (a : AttemptId) → history.ended (more h r b j x) a ≡ history.ended h a
ended-noted h r b j x a = ap first_of (filter_map-other (history.ends a) h (noted r b j x) refl)

attempts-noted : (h : List Record) (r : Record) (b : AttemptId) (j : ℕ) (x : Step) (q u : ℕ) → history.attempts (more h r b j x) q u ≡ history.attempts h q u
attempts-noted h r b j x q u = ap (in_order history.attempt_before) (filter_map-other (history.starts_at q u) h (noted r b j x) refl)

slot-noted : (h : List Record) (r : Record) (b : AttemptId) (j : ℕ) (x : Step) (a : AttemptId) (k : ℕ) → history.slot (more h r b j x) a k ≡ history.slot h a k
slot-noted h r b j x a k = λ i. option_and_then (λ s. option_and_then (λ (d : Bound). option_map (history.slot_with s d (steps-noted h r b j x a k i)) (version-noted h r b j x d.entry d.version i)) (bound-noted h r b j x a k i)) (start-noted h r b j x a i)

slots-noted : (h : List Record) (r : Record) (b : AttemptId) (j : ℕ) (x : Step) (a : AttemptId) → history.slots (more h r b j x) a ≡ history.slots h a
slots-noted h r b j x a = λ i. filter_map (λ k. slot-noted h r b j x a k i) (places_to (unwrap_or (option_map (λ (s : history.Start). length s.bounds) (start-noted h r b j x a i)) 0))

finished-noted : (h : List Record) (r : Record) (b : AttemptId) (j : ℕ) (x : Step) (a : AttemptId) → history.is_finished (more h r b j x) a ≡ history.is_finished h a
finished-noted h r b j x a = ap history.ended_finished (ended-noted h r b j x a)

total-noted : (h : List Record) (r : Record) (b : AttemptId) (j : ℕ) (x : Step) (a : AttemptId) → history.total (more h r b j x) a ≡ history.total h a
total-noted h r b j x a = λ i. if finished-noted h r b j x a i then total_of (map history.scored (slots-noted h r b j x a i)) else None

row-noted : (h : List Record) (r : Record) (b : AttemptId) (j : ℕ) (x : Step) (q u : ℕ) (policy : Policy) → history.row (more h r b j x) q policy u ≡ history.row h q policy u
row-noted h r b j x q u policy = λ i. row_of policy (map (λ a. total-noted h r b j x a i) (filter (λ a. finished-noted h r b j x a i) (attempts-noted h r b j x q u i)))

pub noted_law : NotedChangesNothing
noted_law = record {
  steps = steps-noted;
  bound = bound-noted;
  state = λ h r b j x a k. ap (λ (s : Option history.Slot). unwrap_or (option_map history.state_of s) Todo) (slot-noted h r b j x a k);
  mark = λ h r b j x a k. ap (λ (s : Option history.Slot). option_and_then history.mark_in s) (slot-noted h r b j x a k);
  total = total-noted;
  row = row-noted;
}
