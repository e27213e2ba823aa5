-- A slot that a request names and that isn't missing is there.
use Rattle.std.proofs.Common.{◌≡◌, ℕ, Bool, true, false, not, List, Option, Some, None, length, refl, sym, ap, ◌∙◌}
use Rattle.std.specs.Prelude.{is_none}
use Rattle.qz_grading.specs.declared.question.Question.{Question}
use Rattle.qz_grading.specs.declared.refusal.AttemptId.{AttemptId}
use Rattle.qz_grading.specs.declared.refusal.Refusal.{Refusal}
use Rattle.qz_grading.specs.declared.refusal.Refusal.TheVariants as refusal
use Rattle.qz_grading.specs.declared.refusal.Thing.TheVariants as thing
use Rattle.qz_grading.specs.Behaviours.{when}
use Rattle.qz_grading.specs.Grading.{is_place}
use Rattle.qz_terms.specs.declared.people.User.{User}
use Rattle.qz_terms.specs.declared.plan.Bound.{Bound}
use Rattle.qz_terms.specs.declared.record.Record.{Record}
use Rattle.qz_terms.specs.Cause.{missing_attempt, missing_slot}
use Rattle.qz_terms.specs.History.{Start, bound, slot, slot_count, slot_with, start, steps, version}
use Rattle.qz_book.specs.Held.{IsSound}
use Rattle.qz_lives.proofs.Effects.{begun, first-two}
use Rattle.qz_book.proofs.Placing.{IsPlaced, placed}

-- ---- a slot that is there

-- what a slot is made of
pub record HasParts (h : List Record) (a : AttemptId) (k : ℕ) (s : Start) (b : Bound) (q : Question) : Type 0 where
  pub begun : start h a ≡ Some s
  pub bound_is : bound h a k ≡ Some b
  pub asks : version h b.entry b.version ≡ Some q

pub slot-there : (h : List Record) (a : AttemptId) (k : ℕ) (s : Start) (b : Bound) (q : Question) → HasParts h a k s b q → slot h a k ≡ Some (slot_with s b (steps h a k) q)
slot-there h a k s b q p = rw (p.begun, p.bound_is, p.asks) refl

started-as : (o : Option Start) → is_none o ≡ false → (s : Start) × (o ≡ Some s)
started-as None there = absurd cc
started-as (Some s) there = (s, refl)

-- a place that a request names has a slot
pub record IsThere (h : List Record) (a : AttemptId) (k : ℕ) : Type 0 where
  pub started : Start
  pub bound_now : Bound
  pub question_now : Question
  pub parts : HasParts h a k started bound_now question_now

place-by : (n : ℕ) (k : ℕ) (b : Bool) (r : Refusal) → is_place n k ≡ b → when (not b) r ≡ None → b ≡ true
place-by n k true r is none = refl
place-by n k false r is none = absurd cc

count-of : (h : List Record) (a : AttemptId) (s : Start) → start h a ≡ Some s → slot_count h a ≡ length s.bounds
count-of h a s is = rw is refl

pub there : (h : List Record) (user : User) (a : AttemptId) (k : ℕ) → IsPlaced h a k → missing_slot h user a k ≡ None → IsThere h a k
there h user a k p missing =
    let parts = first-two (missing_attempt h user a) (when (not (is_place (slot_count h a) k)) (refusal.Unknown thing.Slot)) missing in
    let begins_so = started-as (start h a) (begun h user a parts.0) in
    let place : is_place (slot_count h a) k ≡ true = place-by (slot_count h a) k (is_place (slot_count h a) k) (refusal.Unknown thing.Slot) refl parts.1 in
    let count = count-of h a begins_so.0 begins_so.1 in
    let b = p.something begins_so.0 begins_so.1 (ap (λ (n : ℕ). is_place n k) (sym count) ∙ place) in
    let q = p.learned b.0 b.1 in
    record { started = begins_so.0; bound_now = b.0; question_now = q.0; parts = record { begun = begins_so.1; bound_is = b.1; asks = q.1 } }

-- a slot that a request names and that isn't missing is there
pub slot-named : (h : List Record) (user : User) (a : AttemptId) (k : ℕ) → IsSound h → missing_slot h user a k ≡ None → IsThere h a k
slot-named h user a k sound missing = there h user a k (placed sound.index sound.count h a k sound.held.legal) missing
