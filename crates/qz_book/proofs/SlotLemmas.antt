-- The slots of a list: what each is made of, and that one which isn't missing is there.
use Rattle.std.proofs.Common.{◌≡◌, ℕ, true, List, Option, Some, None, refl, sym, ap, subst, ◌∙◌, option_map}
use Rattle.std.specs.Prelude.{is_some, option_and_then}
use Rattle.qz_grading.specs.declared.question.Question.{Question}
use Rattle.qz_grading.specs.declared.refusal.AttemptId.{AttemptId}
use Rattle.qz_grading.specs.declared.response.Step.{Step}
use Rattle.qz_terms.specs.declared.people.User.{User}
use Rattle.qz_terms.specs.declared.plan.Bound.{Bound}
use Rattle.qz_terms.specs.declared.record.Record.{Record}
use Rattle.qz_terms.specs.Cause.{missing_slot}
use Rattle.qz_terms.specs.History.{Slot, Start, bound, slot, slot_with, start, version}
use Rattle.qz_terms.specs.History as history
use Rattle.qz_usage.specs.Runs.{IsBound, Run}
use Rattle.qz_lives.specs.Attempts.{IsSlot, slot_of}
use Rattle.qz_book.specs.Held.{IsSound}
use Rattle.qz_book.proofs.Following.{slot-named, slot-there}

slot-steps-asked : (s : Start) (b : Bound) (taken : List Step) (o : Option Question) (x : Slot) → option_map (slot_with s b taken) o ≡ Some x → x.steps ≡ taken
slot-steps-asked s b taken None x is = absurd cc
slot-steps-asked s b taken (Some q) x is = let same : slot_with s b taken q ≡ x = cc in ap (λ (y : Slot). y.steps) (sym same)

slot-steps-by : (h : List Record) (o : Option Start) (p : Option Bound) (taken : List Step) (x : Slot) → option_and_then (λ s. option_and_then (λ (b : Bound). option_map (slot_with s b taken) (version h b.entry b.version)) p) o ≡ Some x → x.steps ≡ taken
slot-steps-by h None p taken x is = absurd cc
slot-steps-by h (Some s) None taken x is = absurd cc
slot-steps-by h (Some s) (Some b) taken x is = slot-steps-asked s b taken (version h b.entry b.version) x is

pub slot-steps : (h : List Record) (a : AttemptId) (k : ℕ) (s : Slot) → slot h a k ≡ Some s → s.steps ≡ history.steps h a k
slot-steps h a k s is = slot-steps-by h (start h a) (bound h a k) (history.steps h a k) s is

asks-with : (h : List Record) (s : Start) (b : Bound) (taken : List Step) (o : Option Question) (x : Slot) → version h b.entry b.version ≡ o → option_map (slot_with s b taken) o ≡ Some x → version h x.bound.entry x.bound.version ≡ Some x.question
asks-with h s b taken None x is told = absurd cc
asks-with h s b taken (Some q) x is told = let same : slot_with s b taken q ≡ x = cc in subst (λ (y : Slot). version h y.bound.entry y.bound.version ≡ Some y.question) same is

asks-by : (h : List Record) (o : Option Start) (p : Option Bound) (taken : List Step) (x : Slot) → option_and_then (λ s. option_and_then (λ (b : Bound). option_map (slot_with s b taken) (version h b.entry b.version)) p) o ≡ Some x → version h x.bound.entry x.bound.version ≡ Some x.question
asks-by h None p taken x is = absurd cc
asks-by h (Some s) None taken x is = absurd cc
asks-by h (Some s) (Some b) taken x is = asks-with h s b taken (version h b.entry b.version) x refl is

same-question : (o : Option Question) (p q : Question) → o ≡ Some p → Some q ≡ o → p ≡ q
same-question o p q one two = cc

-- a run plays its slot under the question that the list has learned of its version
pub played : (h : List Record) (a : AttemptId) (k : ℕ) (r : Run) (q : Question) → IsSlot h a k r → Some q ≡ version h r.bound.entry r.bound.version → (slot h a k ≡ Some (slot_of r q)) × IsBound r q
played h a k r q plays told =
    let asks : version h r.bound.entry r.bound.version ≡ Some plays.question = asks-by h (start h a) (bound h a k) (history.steps h a k) (slot_of r plays.question) plays.slot_is in
    let same : plays.question ≡ q = same-question (version h r.bound.entry r.bound.version) plays.question q asks told in
    (plays.slot_is ∙ ap (λ (p : Question). Some (slot_of r p)) same, subst (IsBound r) same plays.asked)

-- ---- a slot that isn't missing

pub slot-some : (h : List Record) (user : User) (a : AttemptId) (k : ℕ) → IsSound h → missing_slot h user a k ≡ None → is_some (slot h a k) ≡ true
slot-some h user a k sound missing =
    let t = slot-named h user a k sound missing in
    ap is_some (slot-there h a k t.started t.bound_now t.question_now t.parts)
