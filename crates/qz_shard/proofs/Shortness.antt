-- A record that may stand next in a shard is short enough for a keeper.
use Rattle.std.proofs.Common.{◌≡◌, ℕ, ◌≤◌, Bool, true, false, not, List, [], ◌∷◌, length, Option, Some, None, refl, sym, subst, All, arith}
use Rattle.std.specs.Prelude.{◌==◌, ℤ, if◌then◌else◌, is_some, option_and_then, unwrap_or}
use Rattle.std.proofs.lemmas.Bool.{and_parts, eqb-true}
use Rattle.std.proofs.lemmas.List.Sums.{count_by-le-length, length-filter}
use Rattle.qz_grading.specs.declared.outcome.Behaviour.{Behaviour}
use Rattle.qz_grading.specs.declared.outcome.Moved.{Moved}
use Rattle.qz_grading.specs.declared.question.Kind.{Kind}
use Rattle.qz_grading.specs.declared.question.Kind.TheVariants as kind
use Rattle.qz_grading.specs.declared.question.Pair.{Pair}
use Rattle.qz_grading.specs.declared.question.Question.{Question}
use Rattle.qz_grading.specs.declared.refusal.AttemptId.{AttemptId}
use Rattle.qz_grading.specs.declared.response.Answer.{Answer}
use Rattle.qz_grading.specs.declared.response.Answer.TheVariants as answer
use Rattle.qz_grading.specs.declared.response.Response.{Response}
use Rattle.qz_grading.specs.declared.response.Step.{Step}
use Rattle.qz_grading.specs.declared.response.Step.TheVariants as step
use Rattle.qz_grading.specs.Behaviours.{moved}
use Rattle.qz_grading.specs.Grading.{answer_fits, certainty_fits, fits, is_blank, is_place, stems}
use Rattle.qz_grading.specs.Questions.{IsQuestion, parts}
use Rattle.qz_grading.specs.Slots.{step_cause}
use Rattle.qz_terms.specs.declared.access.Settings.{Settings}
use Rattle.qz_terms.specs.declared.record.Event.{Event}
use Rattle.qz_terms.specs.declared.record.Event.TheVariants as event
use Rattle.qz_terms.specs.declared.record.Record.{Record}
use Rattle.qz_terms.specs.declared.limits.TheConstants.{MOST_RECORD}
use Rattle.qz_terms.specs.History.{Slot, slot, slot_count, steps}
use Rattle.qz_terms.specs.Kept.{IsKept}
use Rattle.qz_terms.specs.Legal.{EventIsAllowed, IsPut}
use Rattle.qz_terms.specs.Spelling.{spelling}
use Rattle.qz_record.specs.Lengths.{PicksFew, StepsBriefly, TellsBriefly, is_import}
use Rattle.qz_legal.specs.Allowed.{can_act, can_answer, can_note, can_put_under, is_further, is_in_time, is_own, is_same, slot_refusal, takes}
use Rattle.qz_book.specs.Held.{IsSound}
use Rattle.qz_book.specs.Held.{IsHeld, is_asked_event}
use Rattle.qz_book.specs.Nexts.{IsNext}
use Rattle.qz_grading.proofs.WeightLemmas.{few_places}
use Rattle.qz_usage.proofs.RunLemmas.{taken}
use Rattle.qz_lives.proofs.Keeping.{version-kept}
use Rattle.qz_lives.proofs.Tellings.{made-of}
use Rattle.qz_record.proofs.RecordLengths.{learned-few, record-short}
use Rattle.qz_legal.proofs.PutTold.{none-of, not-false, put-told}
use Rattle.qz_legal.proofs.TakeLemmas.{place-slot}

-- ---- an answer that fits

-- it picks no choice twice
choices-few : (k : Kind) (ns : List ℕ) → parts k ≤ 64 → answer_fits k (answer.Picks ns) ≡ true → length ns ≤ 64
choices-few (kind.Several choices) ns few fit = omega (arith, few, few_places (length choices) ns fit)
choices-few k ns few fit = absurd cc

-- it has a number for each stem
matches-few : (k : Kind) (ns : List ℕ) → parts k ≤ 64 → answer_fits k (answer.Match ns) ≡ true → length ns ≤ 64
matches-few (kind.Matching pairs) ns few fit =
    let has_stem : Pair → Bool = λ (p : Pair). not (is_blank p.stem.text) in
    let same : length ns ≡ length (stems pairs) = eqb-true (length ns) (length (stems pairs)) (and_parts (length ns == length (stems pairs)) _ fit).0 in
    omega (arith, few, same, length-filter has_stem pairs, count_by-le-length has_stem pairs)
matches-few k ns few fit = absurd cc

picks-few : (k : Kind) (a : Answer) → parts k ≤ 64 → answer_fits k a ≡ true → PicksFew a
picks-few k (answer.Picks ns) few fit = choices-few k ns few fit
picks-few k (answer.Match ns) few fit = matches-few k ns few fit
picks-few k a few fit = tt

response-brief : (b : Behaviour) (q : Question) (r : Response) → IsQuestion q → not (fits q r b) ≡ false → PicksFew r.answer
response-brief b q r is fit = picks-few q.kind r.answer is.kind.few (and_parts (answer_fits q.kind r.answer) (certainty_fits b r.certainty) (not-false (fits q r b) fit)).0

-- ---- a step that a slot takes

step-brief : (b : Behaviour) (q : Question) (max : ℤ) (s : List Step) (x : Step) → IsQuestion q → step_cause b q max s x ≡ None → StepsBriefly x
step-brief b q max s (step.Save r) is free = response-brief b q r is (taken b q max s (step.Save r) free).fits
step-brief b q max s (step.Submit r) is free = response-brief b q r is (taken b q max s (step.Submit r) free).fits
step-brief b q max s x is free = tt

question-kept : (h : List Record) (a : AttemptId) (k : ℕ) (s : Slot) → All IsKept h → slot h a k ≡ Some s → IsQuestion s.question
question-kept h a k s kept is =
    let made = made-of h a k s is in
    subst (λ (x : Slot). IsQuestion x.question) (sym made.whole) (version-kept h made.bound_now.entry made.bound_now.version made.asked kept made.parts.asks)

slot-brief : (h : List Record) (a : AttemptId) (k : ℕ) (x : Step) (o : Option Slot) → slot h a k ≡ o → All IsKept h → is_some o ≡ true
    → option_and_then (λ (s : Slot). step_cause s.behaviour s.question s.bound.max s.steps x) o ≡ None → StepsBriefly x
slot-brief h a k x None is kept there free = absurd cc
slot-brief h a k x (Some s) is kept there free = step-brief s.behaviour s.question s.bound.max s.steps x (question-kept h a k s kept is) free

takes-brief : (h : List Record) (a : AttemptId) (k : ℕ) (x : Step) → IsSound h → takes h a k x ≡ true → StepsBriefly x
takes-brief h a k x sound can =
    let two = and_parts (is_place (slot_count h a) k) _ can in
    slot-brief h a k x (slot h a k) refl sound.held.kept (place-slot h a k sound two.0) (none-of (slot_refusal h a k x) two.1)

-- ---- a step that a request put

answer-brief : (h : List Record) (r : Record) (s : Settings) (a : AttemptId) (k : ℕ) (x : Step) → IsSound h → can_answer h r s a k x ≡ true → StepsBriefly x
answer-brief h r s a k x sound can =
    let one = and_parts (is_own r a.user) _ can in
    takes-brief h a k x sound (and_parts (is_in_time h s r.moment a) (takes h a k x) one.1).1

-- what moved the slot was an answer
answers-so : (p : Option Moved → Bool) (can : Bool) (m : Moved) → p None ≡ false → p (if can then Some m else None) ≡ true → can ≡ true
answers-so p true m none is = refl
answers-so p false m none is = absurd cc

act-brief : (h : List Record) (r : Record) (s : Settings) (a : AttemptId) (k : ℕ) (x : Step) → IsSound h → can_act h r s a k x ≡ true → StepsBriefly x
act-brief h r s a k (step.Save t) sound can = answer-brief h r s a k (step.Save t) sound (answers-so is_further (can_answer h r s a k (step.Save t)) (moved (steps h a k) (step.Save t)) refl can)
act-brief h r s a k (step.Submit t) sound can = answer-brief h r s a k (step.Submit t) sound (answers-so is_further (can_answer h r s a k (step.Submit t)) (moved (steps h a k) (step.Submit t)) refl can)
act-brief h r s a k x sound can = tt

note-brief : (h : List Record) (r : Record) (s : Settings) (a : AttemptId) (k : ℕ) (x : Step) → IsSound h → can_note h r s a k x ≡ true → StepsBriefly x
note-brief h r s a k (step.Save t) sound can = answer-brief h r s a k (step.Save t) sound (answers-so is_same (can_answer h r s a k (step.Save t)) (moved (steps h a k) (step.Save t)) refl can)
note-brief h r s a k (step.Submit t) sound can = answer-brief h r s a k (step.Submit t) sound (answers-so is_same (can_answer h r s a k (step.Submit t)) (moved (steps h a k) (step.Submit t)) refl can)
note-brief h r s a k x sound can = tt

-- what a request put passes the test of its event, under its own terms
passes : (h : List Record) (r : Record) (d : Event) → r.event ≡ d → (p : IsPut h r) → can_put_under h r p.plan.settings d ≡ true
passes h r d is p =
    let told : can_put_under h r p.plan.settings r.event ≡ true = rw p.under_terms at (put-told h r p) in
    subst (λ (e : Event). can_put_under h r p.plan.settings e ≡ true) is told

-- ---- any record that may stand next

event-brief : (h : List Record) (r : Record) (d : Event) → r.event ≡ d → IsSound h → EventIsAllowed h r d → TellsBriefly d
event-brief h r (event.Founded shards token) is sound allowed = absurd allowed
event-brief h r (event.Asked x) is sound allowed = absurd allowed
event-brief h r (event.Started quiz nth behaviour bounds learned) is sound allowed = learned-few h bounds learned allowed.learns
event-brief h r (event.Acted a k x) is sound allowed = act-brief h r allowed.plan.settings a k x sound (passes h r (event.Acted a k x) is allowed)
event-brief h r (event.Noted a k x) is sound allowed = note-brief h r allowed.plan.settings a k x sound (passes h r (event.Noted a k x) is allowed)
event-brief h r (event.Rebound job a k bound learned) is sound allowed = learned-few h (bound ∷ []) learned allowed.learns
event-brief h r d is sound allowed = tt

no-import : (d : Event) → is_asked_event d ≡ true → is_import d ≡ false
no-import (event.Asked x) asked = absurd cc
no-import d asked = refl

pub next-short : (index count : ℕ) (h : List Record) (r : Record) → IsHeld index count h → IsNext index count h r → length (unwrap_or r.key []) ≤ 64 → length (spelling r) ≤ MOST_RECORD
next-short index count h r held next few =
    let sound : IsSound h = record { index = index; count = count; held = held } in
    record-short r next.kept (record { key = few; event = event-brief h r r.event refl sound next.allowed.event }) (no-import r.event next.asked)
