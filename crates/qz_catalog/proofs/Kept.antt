-- What every plan keeps.
use Rattle.std.proofs.Common.{◌≡◌, ℕ, ◌+◌, ◌*◌, ◌≤◌, Bool, true, false, List, [], ◌∷◌, Option, Some, None, Result, Ok, Err, option_map, length, map, take, drop, refl, sym, ap, subst, ◌∙◌, arith, All}
use Rattle.std.specs.List.{list_all}
use Rattle.std.specs.Prelude.{ℤ, pos, ◌+ℤ◌, ◌&&◌, IfOk, fold, int_le, option_and_then, unsigned_abs}
use Rattle.std.proofs.lemmas.Bool.{le-leb}
use Rattle.std.proofs.lemmas.Int.{ints}
use Rattle.std.proofs.lemmas.List.{take-append-drop}
use Rattle.std.proofs.lemmas.List.Elements.{All-nil, All-take}
use Rattle.std.proofs.lemmas.List.Folds.{list_all-append}
use Rattle.qz_decimal.specs.Numbers.{IsMaxSum, IsQuizGrade, IsWithin, grade_one, one}
use Rattle.qz_grading.specs.declared.outcome.Behaviour.{Behaviour}
use Rattle.qz_grading.specs.declared.question.Question.{Question}
use Rattle.qz_grading.specs.Grading.{at_place}
use Rattle.qz_grading.specs.Questions.{IsQuestion}
use Rattle.qz_bank.specs.declared.entry.Entry.{Entry}
use Rattle.qz_terms.specs.declared.plan.Job.{Job}
use Rattle.qz_terms.specs.declared.plan.Plan.{Plan}
use Rattle.qz_terms.specs.declared.plan.Planned.{Planned}
use Rattle.qz_terms.specs.declared.record.Record.{Record}
use Rattle.qz_terms.specs.Catalog.{is_ready, job, job_with, jobs, own_settings, plan, plan_under, policy, questions, quizzes, settings, slots}
use Rattle.qz_terms.specs.Kept.{AreQuestions, IsKept, IsKeptPlan, is_planned}
use Rattle.qz_terms.specs.Legal.{IsLegalCatalog}
use Rattle.qz_terms.specs.Rows.{sum_of}
use Rattle.qz_catalog.specs.Holdings.{IsHeld, keeps_described, lean}
use Rattle.qz_catalog.proofs.Accepted.{few-slots}
use Rattle.qz_catalog.proofs.Keeping.{grade-kept, own-kept, settings-kept}
use Rattle.qz_catalog.proofs.Marks.{and-left, and-right, le-by, planned-slots, questions-whole}
use Rattle.qz_catalog.proofs.Plans.{within}
use Rattle.qz_roster.proofs.NextLemmas.{slots-length}
use Rattle.qz_catalog.proofs.Staying.{front-legal}
use Rattle.qz_catalog.proofs.Versions.{questions-kept}

-- ---- the sum

fold-range : (ss : List Planned) (n : ℕ) → list_all is_planned ss ≡ true → (m : ℕ) × (fold ◌+ℤ◌ (pos n) (map (λ (s : Planned). s.max) ss) ≡ pos m) × (m ≤ n + length ss * (10000 * one))
fold-range [] n all = (n, refl, omega arith)
fold-range (s ∷ ss) n all =
    let here = within s.max (and-left (is_planned s) (list_all is_planned ss) all) in
    let rest = fold-range ss (n + unsigned_abs s.max) (and-right (is_planned s) (list_all is_planned ss) all) in
    let plus : pos n +ℤ pos (unsigned_abs s.max) ≡ pos (n + unsigned_abs s.max) = omega (arith, ints) in
    (rest.0, ap (λ (z : ℤ). fold ◌+ℤ◌ z (map (λ (t : Planned). t.max) ss)) (ap (λ (m : ℤ). pos n +ℤ m) here.0 ∙ plus) ∙ rest.1, let small = here.1 in let more = rest.2 in omega (arith, small, more))

range-by : (m : ℕ) (z : ℤ) → z ≡ pos m → m ≤ 2000000 * one → int_le (pos 0) z && int_le z (pos (2000000 * one)) ≡ true
range-by m z is few =
    let above : int_le (pos 0) z ≡ true = le-by (pos 0) z (int_le (pos 0) z) refl (omega (arith, ints, is)) in
    let below : int_le z (pos (2000000 * one)) ≡ true = le-by z (pos (2000000 * one)) (int_le z (pos (2000000 * one))) refl (omega (arith, ints, is, few)) in
    rw (above, below) refl

few-planned : (c : List Record) (q : ℕ) → IsLegalCatalog c → length (slots c q) ≤ 200
few-planned c q legal = let few = few-slots c q legal in let long = slots-length c q in omega (arith, few, long)

sum-range : (c : List Record) (q : ℕ) → IsLegalCatalog c → int_le (pos 0) (sum_of (map (λ (s : Planned). s.max) (slots c q))) && int_le (sum_of (map (λ (s : Planned). s.max) (slots c q))) (pos (2000000 * one)) ≡ true
sum-range c q legal =
    let r = fold-range (slots c q) 0 (planned-slots c q legal) in
    let few = few-planned c q legal in
    let most = r.2 in
    range-by r.0 (sum_of (map (λ (s : Planned). s.max) (slots c q))) r.1 (omega (arith, few, most))

-- ---- plans

abbrev plan_with : List Record → ℕ → ℕ → List Question → List ℕ × Behaviour → Plan
plan_with c q u qs named = record { at = length c; quiz = q; name = named.0; ready = is_ready c q; behaviour = named.1; settings = settings c q u; policy = policy c q; slots = slots c q; questions = qs }

with-kept : (c : List Record) (q u : ℕ) (qs : List Question) (named : List ℕ × Behaviour) → IsLegalCatalog c → All IsKept c → AreQuestions qs → IsKeptPlan (plan_with c q u qs named)
with-kept c q u qs named legal kept all = record {
  settings = settings-kept c q u kept;
  few = le-leb (length (slots c q)) 200 (few-planned c q legal);
  slots = planned-slots c q legal;
  grade = grade-kept c q kept;
  sum = sum-range c q legal;
  questions = all;
}

-- what a plan is known to keep, whole or not
pub record IsSoundPlan (whole : Bool) (p : Plan) : Type 0 where
  pub kept : IsKeptPlan p
  pub each : whole ≡ true → length p.questions ≡ length p.slots

sound-by : (c : List Record) (q u : ℕ) (w : Bool) (named : List ℕ × Behaviour) → IsLegalCatalog c → All IsKept c → list_all keeps_described c ≡ true → IsSoundPlan w (lean w (plan_with c q u (questions c (slots c q)) named))
sound-by c q u true named legal kept described = record { kept = with-kept c q u (questions c (slots c q)) named legal kept (questions-kept c (slots c q) legal kept described); each = λ is. questions-whole c q legal }
sound-by c q u false named legal kept described = record { kept = with-kept c q u [] named legal kept (All-nil IsQuestion); each = λ is. absurd cc }

sound-of : (c : List Record) (q u : ℕ) (w : Bool) (p : Plan) (o : Option (List ℕ × Behaviour)) → IsLegalCatalog c → All IsKept c → list_all keeps_described c ≡ true → option_map (lean w) (option_map (plan_with c q u (questions c (slots c q))) o) ≡ Some p → IsSoundPlan w p
sound-of c q u w p None legal kept described is = absurd cc
sound-of c q u w p (Some named) legal kept described is = let same : lean w (plan_with c q u (questions c (slots c q)) named) ≡ p = cc in subst (IsSoundPlan w) same (sound-by c q u w named legal kept described)

pub plan-sound : (c : List Record) (es : List Entry) (q u : ℕ) (w : Bool) (p : Plan) → IsHeld c es → option_map (lean w) (plan c q u) ≡ Some p → IsSoundPlan w p
plan-sound c es q u w p held is = sound-of c q u w p (at_place (quizzes c) q) held.legal held.kept held.described is

-- ---- jobs

-- the plan of a quiz over the first records, with its own settings
abbrev own_plan_with : List Record → ℕ → List ℕ × Behaviour → Plan
own_plan_with c q named = record { at = length c; quiz = q; name = named.0; ready = is_ready c q; behaviour = named.1; settings = own_settings c q; policy = policy c q; slots = slots c q; questions = questions c (slots c q) }

own-plan-sound : (c : List Record) (q : ℕ) (named : List ℕ × Behaviour) → IsLegalCatalog c → All IsKept c → list_all keeps_described c ≡ true → IsSoundPlan true (own_plan_with c q named)
own-plan-sound c q named legal kept described = record {
  kept = record {
    settings = own-kept c q kept;
    few = le-leb (length (slots c q)) 200 (few-planned c q legal);
    slots = planned-slots c q legal;
    grade = grade-kept c q kept;
    sum = sum-range c q legal;
    questions = questions-kept c (slots c q) legal kept described;
  };
  each = λ is. questions-whole c q legal;
}

own-sound-of : (c : List Record) (q : ℕ) (p : Plan) (o : Option (List ℕ × Behaviour)) → IsLegalCatalog c → All IsKept c → list_all keeps_described c ≡ true → option_map (own_plan_with c q) o ≡ Some p → IsSoundPlan true p
own-sound-of c q p None legal kept described is = absurd cc
own-sound-of c q p (Some named) legal kept described is = let same : own_plan_with c q named ≡ p = cc in subst (IsSoundPlan true) same (own-plan-sound c q named legal kept described)

front-described : (c : List Record) (n : ℕ) → list_all keeps_described c ≡ true → list_all keeps_described (take n c) ≡ true
front-described c n all = and-left (list_all keeps_described (take n c)) (list_all keeps_described (drop n c)) (sym (list_all-append keeps_described (take n c) (drop n c)) ∙ ap (list_all keeps_described) (take-append-drop n c) ∙ all)

own-front-sound : (c : List Record) (es : List Entry) (n q : ℕ) (p : Plan) → IsHeld c es → plan_under (own_settings (take n c) q) (take n c) q ≡ Some p → IsSoundPlan true p
own-front-sound c es n q p held is = own-sound-of (take n c) q p (at_place (quizzes (take n c)) q) (front-legal c n held.legal) (All-take IsKept n c held.kept) (front-described c n held.described) is

-- what a job is known to keep
pub record IsSoundJob (j : Job) : Type 0 where
  pub kept : IsKeptPlan j.plan
  pub each : length j.plan.questions ≡ length j.plan.slots

job-sound-with : (c : List Record) (es : List Entry) (number : ℕ) (place : ℕ × ℕ) (j : Job) (o : Option Plan) → plan_under (own_settings (take place.0 c) place.1) (take place.0 c) place.1 ≡ o → IsHeld c es
    → option_map (λ (plan : Plan). record { number = number; position = place.0; plan = plan }) o ≡ Some j → IsSoundJob j
job-sound-with c es number place j None told held is = absurd cc
job-sound-with c es number place j (Some p) told held is =
    let made : Job = record { number = number; position = place.0; plan = p } in
    let same : made ≡ j = cc in
    let sound = own-front-sound c es place.0 place.1 p held told in
    subst IsSoundJob same (record { kept = sound.kept; each = sound.each refl })

job-sound-at : (c : List Record) (es : List Entry) (number : ℕ) (j : Job) (o : Option (ℕ × ℕ)) → IsHeld c es → option_and_then (job_with c number) o ≡ Some j → IsSoundJob j
job-sound-at c es number j None held is = absurd cc
job-sound-at c es number j (Some place) held is = job-sound-with c es number place j (plan_under (own_settings (take place.0 c) place.1) (take place.0 c) place.1) refl held is

pub job-sound : (c : List Record) (es : List Entry) (number : ℕ) (j : Job) → IsHeld c es → job c number ≡ Some j → IsSoundJob j
job-sound c es number j held is = job-sound-at c es number j (at_place (jobs c) number) held is

-- ---- how a quiz is graded

range-of : (a b z : ℤ) → int_le a z && int_le z b ≡ true → IsWithin a b z
range-of a b z is =
    let low = and-left (int_le a z) (int_le z b) is in
    let high = and-right (int_le a z) (int_le z b) is in
    (omega (arith, ints, low), omega (arith, ints, high))

pub grade-within : (c : List Record) (es : List Entry) (q : ℕ) → IsHeld c es → IsQuizGrade (policy c q).grade
grade-within c es q held = range-of (pos 0) (pos (10000 * grade_one)) (policy c q).grade (grade-kept c q held.kept)

pub sum-within : (c : List Record) (es : List Entry) (q : ℕ) → IsHeld c es → IsMaxSum (policy c q).sum
sum-within c es q held = range-of (pos 0) (pos (2000000 * one)) (policy c q).sum (sum-range c q held.legal)

pub if_ok-more : {A E : Type 0} (r : Result A E) (P Q : A → Type 0) → ((x : A) → P x → Q x) → IfOk r P → IfOk r Q
if_ok-more (Ok x) P Q more p = more x p
if_ok-more (Err e) P Q more p = tt
