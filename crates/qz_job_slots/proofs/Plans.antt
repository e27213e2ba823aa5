-- What the plan of a quiz has of slots and questions, and that a slot stays in later plans.
use Rattle.std.proofs.Common.{◌≡◌, ℕ, ◌≤◌, Bool, true, List, ◌++◌, Option, Some, None, take, drop, refl, sym, ap, subst, ◌∙◌}
use Rattle.std.specs.Prelude.{is_some, option_and_then}
use Rattle.std.proofs.lemmas.List.{take-append-drop, take-take}
use Rattle.qz_grading.specs.declared.outcome.Behaviour.{Behaviour}
use Rattle.qz_grading.specs.Grading.{at_place, is_place}
use Rattle.qz_terms.specs.declared.access.Settings.{Settings}
use Rattle.qz_terms.specs.declared.plan.Job.{Job}
use Rattle.qz_terms.specs.declared.plan.Plan.{Plan}
use Rattle.qz_terms.specs.declared.record.Record.{Record}
use Rattle.qz_terms.specs.Catalog.{job, job_with, jobs, own_settings, plan_under, questions, quizzes, slots, slots_made}
use Rattle.qz_terms.specs.Legal.{IsLegalCatalog}
use Rattle.qz_catalog.proofs.Marks.{questions-whole}
use Rattle.qz_roster.proofs.NextLemmas.{slots-length}
use Rattle.qz_roster.proofs.Telling.{there-is}
use Rattle.qz_serial.proofs.Longer.{staying_law}
use Rattle.qz_serial.proofs.Places.{some-there}

-- ---- a plan, under whatever settings

pub record IsPlanOf (c : List Record) (q : ℕ) (p : Plan) : Type 0 where
  pub quiz_is : p.quiz ≡ q
  pub slots_are : p.slots ≡ slots c q
  pub questions_are : p.questions ≡ questions c (slots c q)

plan-by : (s : Settings) (c : List Record) (q : ℕ) (p : Plan) (o : Option (List ℕ × Behaviour)) → at_place (quizzes c) q ≡ o → plan_under s c q ≡ Some p → IsPlanOf c q p
plan-by s c q p None is told = let none : None ≡ Some p = rw is at told in absurd cc
plan-by s c q p (Some named) is told =
    let same : Some _ ≡ Some p = rw is at told in
    record { quiz_is = cc; slots_are = cc; questions_are = cc }

pub plan-of : (s : Settings) (c : List Record) (q : ℕ) (p : Plan) → plan_under s c q ≡ Some p → IsPlanOf c q p
plan-of s c q p told = plan-by s c q p (at_place (quizzes c) q) refl told

-- the plan of a job is that of its quiz over the records up to the job's position
abbrev pub JobHasPlan : List Record → Job → Type 0
JobHasPlan c j = IsPlanOf (take j.position c) j.plan.quiz j.plan

job-with : (c : List Record) (number : ℕ) (x : ℕ × ℕ) (j : Job) (o : Option Plan) → plan_under (own_settings (take x.0 c) x.1) (take x.0 c) x.1 ≡ o → job_with c number x ≡ Some j → JobHasPlan c j
job-with c number x j None is told = let none : None ≡ Some j = rw is at told in absurd cc
job-with c number x j (Some p) is told =
    let made : Job = record { number = number; position = x.0; plan = p } in
    let some : Some made ≡ Some j = rw is at told in
    let same : made ≡ j = cc in
    let t = plan-of (own_settings (take x.0 c) x.1) (take x.0 c) x.1 p is in
    subst (JobHasPlan c) same (subst (λ (q : ℕ). IsPlanOf (take x.0 c) q p) (sym t.quiz_is) t)

job-by : (c : List Record) (number : ℕ) (j : Job) (o : Option (ℕ × ℕ)) → at_place (jobs c) number ≡ o → option_and_then (job_with c number) o ≡ Some j → JobHasPlan c j
job-by c number j None is told = absurd cc
job-by c number j (Some x) is told = job-with c number x j (plan_under (own_settings (take x.0 c) x.1) (take x.0 c) x.1) refl told

pub job-plan : (c : List Record) (number : ℕ) (j : Job) → job c number ≡ Some j → JobHasPlan c j
job-plan c number j told = job-by c number j (at_place (jobs c) number) refl told

-- ---- a slot

abbrev pub has_slot : List Record → ℕ → ℕ → Bool
has_slot c q k = is_some (at_place (slots c q) k)

made-there : (c : List Record) (q k : ℕ) → has_slot c q k ≡ is_some (at_place (slots_made c q) k)
made-there c q k = there-is (slots c q) k ∙ ap (λ n. is_place n k) (slots-length c q) ∙ sym (there-is (slots_made c q) k)

slot-stays : (c rest : List Record) (q k : ℕ) → has_slot c q k ≡ true → has_slot (c ++ rest) q k ≡ true
slot-stays c rest q k there =
    let found = some-there (at_place (slots_made c q) k) (sym (made-there c q k) ∙ there) in
    made-there (c ++ rest) q k ∙ ap is_some (staying_law.slot c rest q k found.0 found.1)

-- it is there from then on
pub slot-later : (c : List Record) (n m q k : ℕ) → n ≤ m → has_slot (take n c) q k ≡ true → has_slot (take m c) q k ≡ true
slot-later c n m q k early there =
    let front : take n (take m c) ≡ take n c = take-take n m c early in
    subst (λ (l : List Record). has_slot l q k ≡ true) (take-append-drop n (take m c)) (slot-stays (take n (take m c)) (drop n (take m c)) q k (rw front there))

-- and has its question
pub question-there : (c : List Record) (q k : ℕ) → IsLegalCatalog c → has_slot c q k ≡ true → is_some (at_place (questions c (slots c q)) k) ≡ true
question-there c q k legal there = there-is (questions c (slots c q)) k ∙ ap (λ n. is_place n k) (questions-whole c q legal) ∙ sym (there-is (slots c q) k) ∙ there
