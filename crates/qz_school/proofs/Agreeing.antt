-- Records that agree with a catalogue agree with a longer one.
use Rattle.std.proofs.Common.{◌≡◌, ℕ, ◌≤◌, inl, inr, Bool, true, false, ◌||◌, List, [], ◌∷◌, ◌++◌, Option, Some, None, length, take, refl, sym, ap, subst, arith, length-append}
use Rattle.std.specs.Prelude.{◌==◌, is_some, nat_le, option_and_then}
use Rattle.std.proofs.lemmas.Bool.{leb-true, le-leb}
use Rattle.std.proofs.lemmas.List.{take-append-le}
use Rattle.qz_grading.specs.declared.outcome.Behaviour.{Behaviour}
use Rattle.qz_grading.specs.declared.question.Shape.{Shape}
use Rattle.qz_grading.specs.declared.refusal.AttemptId.{AttemptId}
use Rattle.qz_grading.specs.Grading.{at_place}
use Rattle.qz_terms.specs.declared.plan.Bound.{Bound}
use Rattle.qz_terms.specs.declared.plan.Job.{Job}
use Rattle.qz_terms.specs.declared.record.Event.{Event}
use Rattle.qz_terms.specs.declared.record.Event.TheVariants as event
use Rattle.qz_terms.specs.declared.record.Learned.{Learned}
use Rattle.qz_terms.specs.declared.record.Record.{Record}
use Rattle.qz_terms.specs.Catalog as catalog
use Rattle.qz_terms.specs.Legal.{Agrees, AllAgree, EventAgrees, JobAgrees, LearnsFrom, RebindAgrees, SkipAgrees, StartAgrees, StepAgrees, TermsAgree}
use Rattle.qz_terms.proofs.Walks.{split-push}
use Rattle.qz_serial.proofs.Longer.{job-early, job-stays, user-stays}
use Rattle.qz_serial.proofs.Places.{some-there}

within : (c : List Record) (n : ℕ) → nat_le n (length c) ≡ true → n ≤ length c
within c n is = leb-true n (length c) is

within-longer : (c rest : List Record) (n : ℕ) → nat_le n (length c) ≡ true → nat_le n (length (c ++ rest)) ≡ true
within-longer c rest n is = let below = within c n is in le-leb n (length (c ++ rest)) (omega (arith, length-append c rest))

-- the same front
front : (c rest : List Record) (n : ℕ) → nat_le n (length c) ≡ true → take n (c ++ rest) ≡ take n c
front c rest n is = take-append-le n c rest (within c n is)

abbrev terms-longer : (c rest : List Record) (r : Record) (q u : ℕ) → TermsAgree c r q u → TermsAgree (c ++ rest) r q u
terms-longer c rest r q u t = record {
  terms = t.terms;
  terms_are = t.terms_are;
  within = within-longer c rest t.terms.at t.within;
  plan = t.plan;
  plan_is = rw (front c rest t.terms.at t.within) t.plan_is;
  settings = t.settings;
  ready = t.ready;
}

start-longer : (c rest : List Record) (r : Record) (q : ℕ) (b : Behaviour) (bounds : List Bound) (learned : List Learned) → StartAgrees c r q b bounds learned → StartAgrees (c ++ rest) r q b bounds learned
start-longer c rest r q b bounds learned s =
    let same = front c rest s.its_terms.terms.at s.its_terms.within in
    record {
      its_terms = terms-longer c rest r q r.owner s.its_terms;
      owner = rw same s.owner;
      behaviour = s.behaviour;
      bounds_are = s.bounds_are;
      learns = subst (λ (d : List Record). LearnsFrom d learned) (sym same) s.learns;
    }

step-longer : (c rest l : List Record) (r : Record) (a : AttemptId) → StepAgrees c l r a → StepAgrees (c ++ rest) l r a
step-longer c rest l r a s = record { quiz = s.quiz; of_quiz = s.of_quiz; its_terms = terms-longer c rest r s.quiz a.user s.its_terms }

abbrev job-longer : (c rest : List Record) (n q position : ℕ) → JobAgrees c n q position → JobAgrees (c ++ rest) n q position
job-longer c rest n q position j = record { job = j.job; job_is = job-stays c rest n j.job j.job_is; quiz = j.quiz; position_is = j.position_is }

job-place-by : (c : List Record) (n : ℕ) (j : Job) (x : ℕ × ℕ) (o : Option _) → catalog.plan_under (catalog.own_settings (take x.0 c) x.1) (take x.0 c) x.1 ≡ o → catalog.job_with c n x ≡ Some j → j.position ≡ x.0
job-place-by c n j x None is told = let none : None ≡ Some j = rw is at told in absurd cc
job-place-by c n j x (Some plan) is told = let same : Some _ ≡ Some j = rw is at told in cc

job-within-by : (c : List Record) (n : ℕ) (j : Job) (o : Option (ℕ × ℕ)) → at_place (catalog.jobs c) n ≡ o → option_and_then (catalog.job_with c n) o ≡ Some j → j.position ≤ length c
job-within-by c n j None is told = absurd cc
job-within-by c n j (Some x) is told =
    let place = job-place-by c n j x (catalog.plan_under (catalog.own_settings (take x.0 c) x.1) (take x.0 c) x.1) refl told in
    let early = job-early c n x is in
    omega arith

-- the position of a job lies within the catalogue
pub job-within : (c : List Record) (n : ℕ) (j : Job) → catalog.job c n ≡ Some j → j.position ≤ length c
job-within c n j told = job-within-by c n j (at_place (catalog.jobs c) n) refl told

rebind-longer : (c rest l : List Record) (n : ℕ) (a : AttemptId) (k : ℕ) (b : Bound) (learned : List Learned) → RebindAgrees c l n a k b learned → RebindAgrees (c ++ rest) l n a k b learned
rebind-longer c rest l n a k b learned s =
    let early = job-within c n s.its_job.job s.its_job.job_is in
    let place = s.its_job.position_is in
    let same : take b.at (c ++ rest) ≡ take b.at c = take-append-le b.at c rest (omega arith) in
    record {
      quiz = s.quiz;
      of_quiz = s.of_quiz;
      its_job = job-longer c rest n s.quiz b.at s.its_job;
      bound_is = s.bound_is;
      learns = subst (λ (d : List Record). LearnsFrom d learned) (sym same) s.learns;
    }

skip-longer : (c rest l : List Record) (n : ℕ) (a : AttemptId) (k : ℕ) (bound newer : Shape) → SkipAgrees c l n a k bound newer → SkipAgrees (c ++ rest) l n a k bound newer
skip-longer c rest l n a k bound newer s = record {
  quiz = s.quiz;
  of_quiz = s.of_quiz;
  position = s.position;
  its_job = job-longer c rest n s.quiz s.position s.its_job;
  bound_is = s.bound_is;
  newer_is = s.newer_is;
}

event-longer : (c rest l : List Record) (r : Record) (e : Event) → EventAgrees c l r e → EventAgrees (c ++ rest) l r e
event-longer c rest l r (event.Founded shards token) a = a
event-longer c rest l r (event.Asked x) a = a
event-longer c rest l r (event.Started quiz nth b bounds learned) a = start-longer c rest r quiz b bounds learned a
event-longer c rest l r (event.Acted at k x) a = step-longer c rest l r at a
event-longer c rest l r (event.Noted at k x) a = step-longer c rest l r at a
event-longer c rest l r (event.Ended at how) a = step-longer c rest l r at a
event-longer c rest l r (event.Rebound job at k bound learned) a = rebind-longer c rest l job at k bound learned a
event-longer c rest l r (event.Skipped job at k bound newer) a = skip-longer c rest l job at k bound newer a
event-longer c rest l r (event.JobDone job quiz position) a = job-longer c rest job quiz position a

or-longer : {A : Type 0} (b : Bool) (o p : Option A) → (is_some o ≡ true → is_some p ≡ true) → b || is_some o ≡ true → b || is_some p ≡ true
or-longer true o p more there = refl
or-longer false o p more there = more there

user-longer : (c rest : List Record) (n : ℕ) → is_some (at_place (catalog.users c) n) ≡ true → is_some (at_place (catalog.users (c ++ rest)) n) ≡ true
user-longer c rest n there =
    let found = some-there (at_place (catalog.users c) n) there in
    ap is_some (user-stays c rest n found.0 found.1)

pub agrees-longer : (c rest l : List Record) (r : Record) → Agrees c l r → Agrees (c ++ rest) l r
agrees-longer c rest l r a = record { caller = or-longer (r.caller == 0) (at_place (catalog.users c) r.caller) (at_place (catalog.users (c ++ rest)) r.caller) (λ there. user-longer c rest r.caller there) a.caller; event = event-longer c rest l r r.event a.event }

pub all-longer : (c rest h : List Record) → AllAgree c h → AllAgree (c ++ rest) h
all-longer c rest h all = record { each = λ l r more e. agrees-longer c rest l r (all.each l r more e) }

none-stands : {A : Type 0} (l : List A) (x : A) (rest : List A) → [] ≡ l ++ x ∷ rest → ⊥
none-stands [] x rest e = absurd cc
none-stands (y ∷ l) x rest e = absurd cc

pub all-empty : (c : List Record) → AllAgree c []
all-empty c = record { each = λ l r more e. absurd (none-stands l r more e) }

pub all-push : (c h : List Record) (r : Record) → AllAgree c h → Agrees c h r → AllAgree c (h ++ r ∷ [])
all-push c h r all agrees = record {
  each = λ k s rest e. elim (split-push h k r s rest e) [
    | inl same ↦ subst (λ (t : List Record). Agrees c t s) same.0 (subst (λ (t : Record). Agrees c h t) same.1 agrees)
    | inr behind ↦ all.each k s behind.0 behind.1
  ];
}
