-- What is known of a record by what is asked of the catalogue.
use Rattle.std.proofs.Common.{◌≡◌, ℕ, zero, suc, ◌+◌, ◌-◌, ◌<◌, ◌≤◌, Bool, true, false, ◌||◌, List, [], ◌∷◌, Option, Some, None, length, take, option_map, refl, sym, ap, subst, ◌∙◌, arith}
use Rattle.std.specs.Bool.{Decides}
use Rattle.std.specs.List.{enumerate_from}
use Rattle.std.specs.Prelude.{◌==◌, IsSomeAnd, filter_map, if◌then◌else◌, is_some, option_and_then, slice_get}
use Rattle.std.proofs.lemmas.Bool.{le-leb, leb-true}
use Rattle.qz_grading.specs.declared.outcome.Behaviour.{Behaviour}
use Rattle.qz_grading.specs.declared.question.Shape.{Shape}
use Rattle.qz_grading.specs.declared.refusal.AttemptId.{AttemptId}
use Rattle.qz_grading.specs.Grading.{at_place, shape}
use Rattle.qz_terms.specs.declared.access.Settings.{Settings}
use Rattle.qz_terms.specs.declared.plan.Bound.{Bound}
use Rattle.qz_terms.specs.declared.plan.Job.{Job}
use Rattle.qz_terms.specs.declared.plan.Plan.{Plan}
use Rattle.qz_terms.specs.declared.record.Event.TheVariants as event
use Rattle.qz_terms.specs.declared.record.Learned.{Learned}
use Rattle.qz_terms.specs.declared.record.Record.{Record}
use Rattle.qz_terms.specs.declared.record.Terms.{Terms}
use Rattle.qz_terms.specs.declared.request.Request.{Request}
use Rattle.qz_terms.specs.declared.request.Request.TheVariants as request
use Rattle.qz_terms.specs.Catalog as catalog
use Rattle.qz_terms.specs.History as history
use Rattle.qz_terms.specs.Legal.{EventAgrees, EventIsAllowed, LearnsFrom, RebindAgrees, SkipAgrees, StartAgrees, StepAgrees, TermsAgree}
use Rattle.qz_catalog.specs.Holdings.{lean}
use Rattle.qz_catalog.specs.Readings.{settings_if_ready}
use Rattle.qz_agreement.specs.declared.look.Verdict.{Verdict}
use Rattle.qz_agreement.specs.declared.look.Verdict.TheVariants as verdict
use Rattle.qz_agreement.specs.Fitting.{BindsByJob, Fits, IsPending, IsUnder, IsUnderTerms, IsVerdict, IsVerdictOf, SkipsByJob, StartFits, StepFits, decided}

-- ---- terms

-- no quiz is there before the first record
no-plan-by : (q u : ℕ) (b : Bool) → (q == 0) ≡ b → catalog.plan [] q u ≡ None
no-plan-by q u true is = rw is refl
no-plan-by q u false is = rw is refl

some-at : (c : List Record) (n q u : ℕ) (plan : Plan) → catalog.plan (take n c) q u ≡ Some plan → 1 ≤ n
some-at c zero q u plan is = absurd (let none = no-plan-by q u (q == 0) refl in let there : catalog.plan [] q u ≡ Some plan = is in cc)
some-at c (suc n) q u plan is = omega arith

denied : (c : List Record) (r : Record) (q u : ℕ) → ((t : Terms) → r.terms ≡ Some t → 1 ≤ t.at → t.at ≤ length c → ⊥) → TermsAgree c r q u → ⊥
denied c r q u none t = none t.terms t.terms_are (some-at c t.terms.at q u t.plan t.plan_is) (leb-true t.terms.at (length c) t.within)

ready-by : (o : Option Plan) (s : Settings) (plan : Plan) → o ≡ Some plan → s ≡ plan.settings → plan.ready ≡ true → option_and_then settings_if_ready o ≡ Some s
ready-by o s plan is same ready = rw (is, ready) (ap Some (sym same))

record IsReadyPlan (o : Option Plan) (s : Settings) : Type 0 where
  plan : Plan
  plan_is : o ≡ Some plan
  settings : s ≡ plan.settings
  ready : plan.ready ≡ true

plan-by : (plan : Plan) (s : Settings) (b : Bool) → plan.ready ≡ b → (if b then Some plan.settings else None) ≡ Some s → IsReadyPlan (Some plan) s
plan-by plan s true is told = record { plan = plan; plan_is = refl; settings = (let same : plan.settings ≡ s = cc in sym same); ready = is }
plan-by plan s false is told = absurd cc

plan-ready : (o : Option Plan) (s : Settings) → option_and_then settings_if_ready o ≡ Some s → IsReadyPlan o s
plan-ready None s told = absurd cc
plan-ready (Some plan) s told = plan-by plan s plan.ready refl told

-- ---- steps and ends

abbrev under : List Record → Record → ℕ → ℕ → Option Terms → Type 0
under c r q n o = (1 ≤ n) × (n ≤ length c) × (option_map (λ (t : Terms). t.at) o ≡ Some n)

step-enough : (c l : List Record) (r : Record) (a : AttemptId) (q n : ℕ) (o : Option Terms) → r.terms ≡ o → n ≤ length c → option_map (λ (t : Terms). t.at) o ≡ Some n → history.quiz l a ≡ Some q → StepFits (take n c) o q a.user → StepAgrees c l r a
step-enough c l r a q n None is within at quiz fits = absurd cc
step-enough c l r a q n (Some t) is within at quiz fits =
    let same : t.at ≡ n = cc in
    let ready = plan-ready (catalog.plan (take n c) q a.user) t.settings fits in
    record {
      quiz = q;
      of_quiz = quiz;
      its_terms = record {
        terms = t;
        terms_are = is;
        within = le-leb t.at (length c) (omega arith);
        plan = ready.plan;
        plan_is = rw same ready.plan_is;
        settings = ready.settings;
        ready = ready.ready;
      };
    }

step-needed : (c l : List Record) (r : Record) (a : AttemptId) (q n : ℕ) (o : Option Terms) → r.terms ≡ o → option_map (λ (t : Terms). t.at) o ≡ Some n → history.quiz l a ≡ Some q → StepAgrees c l r a → StepFits (take n c) o q a.user
step-needed c l r a q n None is at quiz agrees = absurd cc
step-needed c l r a q n (Some t) is at quiz agrees =
    let same : t.at ≡ n = cc in
    let terms : agrees.its_terms.terms ≡ t = (let told = agrees.its_terms.terms_are in cc) in
    let one : agrees.quiz ≡ q = (let told = agrees.of_quiz in cc) in
    ready-by (catalog.plan (take n c) q a.user) t.settings agrees.its_terms.plan
    (rw (← same, ← terms, ← one) agrees.its_terms.plan_is)
    (ap (λ (x : Terms). x.settings) (sym terms) ∙ agrees.its_terms.settings) agrees.its_terms.ready

step-pending : (c l : List Record) (r : Record) (a : AttemptId) (q n p : ℕ) → p ≡ q → under c r q n r.terms → history.quiz l a ≡ Some q → IsPending c n (StepFits (take n c) r.terms p a.user) (StepAgrees c l r a)
step-pending c l r a q n p same u quiz = record {
  some = u.0;
  within = u.1;
  enough = λ fits. step-enough c l r a q n r.terms refl u.1 u.2 quiz (subst (λ (x : ℕ). StepFits (take n c) r.terms x a.user) same fits);
  needed = λ agrees. subst (λ (x : ℕ). StepFits (take n c) r.terms x a.user) (sym same) (step-needed c l r a q n r.terms refl u.2 quiz agrees);
}

pub step-verdict : (c l : List Record) (r : Record) (a : AttemptId) (q : ℕ) (v : Verdict) → history.quiz l a ≡ Some q → IsUnderTerms c r q v
    → IsVerdict c (λ n p. StepFits (take n c) r.terms p a.user) (StepAgrees c l r a) v
step-verdict c l r a q verdict.Agreed quiz u = absurd u
step-verdict c l r a q verdict.Denied quiz u = λ agrees. denied c r agrees.quiz a.user u agrees.its_terms
step-verdict c l r a q (verdict.Pending n p) quiz u = step-pending c l r a q n p u.0 (u.1, u.2, u.3) quiz

-- ---- starts

start-enough : (c : List Record) (r : Record) (q : ℕ) (b : Behaviour) (bounds : List Bound) (learned : List Learned) (n : ℕ) (o : Option Terms) → r.terms ≡ o → n ≤ length c → option_map (λ (t : Terms). t.at) o ≡ Some n
    → IsSomeAnd o (λ t. StartFits (take n c) t q r.owner b bounds learned) → StartAgrees c r q b bounds learned
start-enough c r q b bounds learned n None is within at fits = absurd fits
start-enough c r q b bounds learned n (Some t) is within at fits =
    let same : n ≡ t.at = cc in
    let here : StartFits (take t.at c) t q r.owner b bounds learned = subst (λ (m : ℕ). StartFits (take m c) t q r.owner b bounds learned) same fits in
    record {
      its_terms = record {
        terms = t;
        terms_are = is;
        within = le-leb t.at (length c) (omega arith);
        plan = here.plan;
        plan_is = here.plan_is;
        settings = here.under.settings;
        ready = here.under.ready;
      };
      owner = here.owner;
      behaviour = here.under.behaviour;
      bounds_are = here.under.bounds_are;
      learns = here.learns;
    }

start-needed : (c : List Record) (r : Record) (q : ℕ) (b : Behaviour) (bounds : List Bound) (learned : List Learned) (n : ℕ) (o : Option Terms) → r.terms ≡ o → option_map (λ (t : Terms). t.at) o ≡ Some n
    → StartAgrees c r q b bounds learned → IsSomeAnd o (λ t. StartFits (take n c) t q r.owner b bounds learned)
start-needed c r q b bounds learned n None is at agrees = absurd cc
start-needed c r q b bounds learned n (Some t) is at agrees =
    let same : t.at ≡ n = cc in
    let terms : agrees.its_terms.terms ≡ t = (let told = agrees.its_terms.terms_are in cc) in
    let fits : StartFits (take agrees.its_terms.terms.at c) agrees.its_terms.terms q r.owner b bounds learned = record {
      owner = agrees.owner;
      plan = agrees.its_terms.plan;
      plan_is = agrees.its_terms.plan_is;
      under = record { ready = agrees.its_terms.ready; settings = agrees.its_terms.settings; behaviour = agrees.behaviour; bounds_are = agrees.bounds_are };
      learns = agrees.learns;
    } in
    subst (λ (m : ℕ). StartFits (take m c) t q r.owner b bounds learned) same (subst (λ (x : Terms). StartFits (take x.at c) x q r.owner b bounds learned) terms fits)

pub start-verdict : (c : List Record) (r : Record) (q : ℕ) (b : Behaviour) (bounds : List Bound) (learned : List Learned) (v : Verdict) → IsUnderTerms c r q v
    → IsVerdict c (λ n p. IsSomeAnd r.terms (λ t. StartFits (take n c) t q r.owner b bounds learned)) (StartAgrees c r q b bounds learned) v
start-verdict c r q b bounds learned verdict.Agreed u = absurd u
start-verdict c r q b bounds learned verdict.Denied u = λ agrees. denied c r q r.owner u agrees.its_terms
start-verdict c r q b bounds learned (verdict.Pending n p) u = record {
  some = u.1;
  within = u.2;
  enough = λ fits. start-enough c r q b bounds learned n r.terms refl u.2 u.3 fits;
  needed = λ agrees. start-needed c r q b bounds learned n r.terms refl u.3 agrees;
}

record IsLeanOf (o : Option Plan) (p : Plan) : Type 0 where
  plan : Plan
  plan_is : o ≡ Some plan
  lean_is : lean false plan ≡ p

lean-of : (o : Option Plan) (p : Plan) → option_map (lean false) o ≡ Some p → IsLeanOf o p
lean-of None p is = absurd cc
lean-of (Some plan) p is = record { plan = plan; plan_is = refl; lean_is = (let same : lean false plan ≡ p = cc in same) }

under-plan : (plan p : Plan) (t : Terms) (b : Behaviour) (bounds : List Bound) → lean false plan ≡ p → IsUnder p t b bounds → IsUnder plan t b bounds
under-plan plan p t b bounds same u = let w : IsUnder (lean false plan) t b bounds = subst (λ (x : Plan). IsUnder x t b bounds) (sym same) u in record { ready = w.ready; settings = w.settings; behaviour = w.behaviour; bounds_are = w.bounds_are }

under-lean : (plan p : Plan) (t : Terms) (b : Behaviour) (bounds : List Bound) → lean false plan ≡ p → IsUnder plan t b bounds → IsUnder p t b bounds
under-lean plan p t b bounds same u = let w : IsUnder (lean false plan) t b bounds = record { ready = u.ready; settings = u.settings; behaviour = u.behaviour; bounds_are = u.bounds_are } in subst (λ (x : Plan). IsUnder x t b bounds) same w

start-under : (l : List Record) (t : Terms) (q u : ℕ) (b : Behaviour) (bounds : List Bound) (learned : List Learned) (p : Plan) → IsLeanOf (catalog.plan l q u) p → StartFits l t q u b bounds learned → IsUnder p t b bounds
start-under l t q u b bounds learned p lean_is fits =
    let same : fits.plan ≡ lean_is.plan = (let two : Some fits.plan ≡ Some lean_is.plan = sym fits.plan_is ∙ lean_is.plan_is in cc) in
    under-lean lean_is.plan p t b bounds lean_is.lean_is (subst (λ (x : Plan). IsUnder x t b bounds) same fits.under)

-- a start that isn't under the plan
pub start-misfits : (l : List Record) (o : Option Terms) (t : Terms) (q u : ℕ) (b : Behaviour) (bounds : List Bound) (learned : List Learned) (p : Plan) → o ≡ Some t → option_map (lean false) (catalog.plan l q u) ≡ Some p
    → (IsUnder p t b bounds → ⊥) → Decides false (IsSomeAnd o (λ x. StartFits l x q u b bounds learned))
start-misfits l o t q u b bounds learned p is plan none =
    (λ e. absurd cc, λ fits. absurd (none (start-under l t q u b bounds learned p (lean-of (catalog.plan l q u) p plan) (subst (λ (x : Option Terms). IsSomeAnd x (λ y. StartFits l y q u b bounds learned)) is fits))))

-- one that is, where the versions that it learned are looked at
pub start-decides : (l : List Record) (o : Option Terms) (t : Terms) (q u : ℕ) (b : Behaviour) (bounds : List Bound) (learned : List Learned) (p : Plan) (x : Bool) → o ≡ Some t → option_map (lean false) (catalog.plan l q u) ≡ Some p
    → is_some (at_place (catalog.users l) u) ≡ true → IsUnder p t b bounds → Decides x (LearnsFrom l learned) → Decides x (IsSomeAnd o (λ y. StartFits l y q u b bounds learned))
start-decides l o t q u b bounds learned p x is plan there under learns =
    let whole = lean-of (catalog.plan l q u) p plan in
    subst (λ (z : Option Terms). Decides x (IsSomeAnd z (λ y. StartFits l y q u b bounds learned))) (sym is)
    (λ yes. record { owner = there; plan = whole.plan; plan_is = whole.plan_is; under = under-plan whole.plan p t b bounds whole.lean_is under; learns = learns.0 yes }, λ fits. learns.1 fits.learns)

-- ---- jobs

abbrev job_at : ℕ × Record → Option (ℕ × ℕ)
job_at r = catalog.regrade_by r.0 (catalog.asked r.1)

job-place : (n : ℕ) (o : Option Request) (x : ℕ × ℕ) → catalog.regrade_by n o ≡ Some x → x.0 ≡ n
job-place n (Some (request.Regrade quiz)) x is = let same : (n, quiz) ≡ x = cc in ap (λ (y : ℕ × ℕ). y.0) (sym same)
job-place n o x is = absurd cc

placed-step : (n : ℕ) (r : Record) (c : List Record) (i : ℕ) (j : ℕ × ℕ) (o : Option (ℕ × ℕ)) → job_at (n, r) ≡ o → slice_get (filter_map job_at (enumerate_from n (r ∷ c))) i ≡ Some j
    → ((k : ℕ) → slice_get (filter_map job_at (enumerate_from (n + 1) c)) k ≡ Some j → (n + 1 ≤ j.0) × (j.0 < n + 1 + length c)) → (n ≤ j.0) × (j.0 < n + length (r ∷ c))
placed-step n r c i j None is found later = let below = later i (rw is at found) in (let low = below.0 in omega (arith, low), let high = below.1 in omega (arith, high))
placed-step n r c zero j (Some x) is found later =
    let first : Some x ≡ Some j = rw is at found in
    let same : x ≡ j = cc in
    let place : j.0 ≡ n = ap (λ (y : ℕ × ℕ). y.0) (sym same) ∙ job-place n (catalog.asked r) x is in
    (omega (arith, place), omega (arith, place))
placed-step n r c (suc i) j (Some x) is found later = let below = later i (rw is at found) in (let low = below.0 in omega (arith, low), let high = below.1 in omega (arith, high))

placed-from : (n : ℕ) (c : List Record) (i : ℕ) (j : ℕ × ℕ) → slice_get (filter_map job_at (enumerate_from n c)) i ≡ Some j → (n ≤ j.0) × (j.0 < n + length c)
placed-from n [] i j found = absurd cc
placed-from n (r ∷ c) i j found = placed-step n r c i j (job_at (n, r)) refl found (λ k e. placed-from (n + 1) c k j e)

placed-at : (c : List Record) (n : ℕ) (j : ℕ × ℕ) (b : Bool) → (n == 0) ≡ b → at_place (catalog.jobs c) n ≡ Some j → (1 ≤ j.0) × (j.0 ≤ length c)
placed-at c n j true is found = let none : None ≡ Some j = rw is at found in absurd cc
placed-at c n j false is found = let there = placed-from 1 c (n - 1) j (rw is at found) in (there.0, let high = there.1 in omega (arith, high))

position-by : (c : List Record) (n : ℕ) (j : Job) (x : ℕ × ℕ) (o : Option Plan) → catalog.plan_under (catalog.own_settings (take x.0 c) x.1) (take x.0 c) x.1 ≡ o → catalog.job_with c n x ≡ Some j → j.position ≡ x.0
position-by c n j x None is told = let none : None ≡ Some j = rw is at told in absurd cc
position-by c n j x (Some plan) is told = let same : Some (record { number = n; position = x.0; plan = plan }) ≡ Some j = rw is at told in let one : record { number = n; position = x.0; plan = plan } ≡ j = cc in sym (ap (λ (y : Job). y.position) one)

within-by : (c : List Record) (n : ℕ) (j : Job) (o : Option (ℕ × ℕ)) → at_place (catalog.jobs c) n ≡ o → option_and_then (catalog.job_with c n) o ≡ Some j → (1 ≤ j.position) × (j.position ≤ length c)
within-by c n j None is told = absurd cc
within-by c n j (Some x) is told =
    let place = position-by c n j x (catalog.plan_under (catalog.own_settings (take x.0 c) x.1) (take x.0 c) x.1) refl told in
    let there = placed-at c n x (n == 0) refl is in
    (let low = there.0 in omega (arith, low, place), let high = there.1 in omega (arith, high, place))

-- a job's position is that of a record
pub job-within : (c : List Record) (n : ℕ) (j : Job) → catalog.job c n ≡ Some j → (1 ≤ j.position) × (j.position ≤ length c)
job-within c n j told = within-by c n j (at_place (catalog.jobs c) n) refl told

pub rebound-pending : (c l : List Record) (job : ℕ) (a : AttemptId) (k q : ℕ) (b : Bound) (learned : List Learned) → history.quiz l a ≡ Some q → BindsByJob c job q k b
    → IsPending c b.at (LearnsFrom (take b.at c) learned) (RebindAgrees c l job a k b learned)
rebound-pending c l job a k q b learned quiz binds =
    let there = job-within c job binds.job binds.job_is in
    let place = binds.has.position_is in
    record {
      some = let low = there.0 in omega (arith, low, place);
      within = let high = there.1 in omega (arith, high, place);
      enough = λ learns. record { quiz = q; of_quiz = quiz; its_job = record { job = binds.job; job_is = binds.job_is; quiz = binds.quiz; position_is = binds.has.position_is }; bound_is = binds.has.bound_is; learns = learns };
      needed = λ agrees. agrees.learns;
    }

skip-agrees : (c l : List Record) (job : ℕ) (a : AttemptId) (k q : ℕ) (bound newer : Shape) → history.quiz l a ≡ Some q → option_map shape (history.question l a k) ≡ Some bound → SkipsByJob c job q k newer → SkipAgrees c l job a k bound newer
skip-agrees c l job a k q bound newer quiz own skips = record {
  quiz = q;
  of_quiz = quiz;
  position = skips.job.position;
  its_job = record { job = skips.job; job_is = skips.job_is; quiz = skips.quiz; position_is = refl };
  bound_is = own;
  newer_is = skips.newer_is;
}

skip-needs : (c l : List Record) (job : ℕ) (a : AttemptId) (k q : ℕ) (bound newer : Shape) → history.quiz l a ≡ Some q → SkipAgrees c l job a k bound newer → SkipsByJob c job q k newer
skip-needs c l job a k q bound newer quiz agrees =
    let one : agrees.quiz ≡ q = (let told = agrees.of_quiz in cc) in
    subst (λ (x : ℕ). SkipsByJob c job x k newer) one (record { job = agrees.its_job.job; job_is = agrees.its_job.job_is; quiz = agrees.its_job.quiz; newer_is = agrees.newer_is })

-- what is decided is a verdict
pub by-decision : (c : List Record) (fits : ℕ → ℕ → Type 0) (P : Type 0) (b : Bool) → Decides b P → IsVerdict c fits P (decided b)
by-decision c fits P true d = d.0 refl
by-decision c fits P false d = λ p. let no = d.1 p in absurd cc

pub skip-verdict : (c l : List Record) (job : ℕ) (a : AttemptId) (k q : ℕ) (bound newer : Shape) (b : Bool) → history.quiz l a ≡ Some q → option_map shape (history.question l a k) ≡ Some bound → Decides b (SkipsByJob c job q k newer)
    → IsVerdict c (λ n p. ⊥) (SkipAgrees c l job a k bound newer) (decided b)
skip-verdict c l job a k q bound newer b quiz own d = by-decision c (λ n p. ⊥) (SkipAgrees c l job a k bound newer) b (λ is. skip-agrees c l job a k q bound newer quiz own (d.0 is), λ agrees. d.1 (skip-needs c l job a k q bound newer quiz agrees))

-- ---- callers

pub with-caller : (c l : List Record) (r : Record) (v : Verdict) → (r.caller == 0) || is_some (at_place (catalog.users c) r.caller) ≡ true → IsVerdict c (λ n q. Fits (take n c) q r r.event) (EventAgrees c l r r.event) v → IsVerdictOf c l r v
with-caller c l r verdict.Agreed known is = record { caller = known; event = is }
with-caller c l r verdict.Denied known is = λ agrees. is agrees.event
with-caller c l r (verdict.Pending n q) known is = record { some = is.some; within = is.within; enough = λ fits. record { caller = known; event = is.enough fits }; needed = λ agrees. is.needed agrees.event }

-- a slot that may be left as it was has the shape of its question
pub skip-shape : (l : List Record) (r : Record) (job : ℕ) (a : AttemptId) (k : ℕ) (bound newer : Shape) → EventIsAllowed l r (event.Skipped job a k bound newer) → option_map shape (history.question l a k) ≡ Some bound
skip-shape l r job a k bound newer allowed = ap (option_map shape) allowed.old_is ∙ ap Some (sym allowed.bound_is)
