-- What a record of a shard needs of the catalogue's first records, those up to the position that it names.
use Rattle.std.specs.Prelude.{◌≡◌, ℕ, ◌≤◌, Bool, true, false, List, length, map, take, is_some, option_map, Option, Some, IsSomeAnd}
use Rattle.qz_grading.specs.declared.outcome.Behaviour.{Behaviour}
use Rattle.qz_grading.specs.declared.question.Shape.{Shape}
use Rattle.qz_grading.specs.Grading.{at_place, shape}
use Rattle.qz_terms.specs.declared.plan.Bound.{Bound}
use Rattle.qz_terms.specs.declared.plan.Job.{Job}
use Rattle.qz_terms.specs.declared.plan.Plan.{Plan}
use Rattle.qz_terms.specs.declared.record.Event.{Event}
use Rattle.qz_terms.specs.declared.record.Event.TheVariants as event
use Rattle.qz_terms.specs.declared.record.Learned.{Learned}
use Rattle.qz_terms.specs.declared.record.Record.{Record}
use Rattle.qz_terms.specs.declared.record.Terms.{Terms}
use Rattle.qz_terms.specs.Answer.{bind}
use Rattle.qz_terms.specs.Catalog as catalog
use Rattle.qz_terms.specs.Legal.{Agrees, EventAgrees, LearnsFrom}
use Rattle.qz_catalog.specs.Readings.{ready_settings}
use Rattle.qz_agreement.specs.declared.look.Verdict.{Verdict}
use Rattle.qz_agreement.specs.declared.look.Verdict.TheVariants as verdict

-- what a start has is what a plan has that is ready
pub record IsUnder (plan : Plan) (t : Terms) (b : Behaviour) (bounds : List Bound) : Type 0 where
  pub ready : plan.ready ≡ true
  pub settings : t.settings ≡ plan.settings
  pub behaviour : b ≡ plan.behaviour
  pub bounds_are : bounds ≡ map (bind t.at) plan.slots

-- a start under these terms
pub record StartFits (p : List Record) (t : Terms) (q u : ℕ) (b : Behaviour) (bounds : List Bound) (learned : List Learned) : Type 0 where
  pub owner : is_some (at_place (catalog.users p) u) ≡ true
  pub plan : Plan
  pub plan_is : catalog.plan p q u ≡ Some plan
  pub under : IsUnder plan t b bounds
  pub learns : LearnsFrom p learned

-- a step or an end of an attempt of this quiz under these terms
abbrev pub StepFits : List Record → Option Terms → ℕ → ℕ → Type 0
StepFits p terms q u = IsSomeAnd terms (λ t. ready_settings p q u ≡ Some t.settings)

-- of an attempt of this quiz; of a newer version that is bound only the question is looked at
abbrev pub Fits : List Record → ℕ → Record → Event → Type 0
Fits p q r (event.Founded shards token) = ⊥
Fits p q r (event.Asked x) = ⊥
Fits p q r (event.Started quiz nth b bounds learned) = IsSomeAnd r.terms (λ t. StartFits p t quiz r.owner b bounds learned)
Fits p q r (event.Acted a k x) = StepFits p r.terms q a.user
Fits p q r (event.Noted a k x) = StepFits p r.terms q a.user
Fits p q r (event.Ended a how) = StepFits p r.terms q a.user
Fits p q r (event.Rebound job a k bound learned) = LearnsFrom p learned
Fits p q r (event.Skipped job a k bound newer) = ⊥
Fits p q r (event.JobDone job quiz position) = ⊥

-- a job binds a slot so
pub record HasBound (j : Job) (k : ℕ) (b : Bound) : Type 0 where
  pub position_is : j.position ≡ b.at
  pub bound_is : option_map (bind b.at) (at_place j.plan.slots k) ≡ Some b

-- a job of this quiz does
pub record BindsByJob (c : List Record) (number q k : ℕ) (b : Bound) : Type 0 where
  pub job : Job
  pub job_is : catalog.job c number ≡ Some job
  pub quiz : job.plan.quiz ≡ q
  pub has : HasBound job k b

-- a job of this quiz has a question of this shape at a slot
pub record SkipsByJob (c : List Record) (number q k : ℕ) (newer : Shape) : Type 0 where
  pub job : Job
  pub job_is : catalog.job c number ≡ Some job
  pub quiz : job.plan.quiz ≡ q
  pub newer_is : option_map shape (at_place job.plan.questions k) ≡ Some newer

-- it agrees exactly where it fits the first n records
pub record IsPending (c : List Record) (n : ℕ) (fits agrees : Type 0) : Type 0 where
  pub some : 1 ≤ n
  pub within : n ≤ length c
  pub enough : fits → agrees
  pub needed : agrees → fits

-- this is what is known of whether it agrees
abbrev pub IsVerdict : List Record → (ℕ → ℕ → Type 0) → Type 0 → Verdict → Type 0
IsVerdict c fits agrees verdict.Agreed = agrees
IsVerdict c fits agrees verdict.Denied = agrees → ⊥
IsVerdict c fits agrees (verdict.Pending n q) = IsPending c n (fits n q) agrees

-- the same of what a record behind these says
abbrev pub IsVerdictOn : List Record → List Record → Record → Event → Verdict → Type 0
IsVerdictOn c l r e v = IsVerdict c (λ n q. Fits (take n c) q r e) (EventAgrees c l r e) v

-- the same of the record whole
abbrev pub IsVerdictOf : List Record → List Record → Record → Verdict → Type 0
IsVerdictOf c l r v = IsVerdict c (λ n q. Fits (take n c) q r r.event) (Agrees c l r) v

-- what the terms of a record name is asked of some of the catalogue's records, or there is no such position
abbrev pub IsUnderTerms : List Record → Record → ℕ → Verdict → Type 0
IsUnderTerms c r q verdict.Agreed = ⊥
IsUnderTerms c r q verdict.Denied = (t : Terms) → r.terms ≡ Some t → 1 ≤ t.at → t.at ≤ length c → ⊥
IsUnderTerms c r q (verdict.Pending n p) = (p ≡ q) × (1 ≤ n) × (n ≤ length c) × (option_map (λ (t : Terms). t.at) r.terms ≡ Some n)

abbrev pub decided : Bool → Verdict
decided true = verdict.Agreed
decided false = verdict.Denied
