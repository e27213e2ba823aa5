-- Which lists of records a shard and the catalogue may hold, and which records of a shard agree with a catalogue.
use Rattle.std.specs.List.{list_all, list_any}
use Rattle.std.specs.Prelude.{◌≡◌, ℕ, ◌+◌, ◌%◌, Bool, true, false, not, ◌&&◌, ◌||◌, List, [], ◌∷◌, ◌++◌, map, length, take, is_some, is_none, nat_lt, nat_le, ◌==◌, slice_get, Some, None, filter, Option, unwrap_or, option_map, option_to_list, option_and_then}
use Rattle.qz_grading.specs.declared.outcome.Behaviour.{Behaviour}
use Rattle.qz_grading.specs.declared.question.Question.{Question}
use Rattle.qz_grading.specs.declared.question.Shape.{Shape}
use Rattle.qz_grading.specs.declared.refusal.AttemptId.{AttemptId}
use Rattle.qz_grading.specs.Grading.{at_place, shape}
use Rattle.qz_grading.specs.Shapes.{same_shape}
use Rattle.qz_terms.specs.declared.ask.Ask.{Ask}
use Rattle.qz_terms.specs.declared.people.Caller.TheVariants as caller
use Rattle.qz_terms.specs.declared.people.User.{User}
use Rattle.qz_terms.specs.declared.plan.Bound.{Bound}
use Rattle.qz_terms.specs.declared.plan.Job.{Job}
use Rattle.qz_terms.specs.declared.plan.Plan.{Plan}
use Rattle.qz_terms.specs.declared.record.Event.{Event}
use Rattle.qz_terms.specs.declared.record.Event.TheVariants as event
use Rattle.qz_terms.specs.declared.record.Learned.{Learned}
use Rattle.qz_terms.specs.declared.record.Record.{Record}
use Rattle.qz_terms.specs.declared.record.Terms.{Terms}
use Rattle.qz_terms.specs.declared.request.Request.{Request}
use Rattle.qz_terms.specs.declared.request.Request.TheVariants as request
use Rattle.qz_terms.specs.Answer.{attempt_named, bind, put_here}
use Rattle.qz_terms.specs.CatalogAnswer.{keeps_record, moment_in}
use Rattle.qz_terms.specs.Catalog as catalog
use Rattle.qz_terms.specs.Cause.{Granted, has_key, is_keyed, verdict_here, verdict_in}
use Rattle.qz_terms.specs.History as history
use Rattle.qz_terms.specs.Lists.{first_of, once}

-- ---- one more record of a shard

abbrev pub is_here : ℕ → ℕ → ℕ → Bool
is_here index count u = u % count == index

abbrev pub owner_is : ℕ → ℕ → Record → AttemptId → Bool
owner_is index count r a = (r.owner == a.user) && is_here index count a.user

abbrev pub owner_by : ℕ → ℕ → Record → Event → Bool
owner_by index count r (event.Founded shards token) = false
owner_by index count r (event.Asked x) = false
owner_by index count r (event.Started quiz nth behaviour bounds learned) = is_here index count r.owner
owner_by index count r (event.Acted a k x) = owner_is index count r a
owner_by index count r (event.Noted a k x) = owner_is index count r a
owner_by index count r (event.Ended a how) = owner_is index count r a
owner_by index count r (event.Rebound job a k bound learned) = owner_is index count r a
owner_by index count r (event.Skipped job a k bound newer) = owner_is index count r a
owner_by index count r (event.JobDone job quiz position) = r.owner == 0

-- the owner is the user of the attempt, who belongs to this shard of so many; a job that is done is nobody's
abbrev pub has_its_owner : ℕ → ℕ → Record → Bool
has_its_owner index count r = owner_by index count r r.event

abbrev pub new_key_by : List Record → ℕ → Option (List ℕ) → Bool
new_key_by l caller None = true
new_key_by l caller (Some key) = not (list_any (has_key caller key) l)

-- no record before has its caller and key
abbrev pub has_new_key : List Record → Record → Bool
has_new_key l r = new_key_by l r.caller r.key

-- a record of a job has no key and no terms
abbrev pub is_bare : Record → Bool
is_bare r = is_none r.key && is_none r.terms

abbrev pub version_of_bound : Bound → ℕ × ℕ
version_of_bound b = (b.entry, b.version)

abbrev pub version_of_learned : Learned → ℕ × ℕ
version_of_learned l = (l.entry, l.version)

abbrev pub same_pair : ℕ × ℕ → ℕ × ℕ → Bool
same_pair a b = (a.0 == b.0) && (a.1 == b.1)

-- it learns the versions that it binds and that were new to the shard, each once, in order of slot
abbrev pub LearnsNew : List Record → List Bound → List Learned → Type 0
LearnsNew l bounds learned = map version_of_learned learned ≡ filter (λ (v : ℕ × ℕ). is_none (history.version l v.0 v.1)) (once same_pair (map version_of_bound bounds))

-- the plan is of the quiz that the request names, or of that of the attempt that it names
abbrev pub is_plan_for : List Record → Plan → Request → Bool
is_plan_for l plan (request.Start quiz) = plan.quiz == quiz
is_plan_for l plan (request.Grade quiz owner) = plan.quiz == quiz
is_plan_for l plan x = unwrap_or (option_map (λ q. plan.quiz == q) (option_and_then (history.quiz l) (attempt_named x))) true

-- A request put it, with a key exactly where it has one: for some user and plan that its caller and terms tell, of a quiz that is ready.
pub record IsPut (l : List Record) (r : Record) : Type 0 where
  pub user : User
  pub plan : Plan
  pub ask : Ask
  pub keyed : is_keyed ask ≡ true
  pub by_caller : user.number ≡ r.caller
  pub under_terms : r.terms ≡ Some (record { at = plan.at; settings = plan.settings })
  pub of_quiz : is_plan_for l plan ask.request ≡ true
  pub when_ready : plan.ready ≡ true
  pub granted : verdict_here l r.moment user plan ask ≡ Granted
  pub put : put_here l r.moment user plan ask ≡ Some r

abbrev pub at_least_floor : List Record → ℕ → Option Terms → Bool
at_least_floor l q None = false
at_least_floor l q (Some t) = nat_le (history.floor l q) t.at

abbrev pub bound_at : Option Terms → Bound → Bool
bound_at None b = false
bound_at (Some t) b = b.at == t.at

pub record StartIsAllowed (l : List Record) (r : Record) (q : ℕ) (bounds : List Bound) (learned : List Learned) : Type 0 where
  pub is_put : IsPut l r
  pub learns : LearnsNew l bounds learned
  pub above_floor : at_least_floor l q r.terms ≡ true
  pub at_terms : list_all (bound_at r.terms) bounds ≡ true

-- It names the first target of the job, and binds a version of the same shape.
pub record RebindIsAllowed (l : List Record) (r : Record) (job : ℕ) (a : AttemptId) (k : ℕ) (b : Bound) (learned : List Learned) : Type 0 where
  pub bare : is_bare r ≡ true
  pub undone : history.is_done l job ≡ false
  pub quiz : ℕ
  pub of_quiz : history.quiz l a ≡ Some quiz
  pub first : first_of (history.targets l job quiz b.at) ≡ Some (a, k)
  pub learns : LearnsNew l (b ∷ []) learned
  pub old : Question
  pub newer : Question
  pub old_is : history.question l a k ≡ Some old
  pub newer_is : history.version (l ++ r ∷ []) b.entry b.version ≡ Some newer
  pub same : same_shape (shape old) (shape newer) ≡ true

-- The slot wasn't skipped by the job, and has the one shape and not the other.
pub record SkipIsAllowed (l : List Record) (r : Record) (job : ℕ) (a : AttemptId) (k : ℕ) (bound newer : Shape) : Type 0 where
  pub bare : is_bare r ≡ true
  pub undone : history.is_done l job ≡ false
  pub unskipped : history.is_skipped l job a k ≡ false
  pub old : Question
  pub old_is : history.question l a k ≡ Some old
  pub bound_is : bound ≡ shape old
  pub other : same_shape bound newer ≡ false

-- No target is left.
pub record DoneIsAllowed (l : List Record) (r : Record) (job q position : ℕ) : Type 0 where
  pub bare : is_bare r ≡ true
  pub undone : history.is_done l job ≡ false
  pub none_left : history.targets l job q position ≡ []

abbrev pub EventIsAllowed : List Record → Record → Event → Type 0
EventIsAllowed l r (event.Founded shards token) = ⊥
EventIsAllowed l r (event.Asked x) = ⊥
EventIsAllowed l r (event.Started quiz nth behaviour bounds learned) = StartIsAllowed l r quiz bounds learned
EventIsAllowed l r (event.Acted a k x) = IsPut l r
EventIsAllowed l r (event.Noted a k x) = IsPut l r
EventIsAllowed l r (event.Ended a how) = IsPut l r
EventIsAllowed l r (event.Rebound job a k bound learned) = RebindIsAllowed l r job a k bound learned
EventIsAllowed l r (event.Skipped job a k bound newer) = SkipIsAllowed l r job a k bound newer
EventIsAllowed l r (event.JobDone job quiz position) = DoneIsAllowed l r job quiz position

-- a record that may stand behind these in the shard with this index, of so many
pub record IsAllowed (index count : ℕ) (l : List Record) (r : Record) : Type 0 where
  pub owner : has_its_owner index count r ≡ true
  pub moment : history.time l r.owner r.moment ≡ r.moment
  pub key : has_new_key l r ≡ true
  pub event : EventIsAllowed l r r.event

-- each record is allowed behind those before it
pub record IsLegal (index count : ℕ) (h : List Record) : Type 0 where
  pub each : (l : List Record) (r : Record) (rest : List Record) → h ≡ l ++ r ∷ rest → IsAllowed index count l r

-- ---- one more record of the catalogue

abbrev pub ask_of : User → Record → Request → Ask
ask_of user r x = record { caller = caller.Token user.token; key = r.key; request = x }

-- A user asked it with a key, and it had no cause to be refused.
pub record AskIsAllowed (l : List Record) (r : Record) (x : Request) : Type 0 where
  pub user : User
  pub by_caller : at_place (catalog.users l) r.caller ≡ Some user
  pub kept : keeps_record x ≡ true
  pub keyed : is_some r.key ≡ true
  pub granted : verdict_in l user r (ask_of user r x) ≡ Granted

abbrev pub CatalogEventIsAllowed : List Record → Record → Event → Type 0
CatalogEventIsAllowed l r (event.Founded shards token) = l ≡ []
CatalogEventIsAllowed l r (event.Asked x) = AskIsAllowed l r x
CatalogEventIsAllowed l r e = ⊥

pub record IsAllowedInCatalog (l : List Record) (r : Record) : Type 0 where
  pub owner : r.owner ≡ 0
  pub terms : is_none r.terms ≡ true
  pub moment : moment_in l r.moment ≡ r.moment
  pub event : CatalogEventIsAllowed l r r.event

pub record IsLegalCatalog (c : List Record) : Type 0 where
  pub each : (l : List Record) (r : Record) (rest : List Record) → c ≡ l ++ r ∷ rest → IsAllowedInCatalog l r

-- ---- agreement of a shard's record, which stands behind these, with a catalogue

-- the questions are those of the catalogue's first records
abbrev pub LearnsFrom : List Record → List Learned → Type 0
LearnsFrom c learned = map (λ (l : Learned). catalog.version c l.entry l.version) learned ≡ map (λ (l : Learned). Some l.question) learned

-- Its terms are those of the quiz and the user over the first so many records, in which the quiz is ready.
pub record TermsAgree (c : List Record) (r : Record) (q u : ℕ) : Type 0 where
  pub terms : Terms
  pub terms_are : r.terms ≡ Some terms
  pub within : nat_le terms.at (length c) ≡ true
  pub plan : Plan
  pub plan_is : catalog.plan (take terms.at c) q u ≡ Some plan
  pub settings : terms.settings ≡ plan.settings
  pub ready : plan.ready ≡ true

pub record StartAgrees (c : List Record) (r : Record) (q : ℕ) (b : Behaviour) (bounds : List Bound) (learned : List Learned) : Type 0 where
  pub its_terms : TermsAgree c r q r.owner
  pub owner : is_some (at_place (catalog.users (take its_terms.terms.at c)) r.owner) ≡ true
  pub behaviour : b ≡ its_terms.plan.behaviour
  pub bounds_are : bounds ≡ map (bind its_terms.terms.at) its_terms.plan.slots
  pub learns : LearnsFrom (take its_terms.terms.at c) learned

pub record StepAgrees (c l : List Record) (r : Record) (a : AttemptId) : Type 0 where
  pub quiz : ℕ
  pub of_quiz : history.quiz l a ≡ Some quiz
  pub its_terms : TermsAgree c r quiz a.user

-- a job of the catalogue with this quiz and position
pub record JobAgrees (c : List Record) (number q position : ℕ) : Type 0 where
  pub job : Job
  pub job_is : catalog.job c number ≡ Some job
  pub quiz : job.plan.quiz ≡ q
  pub position_is : job.position ≡ position

pub record RebindAgrees (c l : List Record) (number : ℕ) (a : AttemptId) (k : ℕ) (b : Bound) (learned : List Learned) : Type 0 where
  pub quiz : ℕ
  pub of_quiz : history.quiz l a ≡ Some quiz
  pub its_job : JobAgrees c number quiz b.at
  pub bound_is : option_map (bind b.at) (at_place its_job.job.plan.slots k) ≡ Some b
  pub learns : LearnsFrom (take b.at c) learned

pub record SkipAgrees (c l : List Record) (number : ℕ) (a : AttemptId) (k : ℕ) (bound newer : Shape) : Type 0 where
  pub quiz : ℕ
  pub of_quiz : history.quiz l a ≡ Some quiz
  pub position : ℕ
  pub its_job : JobAgrees c number quiz position
  pub bound_is : option_map shape (history.question l a k) ≡ Some bound
  pub newer_is : option_map shape (at_place its_job.job.plan.questions k) ≡ Some newer

abbrev pub EventAgrees : List Record → List Record → Record → Event → Type 0
EventAgrees c l r (event.Founded shards token) = ⊥
EventAgrees c l r (event.Asked x) = ⊥
EventAgrees c l r (event.Started quiz nth behaviour bounds learned) = StartAgrees c r quiz behaviour bounds learned
EventAgrees c l r (event.Acted a k x) = StepAgrees c l r a
EventAgrees c l r (event.Noted a k x) = StepAgrees c l r a
EventAgrees c l r (event.Ended a how) = StepAgrees c l r a
EventAgrees c l r (event.Rebound job a k bound learned) = RebindAgrees c l job a k bound learned
EventAgrees c l r (event.Skipped job a k bound newer) = SkipAgrees c l job a k bound newer
EventAgrees c l r (event.JobDone job quiz position) = JobAgrees c job quiz position

-- the caller is a worker or a user of the catalogue, and all else is as the catalogue's first records give it
pub record Agrees (c l : List Record) (r : Record) : Type 0 where
  pub caller : (r.caller == 0) || is_some (at_place (catalog.users c) r.caller) ≡ true
  pub event : EventAgrees c l r r.event

-- each record of a shard agrees
pub record AllAgree (c h : List Record) : Type 0 where
  pub each : (l : List Record) (r : Record) (rest : List Record) → h ≡ l ++ r ∷ rest → Agrees c l r

-- ---- a school

-- The catalogue is legal and was founded with as many shards as there are lists. Each list is legal for its shard, and each of its
-- records agrees with the catalogue.
pub record IsSchool (c : List Record) (parts : List (List Record)) : Type 0 where
  pub records : IsLegalCatalog c
  pub founded : catalog.shards c ≡ Some (length parts)
  pub legal : (k : ℕ) (h : List Record) → slice_get parts k ≡ Some h → IsLegal k (length parts) h
  pub agree : (k : ℕ) (h : List Record) → slice_get parts k ≡ Some h → AllAgree c h

-- ---- the positions of the catalogue that a record names

-- of what it binds, and of a job that is done
abbrev pub positions_by : Event → List ℕ
positions_by (event.Started quiz nth behaviour bounds learned) = map (λ (b : Bound). b.at) bounds
positions_by (event.Rebound job a k b learned) = b.at ∷ []
positions_by (event.JobDone job quiz position) = position ∷ []
positions_by e = []

-- that of its terms comes first
abbrev pub positions : Record → List ℕ
positions r = option_to_list (option_map (λ (t : Terms). t.at) r.terms) ++ positions_by r.event

-- the first that is past the catalogue's end
abbrev pub past_end : List Record → Record → Option ℕ
past_end c r = first_of (filter (nat_lt (length c)) (positions r))

-- The first record of a shard's list that doesn't agree names a position past the catalogue's end: the catalogue is behind.
pub record IsBehind (c h : List Record) (position : ℕ) : Type 0 where
  pub before : List Record
  pub own : Record
  pub rest : List Record
  pub list : h ≡ before ++ own ∷ rest
  pub agree : AllAgree c before
  pub past : past_end c own ≡ Some position

-- It names none, and disagrees: it was altered, or the catalogue was. It stands at this place, counted from 1.
pub record IsAltered (c h : List Record) (place : ℕ) : Type 0 where
  pub before : List Record
  pub own : Record
  pub rest : List Record
  pub list : h ≡ before ++ own ∷ rest
  pub agree : AllAgree c before
  pub within : past_end c own ≡ None
  pub disagrees : Agrees c before own → ⊥
  pub at : place ≡ length before + 1
