-- What stays true while a catalogue and the shards under it grow: what the catalogue tells, and that a shard's records agree with it.
use Rattle.std.specs.Prelude.{◌≡◌, ℕ, Bool, true, false, List, [], ◌∷◌, ◌++◌, is_some, Some}
use Rattle.qz_grading.specs.declared.refusal.AttemptId.{AttemptId}
use Rattle.qz_grading.specs.Grading.{at_place}
use Rattle.qz_terms.specs.declared.ask.Ask.{Ask}
use Rattle.qz_terms.specs.declared.people.User.{User}
use Rattle.qz_terms.specs.declared.plan.Plan.{Plan}
use Rattle.qz_terms.specs.declared.record.Record.{Record}
use Rattle.qz_terms.specs.declared.request.Request.{Request}
use Rattle.qz_terms.specs.declared.request.Request.TheVariants as request
use Rattle.qz_terms.specs.Answer.{answer_here, attempt_named, list_after, put_here}
use Rattle.qz_terms.specs.Catalog as catalog
use Rattle.qz_terms.specs.Cause.{Granted, verdict_here}
use Rattle.qz_terms.specs.History as history
use Rattle.qz_terms.specs.Legal.{AllAgree, IsLegalCatalog}
use Rattle.qz_terms.specs.SchoolAnswer.{plan_for}

-- ---- users

-- Users are numbered by their place, and in a legal catalogue no two have the same token.
pub record UsersHaveTokens : Type 0 where
  pub place : (c : List Record) (token : List ℕ) (u : User) → catalog.user_of_token c token ≡ Some u → at_place (catalog.users c) u.number ≡ Some u
  pub token : (c : List Record) (n : ℕ) (u : User) → IsLegalCatalog c → at_place (catalog.users c) n ≡ Some u → catalog.user_of_token c u.token ≡ Some u

-- ---- agreement

-- The records of a shard that agree with a catalogue agree with a longer one. What a request puts under the plan that the catalogue
-- gives agrees too.
pub record GoesOnAgreeing : Type 0 where
  pub empty : (c : List Record) → AllAgree c []
  pub longer : (c rest h : List Record) → AllAgree c h → AllAgree (c ++ rest) h
  pub put : (c h : List Record) (moment : ℕ) (user : User) (plan : Plan) (ask : Ask) (r : Record)
      → IsLegalCatalog c → AllAgree c h → catalog.user_of c ask.caller ≡ Some user → plan_for c h user ask.request ≡ Some plan
      → verdict_here h moment user plan ask ≡ Granted → put_here h moment user plan ask ≡ Some r → AllAgree c (h ++ r ∷ [])
  pub answered : (c h : List Record) (now : ℕ) (user : User) (plan : Plan) (ask : Ask)
      → IsLegalCatalog c → AllAgree c h → catalog.user_of c ask.caller ≡ Some user → plan_for c h user ask.request ≡ Some plan
      → AllAgree c (list_after h now user plan ask)

-- the quiz of the attempt that a request names, if it is there, is ready
pub record HasQuizReady (c h : List Record) (x : Request) : Type 0 where
  pub ready : (a : AttemptId) (q : ℕ) → attempt_named x ≡ Some a → history.quiz h a ≡ Some q → catalog.is_ready c q ≡ true

-- What a request puts under the plan that a catalogue gave agrees with each longer one with which the shard's records agree.
pub record AgreesUnderAnOlder : Type 0 where
  pub answered : (c rest h : List Record) (now : ℕ) (user : User) (plan : Plan) (ask : Ask)
      → IsLegalCatalog c → AllAgree (c ++ rest) h → HasQuizReady c h ask.request → catalog.user_of c ask.caller ≡ Some user → plan_for c h user ask.request ≡ Some plan
      → AllAgree (c ++ rest) (list_after h now user plan ask)
  -- an attempt that was there when its shard agreed with the catalogue has its quiz there
  pub ready : (c h more : List Record) (x : Request) → AllAgree c h → ((a : AttemptId) → attempt_named x ≡ Some a → is_some (history.quiz h a) ≡ true) → HasQuizReady c (h ++ more) x

-- An attempt of a shard that agrees has its quiz and its user in the catalogue.
pub record AttemptsAreKnown : Type 0 where
  pub quiz : (c h : List Record) (a : AttemptId) (q : ℕ) → AllAgree c h → history.quiz h a ≡ Some q → is_some (at_place (catalog.quizzes c) q) ≡ true
  pub user : (c h : List Record) (a : AttemptId) (q : ℕ) → AllAgree c h → history.quiz h a ≡ Some q → is_some (at_place (catalog.users c) a.user) ≡ true

-- ---- a plan without its questions

abbrev pub without_questions : Plan → Plan
without_questions plan = record plan { questions = [] }

abbrev pub is_start : Request → Bool
is_start (request.Start quiz) = true
is_start x = false

-- Every request but a start is answered alike under it.
pub record NeedsNoQuestions : Type 0 where
  pub verdict : (h : List Record) (moment : ℕ) (user : User) (plan : Plan) (ask : Ask) → is_start ask.request ≡ false → verdict_here h moment user (without_questions plan) ask ≡ verdict_here h moment user plan ask
  pub reply : (h : List Record) (now : ℕ) (user : User) (plan : Plan) (ask : Ask) → is_start ask.request ≡ false → answer_here h now user (without_questions plan) ask ≡ answer_here h now user plan ask
  pub list : (h : List Record) (now : ℕ) (user : User) (plan : Plan) (ask : Ask) → is_start ask.request ≡ false → list_after h now user (without_questions plan) ask ≡ list_after h now user plan ask
