-- The plans of requests, and how a shard answers under one.
use Rattle.std.specs.Prelude.{◌≡◌, ◌||◌, ℕ, Bool, true, false, List, Some, None}
use Rattle.qz_keeper.specs.Lists.{EachMayStand}
use Rattle.qz_terms.specs.declared.people.User.{User}
use Rattle.qz_terms.specs.declared.plan.Plan.{Plan}
use Rattle.qz_terms.specs.declared.record.Record.{Record}
use Rattle.qz_terms.specs.declared.request.Request.{Request}
use Rattle.qz_terms.specs.declared.request.Request.TheVariants as request
use Rattle.qz_terms.specs.SchoolAnswer.{first_refusal, plan_for}
use Rattle.qz_terms.specs.Kept.{IsKeptPlan}
use Rattle.qz_terms.specs.Legal.{is_plan_for}
use Rattle.qz_catalog.specs.Holdings.{lean}
use Rattle.qz_school.specs.Agreement.{is_start}
use Rattle.qz_shard.specs.Holdings.{Holding, StartsHere, is_change, is_look, older}
use Rattle.qz_shard.specs.Keeping as part

-- a request that a shard answers under a plan
abbrev pub asks_shard : Request → Bool
asks_shard x = is_change x || is_look x

-- it names a quiz, and this user's plan of it is wanted, with its questions or without them
pub data NamesQuiz (user : User) (x : Request) (quiz owner : ℕ) (whole : Bool) : Type 0 where
  starts : x ≡ request.Start quiz → owner ≡ user.number → whole ≡ true → NamesQuiz user x quiz owner whole
  grades : x ≡ request.Grade quiz owner → whole ≡ false → NamesQuiz user x quiz owner whole

-- This is the plan that the catalogue gives for a request that it doesn't refuse, without its questions but for a start.
pub record IsPlanned (c : List Record) (s : Holding) (user : User) (x : Request) (given : Plan) : Type 0 where
  pub whole : Plan
  pub free : first_refusal c user x ≡ None
  pub plan_is : plan_for c s.records user x ≡ Some whole
  pub given_is : given ≡ lean (is_start x) whole
  pub of_quiz : is_plan_for s.records given x ≡ true
  pub kept : IsKeptPlan given
  pub here : StartsHere s user given x
  pub newer : older s.records given x ≡ None

-- so it is over each list of a shard that may stand
abbrev pub ArePlanned : {K : Type 0} → List Record → part.Keeping K → User → Request → Plan → Type 0
ArePlanned c s user x given = EachMayStand (λ h. IsPlanned c (part.shard_over s h) user x given) s.held
