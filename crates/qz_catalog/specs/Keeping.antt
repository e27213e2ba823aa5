-- A catalogue whose list a keeper keeps: what it is seen as, and what its calls say over a list.
use Rattle.std.specs.Prelude.{◌≡◌, ℕ, Bool, true, List, ◌∷◌, [], length, Some, None, Option, option_map, Result, MatchResult}
use Rattle.qz_decimal.specs.Numbers.{IsMaxSum, IsQuizGrade}
use Rattle.qz_grading.specs.declared.refusal.Refusal.{Refusal}
use Rattle.qz_grading.specs.declared.refusal.Refusal.TheVariants as refusal
use Rattle.qz_grading.specs.declared.refusal.Thing.TheVariants as thing
use Rattle.qz_grading.specs.Behaviours.{first_some}
use Rattle.qz_terms.specs.declared.ask.Ask.{Ask}
use Rattle.qz_terms.specs.declared.grades.Policy.{Policy}
use Rattle.qz_terms.specs.declared.people.User.{User}
use Rattle.qz_terms.specs.declared.plan.Job.{Job}
use Rattle.qz_terms.specs.declared.plan.Plan.{Plan}
use Rattle.qz_terms.specs.declared.record.Record.{Record}
use Rattle.qz_terms.specs.declared.reply.Reply.{Reply}
use Rattle.qz_terms.specs.Catalog as catalog
use Rattle.qz_terms.specs.CatalogAnswer.{catalog_after, catalog_answer, catalog_verdict, record_in}
use Rattle.qz_terms.specs.Cause.{Granted, missing_quiz, missing_user}
use Rattle.qz_terms.specs.Kept.{IsKept, IsKeptPlan}
use Rattle.qz_terms.specs.Legal.{IsAllowedInCatalog}
use Rattle.qz_terms.specs.Serial.{Held}
use Rattle.qz_record.specs.declared.list_fault.ListFault.{ListFault}
use Rattle.qz_catalog.specs.Holdings.{keeps_described, lean}
use Rattle.qz_catalog.specs.Loads.{IsListFault, IsLoaded}

-- its records, of which one may be in doubt, and their keeper
pub record Keeping (K : Type 0) : Type 0 where
  pub held : Held
  pub keeper : K

-- it may stand behind these records
pub record MayFollow (c : List Record) (r : Record) : Type 0 where
  pub allowed : IsAllowedInCatalog c r
  pub kept : IsKept r
  pub described : keeps_described r ≡ true

-- where a request is granted, what records is ready for the record that it puts, which may stand next
pub record IsReadyToPut {R : Type 0} (ready : R → Record → Type 0) (recorder : R) (c : List Record) (now : ℕ) (user : User) (ask : Ask) : Type 0 where
  pub granted : catalog_verdict c now user ask ≡ Granted → MayFollow c (record_in c now user ask) → ready recorder (record_in c now user ask)

-- it is loaded: none is in doubt
pub record IsOpened {K : Type 0} (payloads : List (List ℕ)) (keeper : K) (s : Keeping K) : Type 0 where
  pub loaded : IsLoaded payloads s.held.list
  pub no_doubt : s.held.doubt ≡ None
  pub keeper_is : s.keeper ≡ keeper

-- why it isn't: there are no payloads, and so no catalogue, or its list isn't read
abbrev pub IsUnopened : List (List ℕ) → Option ListFault → Type 0
IsUnopened payloads None = payloads ≡ []
IsUnopened payloads (Some fault) = IsListFault payloads fault

-- ---- what is said over a list

-- the reply is the answer, and the list what it leaves
pub record IsTold (now : ℕ) (user : User) (ask : Ask) (c : List Record) (told : Reply) (g : List Record) : Type 0 where
  pub reply : told ≡ catalog_answer c now user ask
  pub list : g ≡ catalog_after c now user ask

-- the user of a token, if there is one
abbrev pub TellsUser : List ℕ → List Record → Result User Refusal → Type 0
TellsUser token c told = MatchResult told (λ user. catalog.user_of_token c token ≡ Some user) (λ r. (r ≡ refusal.UnknownToken) × (catalog.user_of_token c token ≡ None))

-- the plan of a quiz for a user
pub record IsPlan (c : List Record) (quiz user : ℕ) (whole : Bool) (p : Plan) : Type 0 where
  pub plan_is : option_map (lean whole) (catalog.plan c quiz user) ≡ Some p
  pub kept : IsKeptPlan p
  pub each : whole ≡ true → length p.questions ≡ length p.slots
  pub there : first_some (missing_quiz c quiz ∷ missing_user c user ∷ []) ≡ None

abbrev pub TellsPlan : ℕ → ℕ → Bool → List Record → Result Plan Refusal → Type 0
TellsPlan quiz user whole c told = MatchResult told (IsPlan c quiz user whole) (λ r. first_some (missing_quiz c quiz ∷ missing_user c user ∷ []) ≡ Some r)

-- how a quiz is graded
pub record IsPolicy (c : List Record) (quiz : ℕ) (p : Policy) : Type 0 where
  pub policy_is : p ≡ catalog.policy c quiz
  pub grade : IsQuizGrade p.grade
  pub sum : IsMaxSum p.sum
  pub there : missing_quiz c quiz ≡ None

abbrev pub TellsPolicy : ℕ → List Record → Result Policy Refusal → Type 0
TellsPolicy quiz c told = MatchResult told (IsPolicy c quiz) (λ r. missing_quiz c quiz ≡ Some r)

-- a job, and the plan of its quiz at its position
pub record IsJob (c : List Record) (number : ℕ) (j : Job) : Type 0 where
  pub job_is : catalog.job c number ≡ Some j
  pub kept : IsKeptPlan j.plan
  pub each : length j.plan.questions ≡ length j.plan.slots

abbrev pub TellsJob : ℕ → List Record → Result Job Refusal → Type 0
TellsJob number c told = MatchResult told (IsJob c number) (λ r. (r ≡ refusal.Unknown thing.Job) × (catalog.job c number ≡ None))
