-- What a caller who is in an ask knows before each of its turns.
use mathlib.Core.List.{IsPrefix}
use Rattle.std.specs.Prelude.{◌≡◌, ℕ, ◌%◌, Bool, true, false, List, [], map, take, is_some, flat_map, Some, None, Option}
use Rattle.qz_grading.specs.declared.refusal.AttemptId.{AttemptId}
use Rattle.qz_school.specs.Agreement.{HasQuizReady}
use Rattle.qz_terms.specs.declared.ask.Ask.{Ask}
use Rattle.qz_terms.specs.declared.people.User.{User}
use Rattle.qz_terms.specs.declared.plan.Job.{Job}
use Rattle.qz_terms.specs.declared.plan.Plan.{Plan}
use Rattle.qz_terms.specs.declared.record.Record.{Record}
use Rattle.qz_terms.specs.declared.reply.Row.{Row}
use Rattle.qz_terms.specs.declared.request.Request.{Request}
use Rattle.qz_terms.specs.declared.request.Request.TheVariants as request
use Rattle.qz_terms.specs.Answer.{attempt_named}
use Rattle.qz_terms.specs.Catalog as catalog
use Rattle.qz_terms.specs.Cause.{forbidden, missing_in, missing_shard}
use Rattle.qz_terms.specs.History as history
use Rattle.qz_terms.specs.SchoolAnswer.{part_at, part_of, plan_for}
use Rattle.qz_terms.specs.Serial.{is_report}
use Rattle.qz_schedule.specs.Worlds.{ForJob, ForNames, ForPlan, ForQuiz, ForRequest, ForRows, ForUser, Stage, Visit, policy_of, row_in, visitor}

-- ---- who asks

-- the catalogue that was seen knows who asks, and that this may be asked
pub record KnowsUser (c : List Record) (user : User) (ask : Ask) : Type 0 where
  pub found : catalog.user_of c ask.caller ≡ Some user
  pub may : forbidden user ask.request ≡ None

-- ---- what the turns gave

-- the quiz of an attempt that is there
pub record ReadsQuiz (n : ℕ) (parts : List (List Record)) (o : Option ℕ) (a : AttemptId) : Type 0 where
  pub quiz : ℕ
  pub quiz_is : o ≡ Some quiz
  pub there : history.quiz (part_at parts (a.user % n)) a ≡ Some quiz

-- a request that a shard answers under a plan
abbrev pub is_planned : Request → Bool
is_planned (request.Start quiz) = true
is_planned (request.Grade quiz owner) = true
is_planned x = is_some (attempt_named x)

-- The plan is that of the catalogue that was seen, whatever the shard's list has grown to when it is read, and the quiz is ready.
pub record ReadsPlan (n : ℕ) (c : List Record) (parts : List (List Record)) (user : User) (plan : Option Plan) (x : Request) : Type 0 where
  pub there : missing_in c x ≡ None
  pub plan_is : (h : List Record) → IsPrefix (part_at parts (part_of n user x)) h → plan_for c h user x ≡ plan
  pub ready : (h : List Record) → IsPrefix (part_at parts (part_of n user x)) h → HasQuizReady c h x

pub record ReadsJob (n : ℕ) (c : List Record) (o : Option Job) (x : Request) (number : ℕ) : Type 0 where
  pub there : missing_in c x ≡ None
  pub inside : missing_shard n x ≡ None
  pub job_is : o ≡ catalog.job c number

-- ---- before each turn

pub record MayFind (c : List Record) (user : User) (ask : Ask) (a : AttemptId) : Type 0 where
  pub knows : KnowsUser c user ask
  pub named : attempt_named ask.request ≡ Some a

pub record MayPlan (n : ℕ) (c : List Record) (parts : List (List Record)) (user : User) (o : Option ℕ) (ask : Ask) : Type 0 where
  pub knows : KnowsUser c user ask
  pub planned : is_planned ask.request ≡ true
  pub quiz : (a : AttemptId) → attempt_named ask.request ≡ Some a → ReadsQuiz n parts o a

pub record MayWork (c : List Record) (user : User) (ask : Ask) (number : ℕ) : Type 0 where
  pub knows : KnowsUser c user ask
  pub shard : ℕ
  pub request_is : ask.request ≡ request.Work number shard

pub record MayReport (c : List Record) (user : User) (rows : List Row) (ask : Ask) (quiz : ℕ) : Type 0 where
  pub knows : KnowsUser c user ask
  pub request_is : ask.request ≡ request.Report quiz
  pub no_rows : rows ≡ []

-- the rows of a shard's list
abbrev pub rows_of : List (List ℕ) → Option Plan → ℕ → List Record → List Row
rows_of names plan quiz h = map (row_in h names quiz (policy_of plan)) (history.takers h quiz)

-- those of the shards before this one were read
pub record HasRead (c : List Record) (parts : List (List Record)) (user : User) (plan : Option Plan) (names : List (List ℕ)) (rows : List Row) (ask : Ask) (quiz k : ℕ) : Type 0 where
  pub knows : KnowsUser c user ask
  pub request_is : ask.request ≡ request.Report quiz
  pub there : missing_in c ask.request ≡ None
  pub plan_is : plan ≡ catalog.plan c quiz 0
  pub names_are : names ≡ map (λ (u : User). u.name) (catalog.users c)
  pub rows_are : rows ≡ flat_map (rows_of names plan quiz) (take k parts)

pub record MayAnswer (n : ℕ) (c : List Record) (parts : List (List Record)) (user : User) (plan : Option Plan) (o : Option Job) (ask : Ask) : Type 0 where
  pub knows : KnowsUser c user ask
  pub other : is_report ask.request ≡ false
  pub plans : is_planned ask.request ≡ true → ReadsPlan n c parts user plan ask.request
  pub jobs : (number shard : ℕ) → ask.request ≡ request.Work number shard → ReadsJob n c o ask.request number

abbrev pub Ready : ℕ → Visit → Ask → Stage → Type 0
Ready n v ask ForUser = v.rows ≡ []
Ready n v ask (ForQuiz a) = MayFind v.records (visitor v ask) ask a
Ready n v ask ForPlan = MayPlan n v.records v.parts (visitor v ask) v.quiz ask
Ready n v ask (ForJob number) = MayWork v.records (visitor v ask) ask number
Ready n v ask (ForNames quiz) = MayReport v.records (visitor v ask) v.rows ask quiz
Ready n v ask (ForRows quiz k) = HasRead v.records v.parts (visitor v ask) v.plan v.names v.rows ask quiz k
Ready n v ask ForRequest = MayAnswer n v.records v.parts (visitor v ask) v.plan v.job ask
