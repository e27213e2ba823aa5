-- What a shard is seen as, what is asked of it, and how it answers.
use Rattle.std.specs.Prelude.{◌≡◌, ℕ, ◌-◌, ◌⊎◌, Bool, true, false, List, [], ◌∷◌, ◌++◌, length, if◌then◌else◌, nat_lt, IfSome, is_some, Some, None, Option}
use Rattle.qz_grading.specs.declared.question.Question.{Question}
use Rattle.qz_grading.specs.declared.refusal.AttemptId.{AttemptId}
use Rattle.qz_grading.specs.declared.refusal.Refusal.TheVariants as refusal
use Rattle.qz_grading.specs.Grading.{at_place}
use Rattle.qz_terms.specs.declared.ask.Ask.{Ask}
use Rattle.qz_terms.specs.declared.people.User.{User}
use Rattle.qz_terms.specs.declared.plan.Job.{Job}
use Rattle.qz_terms.specs.declared.plan.Plan.{Plan}
use Rattle.qz_terms.specs.declared.plan.Planned.{Planned}
use Rattle.qz_terms.specs.declared.record.Record.{Record}
use Rattle.qz_terms.specs.declared.reply.Reply.{Reply}
use Rattle.qz_terms.specs.declared.reply.Reply.TheVariants as reply
use Rattle.qz_terms.specs.declared.request.Request.{Request}
use Rattle.qz_terms.specs.declared.request.Request.TheVariants as request
use Rattle.qz_terms.specs.Answer.{answer_here, first_target, list_after, said, target_event, work_after, work_answer}
use Rattle.qz_terms.specs.Cause.{forbidden, is_keyed, is_student, missing_here, spells}
use Rattle.qz_terms.specs.History as history
use Rattle.qz_terms.specs.Kept.{IsKeptPlan, KeepsAsked, is_moment}
use Rattle.qz_terms.specs.Legal.{IsLegal, is_here, is_plan_for}
use Rattle.qz_isolation.specs.Isolation.{AreAlike}

-- a shard with this index, of so many, and its records
pub record Holding : Type 0 where
  pub index : ℕ
  pub count : ℕ
  pub records : List Record

-- ---- what is asked

-- a request that may put a record
abbrev pub is_change : Request → Bool
is_change (request.Start quiz) = true
is_change (request.Save attempt slot certainty response) = true
is_change (request.Submit attempt slot certainty response) = true
is_change (request.Again attempt slot) = true
is_change (request.Finish attempt) = true
is_change (request.Mark attempt slot mark) = true
is_change (request.Settle attempt) = true
is_change x = false

-- a request that only looks
abbrev pub is_look : Request → Bool
is_look (request.View attempt slot) = true
is_look (request.Total attempt) = true
is_look (request.Page attempt) = true
is_look (request.Grade quiz owner) = true
is_look x = false

-- It has a key where it has to, the plan is of the quiz that is meant, and all is in range.
pub record IsAsked (h : List Record) (plan : Plan) (ask : Ask) (moment : ℕ) : Type 0 where
  pub keyed : is_keyed ask ≡ true
  pub of_quiz : is_plan_for h plan ask.request ≡ true
  pub kept_plan : IsKeptPlan plan
  pub kept_request : KeepsAsked ask.request
  pub kept_moment : is_moment moment ≡ true

-- a start comes to its user's shard, with a question for each slot
abbrev pub StartsHere : Holding → User → Plan → Request → Type 0
StartsHere s user plan (request.Start quiz) = (is_here s.index s.count user.number ≡ true) × (length plan.questions ≡ length plan.slots)
StartsHere s user plan x = Unit {0}

-- the job's plan has the slot of its first target, and its question, if a target is left
abbrev pub HasSlot : List Record → Job → Option (AttemptId × ℕ) → Type 0
HasSlot h job first = IfSome first (λ t. is_some (target_event h job t) ≡ true)

-- a worker's job: its plan is kept, and a version in it that the shard has learned has there the question learned
pub record IsWorkable (h : List Record) (job : Job) (moment : ℕ) : Type 0 where
  pub kept_plan : IsKeptPlan job.plan
  pub known : (k : ℕ) (s : Planned) (q x : Question) → at_place job.plan.slots k ≡ Some s → at_place job.plan.questions k ≡ Some q → history.version h s.entry s.version ≡ Some x → x ≡ q
  pub has_slot : HasSlot h job (first_target h job)
  pub kept_moment : is_moment moment ≡ true

-- ---- how it answers

-- where a start's plan is older than a job that is done, the position of that job
abbrev pub older : List Record → Plan → Request → Option ℕ
older h plan (request.Start quiz) = if nat_lt plan.at (history.floor h plan.quiz) then Some (history.floor h plan.quiz) else None
older h plan x = None

-- the reply is the answer and the list is what it leaves, or memory was wanting and the list is as it was
abbrev pub Answers : List Record → ℕ → User → Plan → Ask → Reply → List Record → Type 0
Answers h now user plan ask told g =
    ((told ≡ answer_here h now user plan ask) × (g ≡ list_after h now user plan ask))
    ⊎ ((told ≡ reply.Refused refusal.Memory) × (g ≡ h))

-- the same of a worker's request
abbrev pub Works : List Record → ℕ → ℕ → Job → Reply → List Record → Type 0
Works h now caller job told g =
    ((told ≡ work_answer h now caller job) × (g ≡ work_after h now caller job))
    ⊎ ((told ≡ reply.Refused refusal.Memory) × (g ≡ h))

-- ---- what a student's reply depends on

-- Whatever the records of others are: of a student the reply is the answer over each list too that is alike for this student, or
-- memory was wanting.
pub record IsAlone (s : Holding) (now : ℕ) (user : User) (plan : Plan) (ask : Ask) (told : Reply) : Type 0 where
  pub alone : (g : List Record) → is_student user ≡ true → AreAlike s.index s.count user.number s.records g
      → (told ≡ answer_here g now user plan ask) ⊎ (told ≡ reply.Refused refusal.Memory)

-- ---- a request that is asked again

-- A record of this caller with this key, which spells this request, is answered again by what was said of it, whatever came
-- since, and nothing is added.
pub record IsAnsweredAgain (index count : ℕ) : Type 0 where
  pub again : (l rest : List Record) (r : Record) (key : List ℕ) (now : ℕ) (user : User) (plan : Plan) (ask : Ask)
      → IsLegal index count (l ++ r ∷ rest) → r.caller ≡ user.number → r.key ≡ Some key → ask.key ≡ Some key → spells ask.request r ≡ true
      → forbidden user ask.request ≡ None → missing_here (l ++ r ∷ rest) user ask.request ≡ None
      → (answer_here (l ++ r ∷ rest) now user plan ask ≡ said (l ++ r ∷ []) r) × (list_after (l ++ r ∷ rest) now user plan ask ≡ l ++ r ∷ rest)
