-- A shard whose list a keeper keeps: what it is seen as, and what its calls say over a list.
use Rattle.std.specs.Prelude.{◌≡◌, ℕ, ◌+◌, ◌≤◌, List, [], length, map, Ok, Err, Some, None, Option, Result, MatchResult, unwrap_or, ℤ}
use Rattle.qz_grading.specs.declared.refusal.AttemptId.{AttemptId}
use Rattle.qz_grading.specs.declared.refusal.Refusal.{Refusal}
use Rattle.qz_grading.specs.declared.refusal.Refusal.TheVariants as refusal
use Rattle.qz_grading.specs.declared.refusal.Thing.TheVariants as thing
use Rattle.qz_keeper.specs.Lists.{OneCall, Looks}
use Rattle.qz_terms.specs.declared.ask.Ask.{Ask}
use Rattle.qz_terms.specs.declared.grades.Policy.{Policy}
use Rattle.qz_terms.specs.declared.people.User.{User}
use Rattle.qz_terms.specs.declared.plan.Plan.{Plan}
use Rattle.qz_terms.specs.declared.record.Record.{Record}
use Rattle.qz_terms.specs.declared.reply.Reply.{Reply}
use Rattle.qz_terms.specs.declared.reply.Reply.TheVariants as reply
use Rattle.qz_terms.specs.declared.request.Request.{Request}
use Rattle.qz_terms.specs.History as history
use Rattle.qz_terms.specs.Serial.{Held, Mended}
use Rattle.qz_shard.specs.Answering.{IsAnswered}
use Rattle.qz_looks.specs.Grades.{graded}
use Rattle.qz_shard.specs.Holdings.{Holding, IsAlone, older}
use Rattle.qz_shard.specs.Loads.{IsLoaded}

-- a shard with this index, of so many, its records, of which one may be in doubt, and their keeper
pub record Keeping (K : Type 0) : Type 0 where
  pub index : ℕ
  pub count : ℕ
  pub held : Held
  pub keeper : K

-- the shard without its keeper, over a list
abbrev pub shard_over : {K : Type 0} → Keeping K → List Record → Holding
shard_over s h = record { index = s.index; count = s.count; records = h }

-- the same shard, with whatever records
pub record IsSamePart {K : Type 0} (old new : Keeping K) : Type 0 where
  pub index : new.index ≡ old.index
  pub count : new.count ≡ old.count

-- it is loaded: none is in doubt
pub record IsOpened {K : Type 0} (index count : ℕ) (payloads : List (List ℕ)) (keeper : K) (s : Keeping K) : Type 0 where
  pub loaded : IsLoaded index count payloads (shard_over s s.held.list)
  pub no_doubt : s.held.doubt ≡ None
  pub keeper_is : s.keeper ≡ keeper

-- ---- what is said over a list

-- The reply is the answer, and the list what it leaves. To a student it is that over every list alike for this student.
pub record IsTold (index count now : ℕ) (user : User) (plan : Plan) (ask : Ask) (h : List Record) (told : Reply) (g : List Record) : Type 0 where
  pub answered : IsAnswered h now user plan ask told g
  pub newer : older h plan ask.request ≡ None
  pub alone : IsAlone (record { index = index; count = count; records = h }) now user plan ask told

-- where a start's plan is older than a job that is done in the mended list
pub record IsOlder (plan : Plan) (x : Request) (old new : Held) (floor : ℕ) : Type 0 where
  pub mends : Mended old new
  pub no_doubt : new.doubt ≡ None
  pub older_is : older new.list plan x ≡ Some floor

-- of a look, whose list stays
pub record IsSeen (index count now : ℕ) (user : User) (plan : Plan) (ask : Ask) (h : List Record) (told : Reply) (g : List Record) : Type 0 where
  pub answered : IsAnswered h now user plan ask told g
  pub alone : IsAlone (record { index = index; count = count; records = h }) now user plan ask told
  pub same : g ≡ h

-- the quiz of an attempt, if it is there
abbrev pub TellsQuiz : AttemptId → List Record → Result ℕ Refusal → Type 0
TellsQuiz a h told = MatchResult told (λ q. history.quiz h a ≡ Some q) (λ r. (history.quiz h a ≡ None) × (r ≡ refusal.Unknown thing.Attempt))

-- the grades of all who have an attempt of a quiz
abbrev pub TellsRows : ℕ → Policy → List Record → Result (List (ℕ × Option ℤ)) Refusal → Type 0
TellsRows q policy h told = told ≡ Ok (map (graded h q policy) (history.takers h q))

-- ---- how a call ends

-- A call whose error is a refusal.
abbrev pub CallsFor : {A : Type 0} → Type 0 → (List Record → Result A Refusal → Type 0) → Held → Held → Result A Refusal → Type 0
CallsFor failed Says old new told = OneCall failed (λ r. Err r) (Looks Says) old new told

abbrev pub Replies : Type 0 → (List Record → Reply → List Record → Type 0) → Held → Held → Reply → Type 0
Replies failed Answers old new told = OneCall failed reply.Refused Answers old new told

-- No more is graded than the request's own slots in the mended list, and nothing where nothing is put. A mending isn't counted.
pub record CountsFew (most : List Record → ℕ) (old new : Held) (before after : ℕ) : Type 0 where
  pub mended : Held
  pub mends : Mended old mended
  pub few : after ≤ before + most mended.list
  pub still : new.list ≡ mended.list → after ≡ before
