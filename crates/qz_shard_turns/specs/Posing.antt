-- What may be asked of a shard in a turn, under a plan that was read before.
use Rattle.std.specs.Prelude.{◌≡◌, ℕ, true, List, [], Option, Some, None, Result, MatchResult}
use mathlib.Core.List.{IsPrefix}
use Rattle.qz_catalog.specs.Holdings.{lean}
use Rattle.qz_catalog_turns.specs.declared.replied.Replied.{Replied}
use Rattle.qz_catalog_turns.specs.Owning.{CallReplies}
use Rattle.qz_catalog_turns.specs.Turning.{held_of, tale_of}
use Rattle.qz_school.specs.Agreement.{HasQuizReady, is_start}
use Rattle.qz_serial.specs.Calls.{ShardAnswers}
use Rattle.qz_shard.specs.declared.shard.Older.{Older}
use Rattle.qz_shard.specs.Answering.{IsAnswered}
use Rattle.qz_shard.specs.Holdings.{Holding, StartsHere, older}
use Rattle.qz_shard.specs.Keeping as part
use Rattle.qz_school.specs.Answering.{MayBeAsked}
use Rattle.qz_school.specs.Planning.{asks_shard}
use Rattle.qz_terms.specs.declared.ask.Ask.{Ask}
use Rattle.qz_terms.specs.declared.people.User.{User}
use Rattle.qz_terms.specs.declared.plan.Plan.{Plan}
use Rattle.qz_terms.specs.declared.record.Record.{Record}
use Rattle.qz_terms.specs.declared.reply.Reply.{Reply}
use Rattle.qz_terms.specs.declared.reply.Reply.TheVariants as reply
use Rattle.qz_terms.specs.declared.request.Request.{Request}
use Rattle.qz_terms.specs.Catalog.{user_of}
use Rattle.qz_terms.specs.Kept.{IsKeptPlan}
use Rattle.qz_terms.specs.Legal.{IsLegal, IsLegalCatalog, is_plan_for}
use Rattle.qz_terms.specs.SchoolAnswer.{first_refusal, plan_for}
use Rattle.qz_turn.specs.Passes.{Lock, Standing}
use Rattle.qz_turn.specs.Tales.{Follows}
use Rattle.qz_turn.specs.Turns.{AddsTurn}
use Rattle.qz_shard_turns.specs.Tying.{Behind}

abbrev pub shard_at : ℕ → ℕ → List Record → Holding
shard_at index count h = record { index = index; count = count; records = h }

-- This is the plan that the catalogue c gives for a request that it doesn't refuse, over this list of the shard, without its questions but for
-- a start; and where the request names an attempt that is there, its quiz is ready in c.
pub record IsPlannedBy (c : List Record) (index count : ℕ) (user : User) (x : Request) (given : Plan) (h : List Record) : Type 0 where
  pub whole : Plan
  pub free : first_refusal c user x ≡ None
  pub plan_is : plan_for c h user x ≡ Some whole
  pub given_is : given ≡ lean (is_start x) whole
  pub of_quiz : is_plan_for h given x ≡ true
  pub kept : IsKeptPlan given
  pub here : StartsHere (shard_at index count h) user given x
  pub ready : HasQuizReady c h x

-- A request may be answered under a plan over each list that goes on from what was seen of the shard.
pub record CanPose (c seen : List Record) (index count : ℕ) (user : User) (plan : Plan) (ask : Ask) (moment : ℕ) : Type 0 where
  pub legal : IsLegalCatalog c
  pub known : user_of c ask.caller ≡ Some user
  pub asked : MayBeAsked ask moment
  pub served : asks_shard ask.request ≡ true
  pub here : StartsHere (shard_at index count []) user plan ask.request
  pub planned : (h : List Record) → IsPrefix seen h → IsPlannedBy c index count user ask.request plan h

-- it is answered under this plan, which isn't older than a job that is done there
pub record IsAnsweredNow (moment : ℕ) (user : User) (plan : Plan) (ask : Ask) (h : List Record) (told : Reply) (g : List Record) : Type 0 where
  pub answered : IsAnswered h moment user plan ask told g
  pub newer : older h plan ask.request ≡ None

-- a request was answered over the catalogue's list c, or its plan is older than a job that is done in the shard
abbrev pub Comes : {K : Type 0} → (K → ℕ) → List Record → ℕ → User → Plan → Ask → part.Keeping K → part.Keeping K → Result Replied Older → Type 0
Comes faults c moment user plan ask before after result = MatchResult result
    (λ told. CallReplies (IsLegal before.index before.count) reply.Refused (ShardAnswers c moment user ask) (tale_of before.held (faults before.keeper)) (tale_of after.held (faults after.keeper)) told.reply told.own)
    (λ o. part.IsOlder plan ask.request before.held after.held o.floor)

-- ---- a turn

-- the list that a note has seen
abbrev pub list_seen : Option (Standing Record (Unit {0})) → List Record
list_seen None = []
list_seen (Some note) = note.seen.list

-- it is there, and of this lock
pub record IsNoteOf (lock : Lock (Unit {0})) (o : Option (Standing Record (Unit {0}))) : Type 0 where
  pub note : Standing Record (Unit {0})
  pub there : o ≡ Some note
  pub own : note.lock ≡ lock
  pub bare : note.numbers ≡ []

-- what an errand that asked did to what stands behind the lock, and what it was told
pub record WasAnswered {K : Type 0} (faults : K → ℕ) (c : List Record) (moment : ℕ) (user : User) (plan : Plan) (ask : Ask) (before after : Behind K) (told : Option (Result Replied Older)) : Type 0 where
  pub result : Result Replied Older
  pub told_is : told ≡ Some result
  pub comes : Comes faults c moment user plan ask before.shard after.shard result

-- A turn at a list in which a job is done that is newer than the plan: the list was mended, and nothing else.
pub record TurnIsOlder {K : Type 0} (plan : Plan) (x : Request) (old new : Standing Record K) (floor : ℕ) : Type 0 where
  pub begins : Follows old.seen new.found
  pub grows : Follows new.found new.seen
  pub older : part.IsOlder plan x (held_of new.found) (held_of new.seen) floor
  pub numbers : new.numbers ≡ old.numbers
  pub lock : new.lock ≡ old.lock
  pub turns : AddsTurn old new
