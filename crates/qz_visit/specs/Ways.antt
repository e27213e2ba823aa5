-- What requests come to at the catalogue and at one shard, as the two passes that took the turns tell: `so` and `po` before, `sn` and `pn` after.
use Rattle.std.specs.Prelude.{◌≡◌, ℕ, Bool, true, false, List, None, Some, Result, Ok, Err, MatchResult}
use mathlib.Core.List.{IsPrefix}
use Rattle.qz_catalog.specs.Keeping.{IsJob, IsPlan, TellsJob, TellsPlan}
use Rattle.qz_catalog_turns.specs.declared.replied.OwnRecord.TheVariants as own
use Rattle.qz_catalog_turns.specs.declared.replied.Replied.{Replied}
use Rattle.qz_catalog_turns.specs.Owning.{Leaves}
use Rattle.qz_catalog_turns.specs.Turning.{Fails, held_of}
use Rattle.qz_grading.specs.declared.refusal.AttemptId.{AttemptId}
use Rattle.qz_grading.specs.declared.refusal.Refusal.{Refusal}
use Rattle.qz_keeper.specs.Lists.{IsSettled, Looks, OneCall}
use Rattle.qz_serial.specs.Calls.{LookEnds, ShardAnswers}
use Rattle.qz_shard.specs.Keeping.{TellsQuiz}
use Rattle.qz_shard.specs.Works.{IsWorked}
use Rattle.qz_shard_turns.specs.Posing.{IsPlannedBy}
use Rattle.qz_shard_turns.specs.Tying.{HasLooked, IsTiedTo, Placed}
use Rattle.qz_school.specs.Answering.{MayBeAsked}
use Rattle.qz_school.specs.Planning.{asks_shard}
use Rattle.qz_terms.specs.declared.ask.Ask.{Ask}
use Rattle.qz_terms.specs.declared.people.User.{User}
use Rattle.qz_terms.specs.declared.plan.Job.{Job}
use Rattle.qz_terms.specs.declared.plan.Plan.{Plan}
use Rattle.qz_terms.specs.declared.record.Record.{Record}
use Rattle.qz_terms.specs.declared.reply.Reply.TheVariants as reply
use Rattle.qz_terms.specs.Catalog.{user_of}
use Rattle.qz_terms.specs.History as history
use Rattle.qz_terms.specs.Legal.{AllAgree, IsLegalCatalog}
use Rattle.qz_terms.specs.SchoolAnswer.{first_refusal}
use Rattle.qz_turn.specs.Passes.{Lock, Standing}
use Rattle.qz_visit.specs.Visits.{IsFoundBy, IsOf, TookTurn}

abbrev pub Seen : Type 0
Seen = Standing Record (Unit {0})

abbrev pub Part : Type 0
Part = Standing Record Placed

-- ---- what is given

-- passes of a catalogue's lock and of the lock of a shard tied to it, each with a number
pub record AreTied (records : Lock (Unit {0})) (parts : Lock Placed) (seen : Seen) (pass : Part) : Type 0 where
  pub of_records : IsOf records seen
  pub of_part : IsOf parts pass
  pub tie : IsTiedTo parts records

-- a lock of a shard at some place
pub record HasPlace (parts : Lock Placed) : Type 0 where
  pub place : Placed
  pub keyed : parts.key ≡ Some place

-- the pass has seen who asks, in a list of which no record is in doubt
pub record IsKnownBy (seen : Seen) (ask : Ask) (user : User) : Type 0 where
  pub found : user_of seen.seen.list ask.caller ≡ Some user
  pub legal : IsLegalCatalog seen.seen.list
  pub no_doubt : seen.seen.doubt ≡ None

-- Under the plan of a quiz for this user a request may be answered, whatever the two lists have grown to when it is read.
pub record MayPlan (c seen : List Record) (index count : ℕ) (user : User) (quiz owner : ℕ) (whole : Bool) (ask : Ask) (moment : ℕ) : Type 0 where
  pub known : user_of c ask.caller ≡ Some user
  pub asked : MayBeAsked ask moment
  pub served : asks_shard ask.request ≡ true
  pub planned : (d h : List Record) (p : Plan) → IsPrefix c d → IsPrefix seen h → IsPlan d quiz owner whole p → IsPlannedBy d index count user ask.request p h

-- ---- what came of it

-- a refusal, which puts no record
abbrev pub refused_with : Refusal → Replied
refused_with r = record { reply = reply.Refused r; own = own.Absent }

abbrev pub replied_of : Result Replied Refusal → Replied
replied_of (Ok told) = told
replied_of (Err r) = refused_with r

-- a call that the shard answers, in its pass's last turn, and the record of its own that it leaves
pub record Answered (c : List Record) (now : ℕ) (ask : Ask) (user : User) (pn : Part) (told : Replied) : Type 0 where
  pub call : OneCall (Fails pn.found pn.seen) reply.Refused (ShardAnswers c now user ask) (held_of pn.found) (held_of pn.seen) told.reply
  pub leaves : Leaves call.mended (held_of pn.seen) told.own

-- the catalogue, in its pass's last turn, was mended
abbrev pub IsMended : Seen → Type 0
IsMended sn = IsSettled (held_of sn.found) (held_of sn.seen)

-- a look at the catalogue, in its pass's last turn, that didn't tell what was looked for
abbrev pub Untold : {A : Type 0} → (List Record → Result A Refusal → Type 0) → Seen → Refusal → Type 0
Untold Says sn r = LookEnds (Fails sn.found sn.seen) (λ r. Err r) Says (held_of sn.found) (held_of sn.seen) (Err r)

-- A request under the plan of a quiz for a user: the catalogue gave the plan and the shard answered, or the catalogue gave none.
pub data Planned (so sn : Seen) (po pn : Part) (now : ℕ) (ask : Ask) (user : User) (quiz owner : ℕ) (whole : Bool) (told : Replied) : Type 0 where
  under : (p : Plan) → TookTurn so sn → IsMended sn → IsPlan sn.seen.list quiz owner whole p → TookTurn po pn → Answered sn.seen.list now ask user pn told → Planned so sn po pn now ask user quiz owner whole told
  planless : (r : Refusal) → TookTurn so sn → Untold (TellsPlan quiz owner whole) sn r → IsFoundBy po pn pn.seen → (po.seen.doubt ≡ None → pn.seen.doubt ≡ None) → told ≡ refused_with r → Planned so sn po pn now ask user quiz owner whole told

-- A request that names an attempt: the shard didn't tell its quiz, and nothing else was asked; or it did, in a list that agrees with what the catalogue's pass
-- has seen then, and the request was asked under the plan of that quiz.
pub data Tried (so sn : Seen) (po pn : Part) (now : ℕ) (ask : Ask) (user : User) (attempt : AttemptId) (told : Replied) : Type 0 where
  unfound : (r : Refusal) → sn ≡ so → TookTurn po pn → OneCall (Fails pn.found pn.seen) (λ r. Err r) (Looks (TellsQuiz attempt)) (held_of pn.found) (held_of pn.seen) (Err r) → told ≡ refused_with r
      → Tried so sn po pn now ask user attempt told
  of_quiz : (q : ℕ) (sm : Seen) (pm : Part) → HasLooked so sm → HasLooked po pm → history.quiz pm.seen.list attempt ≡ Some q → pm.seen.doubt ≡ None → AllAgree sm.seen.list pm.seen.list
      → Planned sm sn pm pn now ask user q attempt.user false told → Tried so sn po pn now ask user attempt told

-- A step of a job: the catalogue gave the job and the shard took the step, or the catalogue gave none.
pub data Stepped (so sn : Seen) (po pn : Part) (now : ℕ) (ask : Ask) (user : User) (number : ℕ) (told : Replied) : Type 0 where
  taken : (job : Job) → TookTurn so sn → IsMended sn → IsJob sn.seen.list number job → TookTurn po pn
      → (call : OneCall (Fails pn.found pn.seen) reply.Refused (λ h t g. IsWorked h now user.number job t g) (held_of pn.found) (held_of pn.seen) told.reply) → Leaves call.mended (held_of pn.seen) told.own → Stepped so sn po pn now ask user number told
  jobless : (r : Refusal) → TookTurn so sn → Untold (TellsJob number) sn r → IsLegalCatalog sn.seen.list → pn ≡ po → told ≡ refused_with r → Stepped so sn po pn now ask user number told

-- ---- a request of a user with a token

-- The shard answered it; the catalogue refuses it; or a look at the catalogue told nothing.
pub data CameTo (so sn : Seen) (po pn : Part) (now : ℕ) (ask : Ask) (user : User) (told : Replied) : Type 0 where
  answered : TookTurn so sn → IsMended sn → user_of sn.seen.list ask.caller ≡ Some user → first_refusal sn.seen.list user ask.request ≡ None → TookTurn po pn → Answered sn.seen.list now ask user pn told
      → CameTo so sn po pn now ask user told
  answered_alone : sn ≡ so → first_refusal sn.seen.list user ask.request ≡ None → TookTurn po pn → Answered sn.seen.list now ask user pn told → CameTo so sn po pn now ask user told
  refused : (r : Refusal) → TookTurn so sn → IsMended sn → user_of sn.seen.list ask.caller ≡ Some user → first_refusal sn.seen.list user ask.request ≡ Some r → IsFoundBy po pn pn.seen → told ≡ refused_with r
      → CameTo so sn po pn now ask user told
  untold : (r : Refusal) → TookTurn so sn → Untold {A = Unit {0}} (λ _ _. ⊥) sn r → IsFoundBy po pn pn.seen → told ≡ refused_with r → CameTo so sn po pn now ask user told

abbrev pub Comes : Seen → Seen → Part → Part → ℕ → Ask → User → Result Replied Refusal → Type 0
Comes so sn po pn now ask user result = MatchResult result (CameTo so sn po pn now ask user) (λ r. CameTo so sn po pn now ask user (refused_with r))
