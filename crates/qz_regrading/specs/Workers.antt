-- What a worker asks of a desk, and what the replies tell it.
use Rattle.std.specs.Prelude.{◌≡◌, ℕ, ◌≤◌, Bool, true, false, List, ◌++◌, length, None}
use Rattle.qz_grading.specs.declared.refusal.AttemptId.{AttemptId}
use Rattle.qz_grading.specs.declared.refusal.Refusal.TheVariants as refusal
use Rattle.qz_grading.specs.declared.refusal.Thing.TheVariants as thing
use Rattle.qz_outside.specs.Causes.{HasRisen}
use Rattle.qz_terms.specs.declared.ask.Ask.{Ask}
use Rattle.qz_terms.specs.declared.people.Caller.TheVariants as caller
use Rattle.qz_terms.specs.declared.record.Record.{Record}
use Rattle.qz_terms.specs.declared.reply.Done.{Done}
use Rattle.qz_terms.specs.declared.reply.Done.TheVariants as done
use Rattle.qz_terms.specs.declared.reply.Reply.{Reply}
use Rattle.qz_terms.specs.declared.reply.Reply.TheVariants as reply
use Rattle.qz_terms.specs.declared.request.Request.{Request}
use Rattle.qz_terms.specs.declared.request.Request.TheVariants as request
use Rattle.qz_terms.specs.Catalog.{jobs, worker}
use Rattle.qz_terms.specs.Cause.{may_ask}
use Rattle.qz_terms.specs.History.{is_done}
use Rattle.qz_terms.specs.Kept.{is_moment}
use Rattle.qz_terms.specs.Serial.{Asks, Lists, part_list}

-- a worker asks without a key
abbrev pub worker_asks : Request → Ask
worker_asks x = record { caller = caller.Worker; key = None; request = x }

-- whatever a worker may ask is taken, at each moment that is allowed
pub record TakesWork (takes : ℕ → Ask → Type 0) : Type 0 where
  pub taken : (now : ℕ) (x : Request) → is_moment now ≡ true → may_ask worker x ≡ true → takes now (worker_asks x)

-- ---- what the lists go on holding

-- the second list begins with the first
pub record IsFront (front whole : List Record) : Type 0 where
  pub rest : List Record
  pub split : whole ≡ front ++ rest

-- Each shard's list goes on holding its records, in their order, and no shard comes or goes.
pub record KeepsParts (a b : Lists) : Type 0 where
  pub count : length b.parts ≡ length a.parts
  pub fronts : (shard : ℕ) → IsFront (part_list a shard) (part_list b shard)

-- ---- what replies tell

-- that a job is done in a shard, now or before
abbrev pub tells_done : Done → Bool
tells_done (done.JobDone job) = true
tells_done (done.AlreadyDone job) = true
tells_done d = false

-- What is told of the lists: a job is done in a shard where work on it is over, a shard isn't there where work or a look finds it missing,
-- and the catalogue has as many jobs as are counted.
pub record TellsWorker (a b : Lists) (x : Request) (r : Reply) : Type 0 where
  pub keeps : KeepsParts a b
  pub worked : (job shard place : ℕ) (d : Done) → x ≡ request.Work job shard → r ≡ reply.Ok place d → tells_done d ≡ true → is_done (part_list b shard) job ≡ true
  pub missing : (job shard : ℕ) → x ≡ request.Work job shard → r ≡ reply.Refused (refusal.Unknown thing.Shard) → length b.parts ≤ shard
  pub absent : (shard : ℕ) (attempt : AttemptId) → x ≡ request.Live shard attempt → r ≡ reply.Refused (refusal.Unknown thing.Shard) → length b.parts ≤ shard
  pub counted : (place count : ℕ) → x ≡ request.Jobs → r ≡ reply.Ok place (done.Jobs count) → count ≡ length (jobs b.records.list)

-- A count of faults never falls, and rises where a keeper failed.
pub record CountsFault (before after : ℕ) (r : Reply) : Type 0 where
  pub later : before ≤ after
  pub fault : r ≡ reply.Refused refusal.KeepFault → HasRisen before after

-- So a desk answers a worker, also one that others ask in between: its lists are those that it has seen when it replies.
pub record ServesWorkers {D : Type 0} (lists : D → Lists) (faults : D → ℕ) (answers : D → D → ℕ → Ask → Reply → Type 0) : Type 0 where
  pub tells : (a b : D) (now : ℕ) (x : Request) (r : Reply) → may_ask worker x ≡ true → answers a b now (worker_asks x) r → TellsWorker (lists a) (lists b) x r
  pub counts : (a b : D) (now : ℕ) (x : Request) (r : Reply) → may_ask worker x ≡ true → answers a b now (worker_asks x) r → CountsFault (faults a) (faults b) r

-- ---- what the rules of answers mean for workers

-- No request of anybody, answered by the rules, takes a record from a shard's list, or a shard away, also where lists are in doubt.
pub record AsksKeep : Type 0 where
  pub keep : (a b : Lists) (now : ℕ) (ask : Ask) (r : Reply) → Asks a b now ask r → KeepsParts a b

-- A worker's request that is answered by the rules tells the worker what it needs.
pub record AsksTell : Type 0 where
  pub tell : (a b : Lists) (now : ℕ) (x : Request) (r : Reply) → Asks a b now (worker_asks x) r → TellsWorker a b x r
