-- The ways that a worker's request goes through the lists of a school, by what the calls at single lists came to.
use Rattle.std.specs.Prelude.{◌≡◌, ℕ, ◌≤◌, ◌%◌, true, false, List, length, slice_get, is_some, Some, None, Result, Err, MatchResult}
use Rattle.qz_grading.specs.declared.refusal.AttemptId.{AttemptId}
use Rattle.qz_grading.specs.declared.refusal.Refusal.{Refusal}
use Rattle.qz_grading.specs.declared.refusal.Refusal.TheVariants as refusal
use Rattle.qz_grading.specs.declared.refusal.Thing.TheVariants as thing
use Rattle.qz_terms.specs.declared.ask.Ask.{Ask}
use Rattle.qz_terms.specs.declared.people.Caller.TheVariants as caller
use Rattle.qz_terms.specs.declared.plan.Job.{Job}
use Rattle.qz_terms.specs.declared.plan.Plan.{Plan}
use Rattle.qz_terms.specs.declared.record.Record.{Record}
use Rattle.qz_terms.specs.declared.reply.Reply.{Reply}
use Rattle.qz_terms.specs.declared.reply.Reply.TheVariants as reply
use Rattle.qz_terms.specs.declared.request.Request.{Request}
use Rattle.qz_terms.specs.declared.request.Request.TheVariants as request
use Rattle.qz_terms.specs.Answer.{live_answer}
use Rattle.qz_terms.specs.Catalog.{worker}
use Rattle.qz_terms.specs.Cause.{may_ask, missing_in, rule_of}
use Rattle.qz_terms.specs.History as history
use Rattle.qz_terms.specs.SchoolAnswer.{plan_for}
use Rattle.qz_terms.specs.Serial.{Held, Lists}
use Rattle.qz_keeper.specs.Lists.{IsSettled, Looks, OneCall}
use Rattle.qz_serial.specs.Calls.{CatalogAnswers, ShardAnswers}
use Rattle.qz_serial.specs.Once.{AskedOnce}
use Rattle.qz_serial.specs.Paths.{IsAskable, with_both, with_part, with_records}

-- a worker asks this
pub record IsWorkers (a : Lists) (ask : Ask) (x : Request) : Type 0 where
  pub askable : IsAskable a ask
  pub caller_is : ask.caller ≡ caller.Worker
  pub request_is : ask.request ≡ x

-- what is said of the job that a request names: that it is there, or how it is missing
abbrev pub FindsJob : Request → List Record → Result Job Refusal → Type 0
FindsJob x c told = MatchResult told (λ _. missing_in c x ≡ None) (λ r. missing_in c x ≡ Some r)

-- what is said of an attempt: its quiz, or that it isn't there
abbrev pub FindsQuiz : AttemptId → List Record → Result ℕ Refusal → Type 0
FindsQuiz attempt h told = MatchResult told (λ q. history.quiz h attempt ≡ Some q) (λ r. (history.quiz h attempt ≡ None) × (r ≡ refusal.Unknown thing.Attempt))

-- A catalogue gives the plan of an attempt that is there.
abbrev pub FindsPlan : List Record → Request → List Record → Result Plan Refusal → Type 0
FindsPlan h x c told = MatchResult told (λ plan. plan_for c h worker x ≡ Some plan) (λ _. ⊥)

-- What a worker may not ask reads nothing. The jobs that there are the catalogue tells alone; where attempts go on a shard tells alone; and
-- a step of a job is the catalogue's first, and then the shard's.
pub record WorkersAsk (failed : Type 0) : Type 0 where
  pub refused : (a : Lists) (now : ℕ) (ask : Ask) → IsWorkers a ask ask.request → may_ask worker ask.request ≡ false → AskedOnce failed a a now ask (reply.Refused (refusal.Forbidden (rule_of ask.request)))
  pub jobs : (a : Lists) (new : Held) (now : ℕ) (ask : Ask) (told : Reply) → IsWorkers a ask request.Jobs → OneCall failed reply.Refused (CatalogAnswers now worker ask) a.records new told → AskedOnce failed a (with_records a new) now ask told
  pub nowhere : (a : Lists) (now : ℕ) (ask : Ask) (shard : ℕ) (attempt : AttemptId) → IsWorkers a ask (request.Live shard attempt) → length a.parts ≤ shard → AskedOnce failed a a now ask (reply.Refused (refusal.Unknown thing.Shard))
  pub live : (a : Lists) (held new : Held) (now : ℕ) (ask : Ask) (shard : ℕ) (attempt : AttemptId) (told : Reply) → IsWorkers a ask (request.Live shard attempt) → slice_get a.parts shard ≡ Some held
      → OneCall failed reply.Refused (Looks (λ h told. told ≡ live_answer h attempt)) held new told → AskedOnce failed a (with_part a shard new) now ask told
  pub job : (a : Lists) (mended : Held) (now : ℕ) (ask : Ask) (number shard : ℕ) (told : Result Job Refusal) → IsWorkers a ask (request.Work number shard) → OneCall failed (λ r. Err r) (Looks (FindsJob ask.request)) a.records mended told
      → MatchResult told (λ _. IsSettled a.records mended × (missing_in mended.list ask.request ≡ None)) (λ r. AskedOnce failed a (with_records a mended) now ask (reply.Refused r))
  pub jobless : (a : Lists) (mended : Held) (now : ℕ) (ask : Ask) (number shard : ℕ) → IsWorkers a ask (request.Work number shard) → IsSettled a.records mended → missing_in mended.list ask.request ≡ None → length a.parts ≤ shard
      → AskedOnce failed a (with_records a mended) now ask (reply.Refused (refusal.Unknown thing.Shard))
  pub work : (a : Lists) (mended held new : Held) (now : ℕ) (ask : Ask) (number shard : ℕ) (told : Reply) → IsWorkers a ask (request.Work number shard) → IsSettled a.records mended → missing_in mended.list ask.request ≡ None
      → slice_get a.parts shard ≡ Some held → OneCall failed reply.Refused (ShardAnswers mended.list now worker ask) held new told → AskedOnce failed a (with_both a mended shard new) now ask told

-- A settling finds the attempt in its shard first, and where it is there its plan in the catalogue; then the shard answers.
pub record WorkersSettle (failed : Type 0) : Type 0 where
  pub quiz : (a : Lists) (held mid : Held) (now : ℕ) (ask : Ask) (attempt : AttemptId) (told : Result ℕ Refusal) → IsWorkers a ask (request.Settle attempt) → slice_get a.parts (attempt.user % length a.parts) ≡ Some held
      → OneCall failed (λ r. Err r) (Looks (FindsQuiz attempt)) held mid told
      → MatchResult told (λ _. IsSettled held mid × (is_some (history.start mid.list attempt) ≡ true)) (λ r. AskedOnce failed a (with_part a (attempt.user % length a.parts) mid) now ask (reply.Refused r))
  pub plan : (a : Lists) (held mid mended : Held) (now : ℕ) (ask : Ask) (attempt : AttemptId) (told : Result Plan Refusal) → IsWorkers a ask (request.Settle attempt) → slice_get a.parts (attempt.user % length a.parts) ≡ Some held
      → IsSettled held mid → is_some (history.start mid.list attempt) ≡ true → OneCall failed (λ r. Err r) (Looks (FindsPlan mid.list ask.request)) a.records mended told
      → MatchResult told (λ plan. IsSettled a.records mended × (plan_for mended.list mid.list worker ask.request ≡ Some plan)) (λ r. AskedOnce failed a (with_both a mended (attempt.user % length a.parts) mid) now ask (reply.Refused r))
  pub settle : (a : Lists) (held mid mended new : Held) (now : ℕ) (ask : Ask) (attempt : AttemptId) (told : Reply) → IsWorkers a ask (request.Settle attempt) → slice_get a.parts (attempt.user % length a.parts) ≡ Some held
      → IsSettled held mid → is_some (history.start mid.list attempt) ≡ true → IsSettled a.records mended → OneCall failed reply.Refused (ShardAnswers mended.list now worker ask) mid new told
      → AskedOnce failed a (with_both a mended (attempt.user % length a.parts) new) now ask told
