-- The requests of a worker, one after the other, and what is read of them.
use Rattle.std.specs.Prelude.{◌≡◌, ℕ, ◌-◌, ◌^◌, ◌<◌, ◌≤◌, Bool, true, false, List, [], ◌∷◌, ◌++◌, length, min, filter, filter_map, Option, Some, None, if◌then◌else◌, ◌==◌}
use Rattle.qz_asking.specs.Asking.{Answerer, Asks}
use Rattle.qz_grading.specs.declared.refusal.AttemptId.{AttemptId}
use Rattle.qz_grading.specs.declared.refusal.Refusal.TheVariants as refusal
use Rattle.qz_terms.specs.declared.ask.Ask.{Ask}
use Rattle.qz_terms.specs.declared.limits.TheConstants.{MOST_SHARDS}
use Rattle.qz_terms.specs.declared.reply.Done.TheVariants as done
use Rattle.qz_terms.specs.declared.reply.Reply.{Reply}
use Rattle.qz_terms.specs.declared.reply.Reply.TheVariants as reply
use Rattle.qz_terms.specs.declared.request.Request.{Request}
use Rattle.qz_terms.specs.declared.request.Request.TheVariants as request
use Rattle.qz_terms.specs.Catalog.{worker}
use Rattle.qz_terms.specs.Cause.{may_ask}
use Rattle.qz_regrading.specs.Workers.{worker_asks}

-- a request, and the reply to it
pub record Worked : Type 0 where
  pub request : Request
  pub reply : Reply

-- Requests of a worker lead from one desk and clock to another, each asked at the moment that the clock told.
pub data Works {D C : Type 0} (tells : C → ℕ → C → Type 0) (answers : D → D → ℕ → Ask → Reply → Type 0) : Answerer D C → List Worked → Answerer D C → Type 0 where
  none : (a : Answerer D C) → Works tells answers a [] a
  more : (a b c : Answerer D C) (before : List Worked) (next : Worked) → Works tells answers a before b → may_ask worker next.request ≡ true
      → Asks tells answers b c (worker_asks next.request) next.reply → Works tells answers a (before ++ next ∷ []) c

-- requests of which this holds
pub record WorksSo {D C : Type 0} (tells : C → ℕ → C → Type 0) (answers : D → D → ℕ → Ask → Reply → Type 0) (So : List Worked → Type 0) (a b : Answerer D C) : Type 0 where
  pub asked : List Worked
  pub works : Works tells answers a asked b
  pub so : So asked

-- ---- refusals

abbrev pub is_keep_fault : Reply → Bool
is_keep_fault (reply.Refused refusal.KeepFault) = true
is_keep_fault r = false

-- how many were refused because a keeper failed
abbrev pub keep_faults : List Worked → ℕ
keep_faults ws = length (filter (λ (w : Worked). is_keep_fault w.reply) ws)

-- so many, or the greatest number of 64 bits
abbrev pub counts_to : ℕ → ℕ
counts_to n = min n (2 ^ 64 - 1)

-- ---- looks at what goes on

-- what a worker is told who asks which attempt of a shard goes on behind another: the next one, that there is none, or nothing
pub data Told : Type 0 where
  Next : AttemptId → Told
  NoMore : Told
  Nothing : Told

abbrev pub told_by : Reply → Told
told_by (reply.Ok place (done.Live (Some attempt))) = Next attempt
told_by (reply.Ok place d) = NoMore
told_by (reply.Refused why) = Nothing

abbrev pub next_of : Told → Option AttemptId
next_of (Next attempt) = Some attempt
next_of told = None

pub record Look : Type 0 where
  pub behind : AttemptId
  pub told : Told

-- a look at this shard
abbrev pub look_by : ℕ → Request → Reply → Option Look
look_by shard (request.Live number attempt) r = if number == shard then Some (record { behind = attempt; told = told_by r }) else None
look_by shard x r = None

abbrev pub looks_at : ℕ → List Worked → List Look
looks_at shard ws = filter_map (λ (w : Worked). look_by shard w.request w.reply) ws

-- each look is behind the attempt that the one before it told
pub data LooksOn : AttemptId → List Look → AttemptId → Type 0 where
  starts : (a : AttemptId) → LooksOn a [] a
  goes_on : (a b c : AttemptId) (before : List Look) → LooksOn a before b → LooksOn a (before ++ (record { behind = b; told = Next c }) ∷ []) c

-- no attempt has this number: all stand behind it
abbrev pub before_all : AttemptId
before_all = record { user = 0; nth = 0 }

-- from before all attempts on, each one behind the last, until none was told; or as many as 64 bits count
pub data IsSearched : List Look → Type 0 where
  to_the_end : (before : List Look) (last : AttemptId) (told : Told) → LooksOn before_all before last → next_of told ≡ None → IsSearched (before ++ (record { behind = last; told = told }) ∷ [])
  without_end : (looks : List Look) (last : AttemptId) → LooksOn before_all looks last → length looks ≡ 2 ^ 64 - 1 → IsSearched looks

-- ---- settlements

abbrev pub found_by : Request → Reply → Option AttemptId
found_by (request.Live shard attempt) r = next_of (told_by r)
found_by x r = None

-- the attempts that were told to go on
abbrev pub found_in : List Worked → List AttemptId
found_in ws = filter_map (λ (w : Worked). found_by w.request w.reply) ws

abbrev pub settled_by : Request → Option AttemptId
settled_by (request.Settle attempt) = Some attempt
settled_by x = None

-- the attempts that were asked to be settled
abbrev pub settled_in : List Worked → List AttemptId
settled_in ws = filter_map (λ (w : Worked). settled_by w.request) ws

-- In so many shards it was searched for attempts that go on, and just those that were told were asked to be settled, in this order: such an
-- attempt ends where its time is over.
pub record Sweeps (shards : ℕ) (ws : List Worked) : Type 0 where
  pub searched : (shard : ℕ) → shard < shards → shard ≤ MOST_SHARDS → IsSearched (looks_at shard ws)
  pub settled : settled_in ws ≡ found_in ws
