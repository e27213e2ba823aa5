-- The four tables as lists of rows, and what is read from them.
use Rattle.std.specs.Prelude.{ℕ, ℤ, pos, ◌==◌, ◌&&◌, if◌then◌else◌, Bool, List, [], ◌∷◌, ◌++◌, map, filter}
use Rattle.qz_grading.specs.declared.refusal.AttemptId.{AttemptId}
use Rattle.qz_terms.specs.History.{attempt_before}
use Rattle.qz_terms.specs.Lists.{in_order}
use Rattle.sqlite_keyed.specs.Keyed.{insert_by}

-- ---- rows

pub record AttemptRow : Type 0 where
  pub owner : ℕ
  pub nth : ℕ
  pub quiz : ℕ
  -- 0 while it waits, 1 once it is finished, 2 once it is abandoned
  pub status : ℕ

pub record StepRow : Type 0 where
  pub place : ℕ
  pub owner : ℕ
  pub nth : ℕ
  pub slot : ℕ

pub record ReplyRow : Type 0 where
  pub caller : ℕ
  pub word : List ℕ
  pub place : ℕ

-- ---- the tables

pub record Tables : Type 0 where
  -- `record`: the payloads, whose places count from 1
  pub payloads : List (List ℕ)
  -- `attempt`, `step`, `reply`
  pub attempts : List AttemptRow
  pub steps : List StepRow
  pub replies : List ReplyRow

abbrev pub no_tables : Tables
no_tables = record { payloads = []; attempts = []; steps = []; replies = [] }

-- ---- what is read from them

abbrev pub attempt_in : AttemptRow → AttemptId
attempt_in a = record { user = a.owner; nth = a.nth }

abbrev pub waits_at : ℕ → AttemptRow → Bool
waits_at quiz a = (a.quiz == quiz) && (a.status == 0)

-- the attempts at a quiz that wait, in order of owner and number
abbrev pub waiting : ℕ → Tables → List AttemptId
waiting quiz t = in_order attempt_before (map attempt_in (filter (waits_at quiz) t.attempts))

abbrev pub is_step_of : AttemptId → StepRow → Bool
is_step_of id s = (s.owner == id.user) && (s.nth == id.nth)

-- the places of an attempt's steps, in order
abbrev pub places_of : AttemptId → Tables → List ℕ
places_of id t = map (λ (s : StepRow). s.place) (filter (is_step_of id) t.steps)

-- ---- changes

abbrev pub is_of : ℕ → ℕ → AttemptRow → Bool
is_of owner nth a = (a.owner == owner) && (a.nth == nth)

-- the rows of one attempt
abbrev pub same_attempt : AttemptRow → AttemptRow → Bool
same_attempt a b = is_of b.owner b.nth a

abbrev pub with_payload : List ℕ → Tables → Tables
with_payload payload t = record t { payloads = t.payloads ++ payload ∷ [] }

abbrev pub with_attempt : AttemptRow → Tables → Tables
with_attempt a t = record t { attempts = t.attempts ++ a ∷ [] }

abbrev pub set_status : ℕ → AttemptRow → AttemptRow
set_status status a = record a { status = status }

-- each row of the attempt has this status
abbrev pub ended_at : ℕ → ℕ → ℕ → List AttemptRow → List AttemptRow
ended_at owner nth status = map (λ a. if is_of owner nth a then set_status status a else a)

abbrev pub with_status : ℕ → ℕ → ℕ → Tables → Tables
with_status owner nth status t = record t { attempts = ended_at owner nth status t.attempts }

abbrev pub place_of : StepRow → ℤ
place_of s = pos s.place

-- the steps stay in order of their places
abbrev pub with_step : StepRow → Tables → Tables
with_step s t = record t { steps = insert_by place_of t.steps s }

abbrev pub with_reply : ReplyRow → Tables → Tables
with_reply r t = record t { replies = t.replies ++ r ∷ [] }
