-- The attempts of a shard's list: what is kept of each is what the records tell.
use Rattle.std.specs.Prelude.{◌≡◌, ℕ, ◌≤◌, ◌&&◌, Bool, false, not, List, [], filter, length, map, Option, Some, None, is_some, option_and_then, option_map, unwrap_or}
use Rattle.std.specs.BTreeMap.{BTreeMap, get}
use Rattle.std.specs.Ordering.{nat_cmp, ordering_then}
use Rattle.std.specs.declared.cmp.Ordering.{Ordering}
use Rattle.qz_gradebook.specs.declared.finished.Finished.{Finished}
use Rattle.qz_gradebook.specs.Totals.{Gradebook}
use Rattle.qz_grading.specs.declared.question.Question.{Question}
use Rattle.qz_grading.specs.declared.refusal.AttemptId.{AttemptId}
use Rattle.qz_grading.specs.Grading.{at_place}
use Rattle.qz_grading.specs.Steps.{has_finish}
use Rattle.qz_terms.specs.declared.record.Record.{Record}
use Rattle.qz_terms.specs.History as history
use Rattle.qz_terms.specs.History.{Slot, Start}
use Rattle.qz_usage.specs.Runs.{IsBound, IsWithinLimits, Run, behaviour_of, bound_of}
use Rattle.qz_lives.specs.declared.live.Begun.{Begun}
use Rattle.qz_lives.specs.declared.live.Ending.{Ending}
use Rattle.qz_lives.specs.declared.live.Live.{Live}
use Rattle.qz_lives.specs.declared.lives.Lives.{Lives}

-- ---- what is kept

-- the order of the keys: by user, then by number
abbrev pub by_number : ℕ × ℕ → ℕ × ℕ → Ordering
by_number x y = ordering_then (nat_cmp x.0 y.0) (nat_cmp x.1 y.1)

abbrev pub key_of : AttemptId → ℕ × ℕ
key_of a = (a.user, a.nth)

-- what is kept of an attempt, if it was started
abbrev pub live_in : Lives → AttemptId → Option Live
live_in m a = unwrap_or (get by_number m.attempts (key_of a)) None

-- the run at a place of an attempt, from 1
abbrev pub run_in : Lives → AttemptId → ℕ → Option Run
run_in m a k = option_and_then (λ (l : Live). at_place l.slots k) (live_in m a)

-- whether it is kept as one that goes on
abbrev pub goes_on_in : Lives → AttemptId → Bool
goes_on_in m a = unwrap_or (get by_number m.going (key_of a)) false

-- the rows, by quiz and user
abbrev pub RowMap : Type 0
RowMap = BTreeMap (ℕ × ℕ) Gradebook

-- what is kept of the finished attempts of a quiz by a user
abbrev pub finished_in : RowMap → ℕ → ℕ → List Finished
finished_in rows q u = unwrap_or (option_map (λ (g : Gradebook). g.finished) (get by_number rows (q, u))) []

-- ---- what the records tell

-- of a start, without what it bound
abbrev pub begun_of : Start → Begun
begun_of s = record { moment = s.moment; quiz = s.quiz; behaviour = s.behaviour; slots = length s.bounds }

-- the slot that a run plays
abbrev pub slot_of : Run → Question → Slot
slot_of r q = record { behaviour = behaviour_of r; bound = r.bound; question = q; steps = r.steps }

-- a run plays a slot of the list, under the question that is bound there
pub record IsSlot (h : List Record) (a : AttemptId) (k : ℕ) (r : Run) : Type 0 where
  pub question : Question
  pub slot_is : history.slot h a k ≡ Some (slot_of r question)
  pub asked : IsBound r question
  pub limits : IsWithinLimits r.steps

abbrev pub IsSlotAt : List Record → AttemptId → ℕ → Option Run → Type 0
IsSlotAt h a k None = history.slot h a k ≡ None
IsSlotAt h a k (Some r) = IsSlot h a k r

-- the list tells nothing of an attempt
pub record IsUntold (h : List Record) (a : AttemptId) : Type 0 where
  pub unstarted : history.start h a ≡ None
  pub unended : history.ended h a ≡ None
  pub unbound : (k : ℕ) → history.bound h a k ≡ None
  pub unstepped : (k : ℕ) → history.steps h a k ≡ []

-- the list tells of an attempt what is kept of it; no slot is finished while it goes on
pub record IsTold (h : List Record) (a : AttemptId) (l : Live) : Type 0 where
  pub started : Start
  pub start_is : history.start h a ≡ Some started
  pub begun_is : l.begun ≡ begun_of started
  pub how : option_map (λ (e : Ending). e.how) l.ending ≡ history.ended h a
  pub place : option_map (λ (e : Ending). e.place) l.ending ≡ history.ended_at h a
  pub count : length l.slots ≡ length started.bounds
  pub few : length l.slots ≤ 200
  pub bounds : (k : ℕ) → option_map bound_of (at_place l.slots k) ≡ history.bound h a k
  pub slots : (k : ℕ) → IsSlotAt h a k (at_place l.slots k)
  pub unfinished : (k : ℕ) (r : Run) → l.ending ≡ None → at_place l.slots k ≡ Some r → has_finish r.steps ≡ false

abbrev pub IsToldAs : List Record → AttemptId → Option Live → Type 0
IsToldAs h a None = IsUntold h a
IsToldAs h a (Some l) = IsTold h a l

-- these are the attempts of a list; an attempt goes on that was started and hasn't ended
pub record AreAttempts (m : Lives) (h : List Record) : Type 0 where
  pub each : (a : AttemptId) → IsToldAs h a (live_in m a)
  pub going : (a : AttemptId) → goes_on_in m a ≡ (is_some (history.start h a) && not (history.is_ended h a))

-- an attempt of a quiz, with its total
abbrev pub finished_at : List Record → ℕ → AttemptId → Finished
finished_at h q a = record { quiz = q; attempt = a; total = history.total h a }

-- the finished attempts of a quiz by a user, in order of number, each with its total
abbrev pub finished_of : List Record → ℕ → ℕ → List Finished
finished_of h q u = map (finished_at h q) (filter (history.is_finished h) (history.attempts h q u))

-- and these rows are of them
pub record AreRows (rows : RowMap) (h : List Record) : Type 0 where
  pub each : (q u : ℕ) → finished_in rows q u ≡ finished_of h q u

-- the attempts of a list are kept, and the rows of those that are finished
pub record AreLives (m : Lives) (h : List Record) : Type 0 where
  pub attempts : AreAttempts m h
  pub rows : AreRows m.rows h
