-- The jobs that are done, the floors of the quizzes, and the slots that jobs skipped.
use Rattle.std.specs.BTreeMap.{get}
use Rattle.std.specs.declared.cmp.Ordering.{Ordering}
use Rattle.std.specs.Ordering.{nat_cmp, ordering_then}
use Rattle.std.specs.Prelude.{◌≡◌, ℕ, Bool, false, List, IsSome, ⊤, None, Option, Some, unwrap_or, if◌then◌else◌}
use Rattle.qz_grading.specs.declared.refusal.AttemptId.{AttemptId}
use Rattle.qz_terms.specs.declared.record.Event.{Event}
use Rattle.qz_terms.specs.declared.record.Event.TheVariants as event
use Rattle.qz_terms.specs.declared.record.Record.{Record}
use Rattle.qz_terms.specs.Answer.{done_place}
use Rattle.qz_terms.specs.History.{floor, is_done, is_skipped}
use Rattle.qz_index.specs.declared.done.DoneJobs.{DoneJobs}
use Rattle.qz_index.specs.declared.floors.Floors.{Floors}
use Rattle.qz_index.specs.declared.skips.Skip.{Skip}
use Rattle.qz_index.specs.declared.skips.Skips.{Skips}

-- ---- jobs that are done

-- the place of the record that says so, if one does
abbrev pub done_in : List Record → ℕ → Option ℕ
done_in h job = if is_done h job then Some (done_place h job) else None

abbrev pub done_at : DoneJobs → ℕ → Option ℕ
done_at done job = unwrap_or (get nat_cmp done.places job) None

pub record AreDone (done : DoneJobs) (h : List Record) : Type 0 where
  pub each : (job : ℕ) → done_at done job ≡ done_in h job

abbrev pub HasDone : DoneJobs → Event → Type 0
HasDone done (event.JobDone job quiz position) = IsSome (get nat_cmp done.places job)
HasDone done e = ⊤

-- ---- floors

abbrev pub floor_at : Floors → ℕ → ℕ
floor_at floors q = unwrap_or (get nat_cmp floors.positions q) 0

pub record AreFloors (floors : Floors) (h : List Record) : Type 0 where
  pub each : (q : ℕ) → floor_at floors q ≡ floor h q

abbrev pub HasFloor : Floors → Event → Type 0
HasFloor floors (event.JobDone job quiz position) = IsSome (get nat_cmp floors.positions quiz)
HasFloor floors e = ⊤

-- ---- slots that are skipped

-- in order of job, user, attempt and slot
abbrev pub skip_cmp : Skip → Skip → Ordering
skip_cmp a b = ordering_then (nat_cmp a.job b.job) (ordering_then (nat_cmp a.user b.user) (ordering_then (nat_cmp a.nth b.nth) (nat_cmp a.slot b.slot)))

abbrev pub skip_of : ℕ → AttemptId → ℕ → Skip
skip_of job a k = record { job = job; user = a.user; nth = a.nth; slot = k }

abbrev pub skipped_at : Skips → ℕ → AttemptId → ℕ → Bool
skipped_at skips job a k = unwrap_or (get skip_cmp skips.skipped (skip_of job a k)) false

pub record AreSkipped (skips : Skips) (h : List Record) : Type 0 where
  pub each : (job : ℕ) (a : AttemptId) (k : ℕ) → skipped_at skips job a k ≡ is_skipped h job a k

abbrev pub HasSkip : Skips → Event → Type 0
HasSkip skips (event.Skipped job a k bound newer) = IsSome (get skip_cmp skips.skipped (skip_of job a k))
HasSkip skips e = ⊤
