-- How far jobs have come through the attempts of their quizzes.
use Rattle.std.specs.BTreeMap.{get}
use Rattle.std.specs.Ordering.{nat_cmp}
use Rattle.std.specs.Prelude.{◌≡◌, ℕ, ◌-◌, false, not, ◌&&◌, ◌==◌, List, nat_lt, if◌then◌else◌, None, Option, Some, option_and_then, option_map, unwrap_or}
use Rattle.qz_grading.specs.declared.refusal.AttemptId.{AttemptId}
use Rattle.qz_terms.specs.declared.record.Event.{Event}
use Rattle.qz_terms.specs.declared.record.Event.TheVariants as event
use Rattle.qz_terms.specs.declared.record.Record.{Record}
use Rattle.qz_terms.specs.declared.record.Terms.{Terms}
use Rattle.qz_terms.specs.History.{attempt_before, quiz}
use Rattle.qz_book.specs.declared.cursors.Cursor.{Cursor}
use Rattle.qz_book.specs.declared.cursors.Cursors.{Cursors}
use Rattle.qz_book.specs.Targets.{has_left}

-- no slot of an attempt of the quiz up to this one is left to the job
pub record IsPassed (h : List Record) (q job position : ℕ) (passed : AttemptId) : Type 0 where
  pub none_left : (a : AttemptId) → quiz h a ≡ Some q → attempt_before passed a ≡ false → has_left h job position a ≡ false

abbrev pub cursor_of : ℕ → AttemptId → Cursor
cursor_of position passed = record { position = position; passed = passed }

-- it comes before all attempts
abbrev pub front : AttemptId
front = record { user = 0; nth = 0 }

abbrev pub cursor_at : Cursors → ℕ → ℕ → Option Cursor
cursor_at cursors q job = option_and_then (λ track. get nat_cmp track.jobs job) (get nat_cmp cursors.quizzes q)

-- how far a job with this position has come; a cursor at another position tells nothing of that
abbrev pub passed_by : ℕ → Option Cursor → AttemptId
passed_by position None = front
passed_by position (Some c) = if c.position == position then c.passed else front

-- what each cursor tells is so
pub record AreCursors (cursors : Cursors) (h : List Record) : Type 0 where
  pub each : (q job : ℕ) (c : Cursor) → cursor_at cursors q job ≡ Some c → IsPassed h q job c.position c.passed

-- ---- a record that is put

-- the position of a start's plan
abbrev pub plan_position : Record → ℕ
plan_position r = unwrap_or (option_map (λ (t : Terms). t.at) r.terms) 0

-- the last place before an attempt
abbrev pub place_before : AttemptId → AttemptId
place_before a = record { user = a.user; nth = a.nth - 1 }

-- a cursor goes back before an attempt that starts behind it under a plan older than the job
abbrev pub moved_back : AttemptId → ℕ → Cursor → Cursor
moved_back a plan c = if nat_lt plan c.position && not (attempt_before c.passed a) then cursor_of c.position (place_before a) else c

abbrev pub followed_by : Record → ℕ → ℕ → Event → Option Cursor → Option Cursor
followed_by r q job (event.Started quiz nth behaviour bounds learned) o = if quiz == q then option_map (moved_back (record { user = r.owner; nth = nth }) (plan_position r)) o else o
followed_by r q job (event.JobDone j quiz position) o = if (quiz == q) && (j == job) then None else o
followed_by r q job e o = o

-- what becomes of a job's cursor where a record is put
abbrev pub followed : Record → ℕ → ℕ → Option Cursor → Option Cursor
followed r q job o = followed_by r q job r.event o
