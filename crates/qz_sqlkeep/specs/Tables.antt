-- The four tables of a list of payloads.
use Rattle.std.specs.Prelude.{◌≡◌, ℕ, ◌+◌, List, [], ◌∷◌, filter_map, length, Option, Some, None, option_map, option_and_then}
use Rattle.std.specs.List.{AllZip, enumerate_from}
use Rattle.qz_grading.specs.declared.refusal.AttemptId.{AttemptId}
use Rattle.qz_grading.specs.Steps.{last_of}
use Rattle.qz_record.specs.Records.{IsRecord}
use Rattle.qz_terms.specs.declared.record.Event.{Event}
use Rattle.qz_terms.specs.declared.record.Event.TheVariants as event
use Rattle.qz_terms.specs.declared.record.How.{How}
use Rattle.qz_terms.specs.declared.record.How.TheVariants as how
use Rattle.qz_terms.specs.declared.record.Record.{Record}
use Rattle.qz_terms.specs.History.{Start, ends, started}
use Rattle.qz_terms.specs.Spelling.{spelling}
use Rattle.qz_sqltables.specs.Rows.{AttemptRow, ReplyRow, StepRow, Tables, with_attempt, with_payload, with_reply, with_status, with_step}

-- ---- what payloads spell

-- this record, or none
abbrev pub Spells : List ℕ → Option Record → Type 0
Spells payload None = (r : Record) → IsRecord r → payload ≡ spelling r → ⊥
Spells payload (Some r) = IsRecord r × (payload ≡ spelling r)

-- each payload of a list, in turn
abbrev pub SpellEach : List (List ℕ) → List (Option Record) → Type 0
SpellEach = AllZip Spells

-- ---- attempts

-- each item with those behind it
abbrev pub with_later : {A : Type 0} → List A → List (A × List A)
with_later [] = []
with_later (x ∷ xs) = (x, xs) ∷ with_later xs

abbrev pub status_of : Option How → ℕ
status_of None = 0
status_of (Some how.Finished) = 1
status_of (Some how.Abandoned) = 2

-- how the records behind its start ended an attempt, if they did
abbrev pub ending : AttemptId → List Record → Option How
ending a later = last_of (filter_map (ends a) later)

abbrev pub row_of_start : List Record → Start → AttemptRow
row_of_start later s = record { owner = s.attempt.user; nth = s.attempt.nth; quiz = s.quiz; status = status_of (ending s.attempt later) }

abbrev pub attempt_row : Record × List Record → Option AttemptRow
attempt_row p = option_map (row_of_start p.1) (started p.0)

-- a row for each start
abbrev pub attempt_rows : List Record → List AttemptRow
attempt_rows records = filter_map attempt_row (with_later records)

-- ---- steps and replies, by the places of their records, from 1

abbrev pub step_by : ℕ → Event → Option StepRow
step_by place (event.Acted a slot step) = Some (record { place = place; owner = a.user; nth = a.nth; slot = slot })
step_by place e = None

abbrev pub step_row : ℕ × Option Record → Option StepRow
step_row p = option_and_then (λ (r : Record). step_by p.0 r.event) p.1

abbrev pub reply_by : ℕ → Record → Option ReplyRow
reply_by place r = option_map (λ word. record { caller = r.caller; word = word; place = place }) r.key

abbrev pub reply_row : ℕ × Option Record → Option ReplyRow
reply_row p = option_and_then (reply_by p.0) p.1

-- ---- the tables

-- the tables of payloads that spell these
abbrev pub tables_of : List (List ℕ) → List (Option Record) → Tables
tables_of payloads spelled = record {
  payloads = payloads;
  attempts = attempt_rows (filter_map (λ o. o) spelled);
  steps = filter_map step_row (enumerate_from 1 spelled);
  replies = filter_map reply_row (enumerate_from 1 spelled);
}

-- ---- what one record changes

-- the tables with what an event brings, whose record stands at the place
abbrev pub with_event : Record → ℕ → Event → Tables → Tables
with_event r place (event.Started quiz nth behaviour bounds learned) = with_attempt (record { owner = r.owner; nth = nth; quiz = quiz; status = 0 })
with_event r place (event.Acted a slot step) = with_step (record { place = place; owner = a.user; nth = a.nth; slot = slot })
with_event r place (event.Ended a how) = with_status a.user a.nth (status_of (Some how))
with_event r place e = λ t. t

-- the tables with the key of a caller's request, if it had one
abbrev pub with_key : ℕ → ℕ → Option (List ℕ) → Tables → Tables
with_key caller place None t = t
with_key caller place (Some word) t = with_reply (record { caller = caller; word = word; place = place }) t

abbrev pub with_record : ℕ → Option Record → Tables → Tables
with_record place None t = t
with_record place (Some r) t = with_key r.caller place r.key (with_event r place r.event t)

-- the tables with one more payload, and what it spells
abbrev pub with_entry : List ℕ → Option Record → Tables → Tables
with_entry payload spelled t = with_record (length t.payloads + 1) spelled (with_payload payload t)
