-- The first slot that a job has left.
use Rattle.std.specs.Prelude.{ℕ, Bool, List, Option, filter, is_some}
use Rattle.qz_grading.specs.declared.refusal.AttemptId.{AttemptId}
use Rattle.qz_terms.specs.declared.record.Record.{Record}
use Rattle.qz_terms.specs.History.{is_target, slot_count}
use Rattle.qz_terms.specs.Lists.{first_of, places_to}

-- the first slot of an attempt that a job has left
abbrev pub first_left : List Record → ℕ → ℕ → AttemptId → Option ℕ
first_left h job position a = first_of (filter (is_target h job position a) (places_to (slot_count h a)))

abbrev pub has_left : List Record → ℕ → ℕ → AttemptId → Bool
has_left h job position a = is_some (first_left h job position a)
