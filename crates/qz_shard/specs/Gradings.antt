-- How often a request grades at most.
use Rattle.std.specs.Prelude.{ℕ, ◌+◌, List, length, option_map, unwrap_or}
use Rattle.qz_grading.specs.declared.refusal.AttemptId.{AttemptId}
use Rattle.qz_terms.specs.declared.plan.Job.{Job}
use Rattle.qz_terms.specs.declared.record.Record.{Record}
use Rattle.qz_terms.specs.declared.request.Request.{Request}
use Rattle.qz_terms.specs.declared.request.Request.TheVariants as request
use Rattle.qz_terms.specs.Answer.{first_target}
use Rattle.qz_terms.specs.History.{slot_count, steps}

-- A submit, an again and a mark grade once, and the end of an attempt once for each slot. A start and a save don't grade.
abbrev pub most_gradings : List Record → Request → ℕ
most_gradings h (request.Submit attempt slot certainty response) = 1
most_gradings h (request.Again attempt slot) = 1
most_gradings h (request.Mark attempt slot mark) = 1
most_gradings h (request.Finish attempt) = slot_count h attempt
most_gradings h (request.Settle attempt) = slot_count h attempt
most_gradings h x = 0

-- work grades once for each step of the slot that it takes, and once more
abbrev pub most_of_work : List Record → Job → ℕ
most_of_work h job = unwrap_or (option_map (λ (t : AttemptId × ℕ). length (steps h t.0 t.1) + 1) (first_target h job)) 0
