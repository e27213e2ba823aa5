-- That a step of a job finds its target's slot in the job's plan.
use Rattle.std.specs.Prelude.{◌≡◌, ℕ, true, List, Some, is_some}
use Rattle.qz_grading.specs.declared.refusal.AttemptId.{AttemptId}
use Rattle.qz_terms.specs.declared.plan.Job.{Job}
use Rattle.qz_terms.specs.declared.record.Record.{Record}
use Rattle.qz_terms.specs.Answer.{first_target, target_event}
use Rattle.qz_terms.specs.Catalog as catalog
use Rattle.qz_terms.specs.Legal.{AllAgree, IsLegal, IsLegalCatalog}

-- The target that a step of a job takes has its slot and its question in the job's plan, in each shard that agrees with the
-- catalogue that has the job. So it is bound anew or skipped.
pub record StepsFindTheirSlots : Type 0 where
  pub found : (c h : List Record) (index count number : ℕ) (job : Job) (target : AttemptId × ℕ)
      → IsLegalCatalog c → IsLegal index count h → AllAgree c h → catalog.job c number ≡ Some job
      → first_target h job ≡ Some target → is_some (target_event h job target) ≡ true
