-- What stays true while a job is worked in a shard.
use Rattle.std.specs.Prelude.{◌≡◌, ℕ, ◌≤◌, true, List, length, is_some, Some, None}
use Rattle.qz_grading.specs.declared.question.Question.{Question}
use Rattle.qz_grading.specs.Grading.{at_place}
use Rattle.qz_shard.specs.Holdings.{HasSlot}
use Rattle.qz_terms.specs.declared.people.Caller.{Caller}
use Rattle.qz_terms.specs.declared.people.User.{User}
use Rattle.qz_terms.specs.declared.plan.Job.{Job}
use Rattle.qz_terms.specs.declared.plan.Planned.{Planned}
use Rattle.qz_terms.specs.declared.record.Record.{Record}
use Rattle.qz_terms.specs.declared.request.Request.TheVariants as request
use Rattle.qz_terms.specs.Answer.{first_target, work_after}
use Rattle.qz_terms.specs.Catalog as catalog
use Rattle.qz_terms.specs.Cause.{missing_in}
use Rattle.qz_terms.specs.History as history
use Rattle.qz_terms.specs.Legal.{AllAgree, IsLegal, IsLegalCatalog}

-- A job that isn't missing is there. A version of its plan that a shard has learned has there the question learned. What a step of it
-- puts agrees with the catalogue, and its target has a slot in its plan. And no job that is done in a shard has a position past the catalogue's end, so that a plan over
-- all the catalogue's records is older than none.
pub record GoesOnWorking : Type 0 where
  pub there : (c : List Record) (number shard : ℕ) → IsLegalCatalog c → missing_in c (request.Work number shard) ≡ None
      → is_some (catalog.job c number) ≡ true
  pub known : (c h : List Record) (number k : ℕ) (job : Job) (s : Planned) (q x : Question)
      → IsLegalCatalog c → AllAgree c h → catalog.job c number ≡ Some job → at_place job.plan.slots k ≡ Some s
      → at_place job.plan.questions k ≡ Some q → history.version h s.entry s.version ≡ Some x → x ≡ q
  pub worked : (c h : List Record) (index count now : ℕ) (who : Caller) (user : User) (number : ℕ) (job : Job)
      → IsLegalCatalog c → IsLegal index count h → AllAgree c h → catalog.user_of c who ≡ Some user → catalog.job c number ≡ Some job
      → AllAgree c (work_after h now user.number job)
  pub slots : (c h : List Record) (index count number : ℕ) (job : Job)
      → IsLegalCatalog c → IsLegal index count h → AllAgree c h → catalog.job c number ≡ Some job → HasSlot h job (first_target h job)
  pub newer : (c h : List Record) (quiz : ℕ) → AllAgree c h → history.floor h quiz ≤ length c
