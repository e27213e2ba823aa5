-- What a worker's request to a shard comes to.
use Rattle.std.specs.Prelude.{◌≡◌, ℕ, true, false, List, Some}
use Rattle.qz_terms.specs.declared.plan.Job.{Job}
use Rattle.qz_terms.specs.declared.record.Record.{Record}
use Rattle.qz_terms.specs.declared.reply.Reply.{Reply}
use Rattle.qz_terms.specs.Answer.{done_place, put_by_job, work_after, work_answer}
use Rattle.qz_terms.specs.History.{is_done}
use Rattle.qz_shard.specs.declared.working.Work.{Work}
use Rattle.qz_shard.specs.declared.working.Work.TheVariants as work

-- the job is done already, or this record is put
abbrev pub IsWork : List Record → ℕ → ℕ → Job → Work → Type 0
IsWork h now caller job (work.AlreadyDone place) = (is_done h job.number ≡ true) × (place ≡ done_place h job.number)
IsWork h now caller job (work.Put r) = (is_done h job.number ≡ false) × (put_by_job h now caller job ≡ Some r)

-- the reply is the answer, and the list is what it leaves
pub record IsWorked (h : List Record) (now caller : ℕ) (job : Job) (told : Reply) (g : List Record) : Type 0 where
  pub reply : told ≡ work_answer h now caller job
  pub list : g ≡ work_after h now caller job
