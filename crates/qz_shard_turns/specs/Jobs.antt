-- What may be worked in a shard in a turn, of a job that was read before.
use Rattle.std.specs.Prelude.{◌≡◌, ℕ, true, List, Option, Some}
use Rattle.qz_catalog.specs.Keeping.{IsJob}
use Rattle.qz_catalog_turns.specs.declared.replied.Replied.{Replied}
use Rattle.qz_catalog_turns.specs.Owning.{CallReplies}
use Rattle.qz_catalog_turns.specs.Turning.{tale_of}
use Rattle.qz_shard.specs.Keeping as part
use Rattle.qz_shard.specs.Works.{IsWorked}
use Rattle.qz_terms.specs.declared.people.Caller.{Caller}
use Rattle.qz_terms.specs.declared.people.User.{User}
use Rattle.qz_terms.specs.declared.plan.Job.{Job}
use Rattle.qz_terms.specs.declared.record.Record.{Record}
use Rattle.qz_terms.specs.declared.reply.Reply.TheVariants as reply
use Rattle.qz_terms.specs.Catalog.{user_of}
use Rattle.qz_terms.specs.Kept.{is_moment}
use Rattle.qz_terms.specs.Legal.{IsLegal, IsLegalCatalog}

-- the catalogue has this job, and knows who asks
pub record CanWork (c : List Record) (caller : ℕ) (job : Job) (moment : ℕ) : Type 0 where
  pub legal : IsLegalCatalog c
  pub number : ℕ
  pub job_is : IsJob c number job
  pub who : Caller
  pub user : User
  pub known : user_of c who ≡ Some user
  pub caller_is : user.number ≡ caller
  pub in_range : is_moment moment ≡ true

-- what an errand that took a step of a job did to a shard, and what it replied
pub record DidWork {K : Type 0} (faults : K → ℕ) (moment caller : ℕ) (job : Job) (before after : part.Keeping K) (told : Option Replied) : Type 0 where
  pub replied : Replied
  pub told_is : told ≡ Some replied
  pub comes : CallReplies (IsLegal before.index before.count) reply.Refused (λ h told g. IsWorked h moment caller job told g) (tale_of before.held (faults before.keeper)) (tale_of after.held (faults after.keeper)) replied.reply replied.own
