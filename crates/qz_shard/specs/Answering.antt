-- What a shard promises itself of a request that it answers.
use Rattle.std.specs.Prelude.{◌≡◌, ℕ, true, List, None}
use Rattle.qz_terms.specs.declared.ask.Ask.{Ask}
use Rattle.qz_terms.specs.declared.people.User.{User}
use Rattle.qz_terms.specs.declared.plan.Plan.{Plan}
use Rattle.qz_terms.specs.declared.record.Record.{Record}
use Rattle.qz_terms.specs.declared.reply.Reply.{Reply}
use Rattle.qz_terms.specs.Answer.{answer_here, list_after}
use Rattle.qz_shard.specs.Holdings.{Holding, IsAsked, StartsHere, is_change, older}

-- a request that may be answered with this plan
pub record IsPosed (s : Holding) (now : ℕ) (user : User) (plan : Plan) (ask : Ask) : Type 0 where
  pub change : is_change ask.request ≡ true
  pub asked : IsAsked s.records plan ask now
  pub here : StartsHere s user plan ask.request
  pub newer : older s.records plan ask.request ≡ None

-- the reply is the answer, and the list is what it leaves
pub record IsAnswered (h : List Record) (now : ℕ) (user : User) (plan : Plan) (ask : Ask) (told : Reply) (g : List Record) : Type 0 where
  pub reply : told ≡ answer_here h now user plan ask
  pub list : g ≡ list_after h now user plan ask
