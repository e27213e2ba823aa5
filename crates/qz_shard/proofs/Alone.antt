-- A reply that is the answer over the shard's list is the student's answer over each list that is alike.
use Rattle.std.proofs.Common.{◌≡◌, ℕ, inl, inr, List, ap, ◌∙◌}
use Rattle.qz_grading.specs.declared.refusal.Refusal.TheVariants as refusal
use Rattle.qz_terms.specs.declared.ask.Ask.{Ask}
use Rattle.qz_terms.specs.declared.people.User.{User}
use Rattle.qz_terms.specs.declared.plan.Plan.{Plan}
use Rattle.qz_terms.specs.declared.record.Record.{Record}
use Rattle.qz_terms.specs.declared.reply.Reply.{Reply}
use Rattle.qz_terms.specs.declared.reply.Reply.TheVariants as reply
use Rattle.qz_terms.specs.Answer.{answer_here}
use Rattle.qz_isolation.proofs.Answering.{isolation_law}
use Rattle.qz_shard.specs.Answering.{IsAnswered}
use Rattle.qz_shard.specs.Holdings.{Holding, IsAlone}

pub answered_alone : (s : Holding) (h : List Record) (now : ℕ) (user : User) (plan : Plan) (ask : Ask) (told reply : Reply) (g : List Record) → h ≡ s.records → IsAnswered h now user plan ask told g → reply ≡ told → IsAlone s now user plan ask reply
answered_alone s h now user plan ask told reply g list answered is = record {
  alone = λ other student alike.
      inl (is ∙ answered.reply ∙ ap (λ (l : List Record). answer_here l now user plan ask) list ∙ isolation_law.reply s.index s.count now s.records other user plan ask student alike);
}

pub wanting_alone : (s : Holding) (now : ℕ) (user : User) (plan : Plan) (ask : Ask) (told : Reply) → told ≡ reply.Refused refusal.Memory → IsAlone s now user plan ask told
wanting_alone s now user plan ask told is = record { alone = λ other student alike. inr is }
