use Rattle.std.proofs.Common.{subst, ℕ, Some, None}
use Rattle.std.specs.BTreeMap.{Updates}
use Rattle.qz_lives.specs.Attempts.{by_number}
use Rattle.qz_lives.proofs.Keys.{taken-out}
use Rattle.qz_lives.proofs.lives.Lives.take.Goals as goal

pub returns-clause-rest : goal.returns-clause-rest
returns-clause-rest c = taken-out c.args.self.now c.insert.new.self c.args.attempt (subst (λ (k : ℕ × ℕ). Updates by_number c.args.self.now.attempts c.insert.new.self k (Some None)) c.key_of.ensures c.in-Ok-Some-Some.ensures.updates)
