use Rattle.std.proofs.Common.{subst, ℕ, None}
use Rattle.std.specs.BTreeMap.{Updates}
use Rattle.qz_lives.specs.Attempts.{by_number}
use Rattle.qz_lives.proofs.Keys.{left}
use Rattle.qz_lives.proofs.lives.Lives.leave.Goals as goal

pub returns : goal.returns
returns c = left c.args.self.now c.remove.new.self c.args.attempt (subst (λ (k : ℕ × ℕ). Updates by_number c.args.self.now.going c.remove.new.self k None) c.key_of.ensures c.remove.ensures.updates)
