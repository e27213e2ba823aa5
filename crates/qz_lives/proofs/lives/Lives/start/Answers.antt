use Rattle.std.proofs.Common.{subst, ℕ, Some, true}
use Rattle.std.specs.BTreeMap.{Updates}
use Rattle.qz_lives.specs.Attempts.{by_number}
use Rattle.qz_lives.proofs.Keys.{begun-in}
use Rattle.qz_lives.proofs.lives.Lives.start.Goals as goal

pub returns-clause-becomes : goal.returns-clause-becomes
returns-clause-becomes c = begun-in c.args.self.now c.keep.new.self c.insert.new.self c.args.attempt c.args.live c.keep.ensures (subst (λ (k : ℕ × ℕ). Updates by_number c.keep.new.self.going c.insert.new.self k (Some true)) c.key_of.ensures c.in-Ok.ensures.updates)
