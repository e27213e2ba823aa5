use Rattle.std.proofs.Common.{subst, ℕ, Some}
use Rattle.std.specs.BTreeMap.{Updates}
use Rattle.qz_lives.specs.Attempts.{by_number}
use Rattle.qz_lives.proofs.Keys.{kept-in}
use Rattle.qz_lives.proofs.lives.Lives.keep.Goals as goal

pub returns : goal.returns
returns c = kept-in c.args.self.now c.insert.new.self c.args.attempt c.args.live (subst (λ (k : ℕ × ℕ). Updates by_number c.args.self.now.attempts c.insert.new.self k (Some (Some c.args.live))) c.key_of.ensures c.in-Ok.ensures.updates)
