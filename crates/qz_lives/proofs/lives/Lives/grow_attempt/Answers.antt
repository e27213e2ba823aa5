use Rattle.std.proofs.Common.{◌≡◌, subst, ℕ, Some, None, false, sym, ◌∙◌}
use Rattle.std.specs.Prelude.{is_some}
use Rattle.std.specs.BTreeMap.{Updates, get}
use Rattle.qz_lives.specs.Attempts.{by_number}
use Rattle.qz_lives.proofs.Keys.{grown}
use Rattle.qz_lives.proofs.lives.Lives.grow_attempt.Goals as goal

pub returns-in_ok-insert-clause-kept : goal.returns-in_ok-insert-clause-kept
returns-in_ok-insert-clause-kept c = grown c.args.self.now.attempts c.insert.new.self c.args.attempt None
    (subst (λ (k : ℕ × ℕ). Updates by_number c.args.self.now.attempts c.insert.new.self k (Some None)) c.key_of-key.ensures c.in_ok-insert.ensures.updates)
    (subst (λ (k : ℕ × ℕ). is_some (get by_number c.args.self.now.attempts k) ≡ false) c.key_of-key.ensures (sym c.contains_key.ensures ∙ c.if-not-contains_key.true))
