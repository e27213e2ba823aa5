use Rattle.std.proofs.Common.{ℕ, ◌≤◌, inl, inr, subst}
use Rattle.qz_visit.specs.Tokens.{going, step}
use Rattle.qz_visit.proofs.tokens.shard_of.Goals as goal

pub returns-else-index-count-clause-beyond : goal.returns-else-index-count-clause-beyond
returns-else-index-count-clause-beyond c =
    let past = subst (λ (n : ℕ). c.args.count ≤ n) c.from-index.ensures c.if-index-count.false in
    elim c.in-Live.is [
      | inl w ↦ going c.in-Live.shard w.0 w.1 past
      | inr w ↦ step w.0 c.in-Live.shard w.1 past
    ]
