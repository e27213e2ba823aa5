-- What a transaction that doesn't end well leaves, by what SQLite promises of it.
use Rattle.std.proofs.Common.{◌≡◌, inl, inr, true, IsTrue, sym, ◌∙◌, true≢false}
use Rattle.sqlite.specs.declared.error.Error.{Error}
use Rattle.sqlite.specs.Held.{Held, state}
use Rattle.sqlite.specs.State.{IsRolledBack, KeepsCommit, State}
use Rattle.sqlite.specs.Steps.{FailsToCommit}
use Rattle.sqlite_trees.specs.declared.store.Store.{Ghosts}
use Rattle.qz_sqltables.specs.Statements.{StaysAsItWas}

module _ {S : Type 0} (g : Ghosts S) (h : Held S) (mid end : State) (settled : IsTrue (state g h).is_open → (state g h).now ≡ (state g h).committed)
    (kept : KeepsCommit (state g (record h { in_transaction = true })) mid) where
  pub stays_dropped : IsRolledBack mid end → StaysAsItWas (state g h) end
  stays_dropped back = record {
    was_open = λ still. kept.was_open (back.was_open still);
    same = λ still.
        let was = back.was_open still in (back.undone still).0 ∙ kept.committed was ∙ sym (settled (kept.was_open was));
  }

  pub stays_uncommitted : (e : Error) → IsTrue mid.in_transaction → FailsToCommit mid end e → StaysAsItWas (state g h) end
  stays_uncommitted e inside (inl fails) = stays_dropped fails.3
  stays_uncommitted e inside (inr late) = absurd (true≢false (sym inside ∙ late.1))
