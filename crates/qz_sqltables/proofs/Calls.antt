-- What calls of a connection leave of what it shows, by what SQLite promises of them.
use Rattle.std.proofs.Common.{◌≡◌, inl, inr, ℕ, List, Option, None, Some, Ok, Err, Result, IsTrue, sym, ap, subst, ◌∙◌}
use Rattle.sqlite.proofs.Callers.{IsPlain}
use Rattle.sqlite.specs.Clock.{timed}
use Rattle.sqlite.specs.declared.error.Error.{Error}
use Rattle.sqlite.specs.Listing.{understood}
use Rattle.sqlite.specs.State.{ExecutesInside, FailsToQuery, FailsToShow, IsNotRun, IsRolledBack, IsUnchanged, KeepsCommit, Shown, ShowsRows, State}
use Rattle.sqlite_resolve.specs.declared.compiled.Compiled.{Compiled}
use Rattle.sqlite_schema.specs.declared.command.Returning.{Returning}
use Rattle.sqlite_schema.specs.declared.schema.Schema.{Schema}
use Rattle.sqlite_value.specs.Order.{Row}
use Rattle.qz_sqltables.specs.Statements.{StaysAsItWas}

-- ---- in a transaction

-- whatever becomes of a statement, the last commit stays
pub keeps_commit : (sql : List ℕ) (params : Row) (old new : State) (r : Result ℕ Error) → ExecutesInside 0 sql params old new r → KeepsCommit old new
keeps_commit sql params old new (Ok count) h = record { was_open = λ _. h.1.was_open; committed = λ _. h.1.committed_is }
keeps_commit sql params old new (Err e) (inl (ran, inl same)) = record { was_open = λ _. same.0.was_open; committed = λ _. same.0.committed_is }
keeps_commit sql params old new (Err e) (inl (ran, inr back)) = record { was_open = back.was_open; committed = λ still. (back.undone still).1 }
keeps_commit sql params old new (Err e) (inr ends) = record { was_open = λ _. ends.2.0.was_open; committed = λ _. ends.2.0.committed_is }

-- ---- outside one, what is shown is committed

module _ (old new : State) (settled : IsTrue old.is_open → old.now ≡ old.committed) where
  stays_same : IsUnchanged old new → StaysAsItWas old new
  stays_same same = record { was_open = λ _. same.0.was_open; same = λ _. same.0.now_is }

  stays_back : IsRolledBack old new → StaysAsItWas old new
  stays_back back = record { was_open = back.was_open; same = λ still. (back.undone still).0 ∙ sym (settled (back.was_open still)) }

  stays_shown : (sql : List ℕ) (c : Compiled) (params : Row) (e : Error) (returning : Option Returning) → FailsToShow old new sql c params e returning → StaysAsItWas old new
  stays_shown sql c params e None h = stays_same h.3
  stays_shown sql c params e (Some what) (inl h) = stays_same h.1
  stays_shown sql c params e (Some what) (inr h) = stays_back h.3

  -- a query that fails leaves what was shown
  pub stays_queried : (sql : List ℕ) (params : Row) (e : Error) → FailsToQuery sql params old new e → StaysAsItWas old new
  unfolding FailsToQuery IsNotRun
  stays_queried sql params e (inl (inl h)) = stays_same h.1
  stays_queried sql params e (inl (inr h)) = stays_back h.3
  stays_queried sql params e (inr h) = stays_shown sql h.0 (timed params h.0.formats h.1.now) e h.0.returning h.2

-- a query that shows its rows changes nothing
pub unchanged : (sql : List ℕ) (params : Row) (old new : State) (rows : List Row) (schema : Schema) → old.now.schema ≡ schema → IsPlain (understood schema sql) → Shown sql params old new rows → IsUnchanged old new
unfolding Shown
unchanged sql params old new rows schema has plain h =
    let bare = subst IsPlain (sym (ap (λ s. understood s sql) has) ∙ h.1.is) plain in
    let it = subst (ShowsRows old new sql h.0 (timed params h.0.formats h.1.now) rows) bare.0 h.2 in it.3
