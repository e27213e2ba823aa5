-- What the statements that drop the tables do.
use Rattle.std.proofs.Common.{◌≡◌, ℕ, List, [], slice_get, Some, None, false, Ok, Err, Result, OnOk, refl, ap, subst, ◌∙◌}
use Rattle.sqlite.proofs.Callers.{runs_as, statement_of}
use Rattle.sqlite.specs.declared.error.Error.{Error}
use Rattle.sqlite.specs.Does.{Does, Tally, is_acted_on}
use Rattle.sqlite.specs.Effect.{Database}
use Rattle.sqlite.specs.Listing.{understood}
use Rattle.sqlite.specs.State.{Executes, ExecutesInside, State, mode_of}
use Rattle.sqlite_catalog.specs.Change.{without_table}
use Rattle.sqlite_schema.specs.declared.command.Command.TheVariants.{DropTable}
use Rattle.sqlite_schema.specs.declared.schema.Keys.TheVariants.{Enforced}
use Rattle.sqlite_schema.specs.declared.schema.Schema.{Schema}
use Rattle.sqlite_schema.specs.declared.schema.Table.{Table}
use Rattle.qz_sqltables.specs.Rows.{no_tables}
use Rattle.qz_sqltables.specs.Schema.{HasTables, keeper_schema, no_schema, with_records, without_replies, without_steps}
use Rattle.qz_sqltables.specs.Statements.{Relists}
use Rattle.qz_sqltables.proofs.Texts.{IsDrop}
use Rattle.qz_sqltables.proofs.Writing.{same_value, uncounted, went}

module _ (schema : Schema) (text : List ℕ) (at : ℕ) (table : Table) (is : IsDrop schema text at) (listed : slice_get schema.tables at ≡ Some (uncounted table))
    (unacted : is_acted_on schema Enforced (uncounted table) ≡ false) where
  drops : (old new : State) (count : ℕ) → Executes text [] old new (Ok count) → Relists schema (without_table schema table.tree) old.now new.now
  drops old new count h has =
      let w = runs_as text [] old new schema has (DropTable at) is.command is.plain count h in
      let words = statement_of text (understood schema text) in
      let emptied = went (rw listed at (subst (λ s. Does old.step_limit (mode_of old) [] (record old.now { schema = s }) words None (DropTable at) (Ok (w.tally, new.now))) has w.changed)) in
      let uncounts = went emptied.2 in
      let tested = went uncounts.2 in
      let left = went tested.2 in
      ap (λ (p : Tally × Database). p.1.schema) (same_value left.2) ∙ left.1.0

  pub dropped : (old new : State) (r : Result ℕ Error) → ExecutesInside 0 text [] old new r → OnOk r (Relists schema (without_table schema table.tree) old.now new.now)
  dropped old new (Ok count) h = drops old new count h.0
  dropped old new (Err e) h = tt

module _ (a b c : Database) where
  pub all_dropped : (d e : Database) (r : Result ℕ Error) → Relists keeper_schema without_steps a b → Relists without_steps without_replies b c → Relists without_replies with_records c d
      → OnOk r (Relists with_records no_schema d e) → OnOk r (Relists keeper_schema no_schema a e)
  all_dropped d e (Ok count) steps replies attempts records = λ has. records (attempts (replies (steps has)))
  all_dropped d e (Err x) steps replies attempts records = tt

  pub remade : (r : Result ℕ Error) → Relists keeper_schema no_schema a b → OnOk r (b.schema ≡ no_schema → HasTables no_tables c) → OnOk r (a.schema ≡ keeper_schema → HasTables no_tables c)
  remade (Ok count) dropped made = λ has. made (dropped has)
  remade (Err e) dropped made = tt
