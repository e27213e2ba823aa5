-- What an INSERT and an UPDATE do to a database, where no foreign key acts.
use Rattle.std.proofs.Common.{◌≡◌, ◌⊎◌, inl, inr, ℕ, List, [], slice_get, unwrap_or, Some, None, Ok, Err, Result, false, sym, ap, subst, ◌∙◌}
use Rattle.sqlite.proofs.Callers.{IsPlain, command_of, statement_of, runs_as, one_step}
use Rattle.sqlite.specs.Does.{Tally, Does}
use Rattle.sqlite.specs.Effect.{Answers, Database, IsSource}
use Rattle.sqlite.specs.Listing.{understood}
use Rattle.sqlite.specs.Rows.{Written, last_id, stamped}
use Rattle.sqlite.specs.State.{Executes, State, mode_of}
use Rattle.sqlite_rules.specs.Action.{works}
use Rattle.sqlite_rules.specs.Edit.{Applies, Edit, edit_of, taken_by}
use Rattle.sqlite_rules.specs.Calls.{ids_of}
use Rattle.sqlite_rules.specs.declared.error.Rowids.TheVariants.{Chosen, Given}
use Rattle.sqlite_schema.specs.declared.command.Command.TheVariants.{Insert, Update}
use Rattle.sqlite_schema.specs.declared.command.Source.{Source}
use Rattle.sqlite_schema.specs.declared.program.Program.{Program}
use Rattle.sqlite_schema.specs.declared.schema.Keys.TheVariants.{Enforced}
use Rattle.sqlite_schema.specs.declared.schema.Schema.{Schema}
use Rattle.sqlite_schema.specs.declared.schema.Table.{Table}
use Rattle.sqlite_value.specs.Order.{Row}

-- a part that gave a value did not stop on the way
pub went : {B E R : Type 0} {b : B} {Stops : E → Type 0} → ((stop : E) × Stops stop × (Ok b ≡ Err stop)) ⊎ R → R
went (inl stopped) = absurd (let e = stopped.2 in cc)
went (inr on) = on

pub same_value : {B E : Type 0} {a b : B} → ◌≡◌ {A = Result B E} (Ok a) (Ok b) → a ≡ b
same_value e = cc

-- the rows of the source are put behind those of the table
pub record Inserted (schema : Schema) (table : Table) (params : Row) (from : Source) (old new : State) : Type 0 where
  pub rows : List Row
  pub source : IsSource (record { schema = schema; trees = old.now.trees }) (stamped table params) from rows
  pub schema_is : new.now.schema ≡ schema
  pub applies : Applies schema Enforced old.now.trees (edit_of old.now.trees table [] Chosen 0 rows) new.now.trees
  pub last : new.last_rowid ≡ unwrap_or (last_id (edit_of old.now.trees table [] Chosen 0 rows).news) old.last_rowid

-- the rows of the answer take the place of those with their rowids
pub record Updated (schema : Schema) (table : Table) (params : Row) (q : Program) (old new : State) : Type 0 where
  pub rows : List Row
  pub answer : Answers (record { schema = schema; trees = old.now.trees }) q params rows
  pub schema_is : new.now.schema ≡ schema
  pub applies : Applies schema Enforced old.now.trees (edit_of old.now.trees table (ids_of rows) Given 1 rows) new.now.trees

-- a table without AUTOINCREMENT
abbrev pub uncounted : Table → Table
uncounted t = record t { is_counted = false }

module _ (schema : Schema) (at : ℕ) (table : Table) (listed : slice_get schema.tables at ≡ Some (uncounted table))
    (unmoved : (olds news : List Row) → works schema Enforced 0 table.tree olds news ≡ []) where
  pub inserts : (sql : List ℕ) (params : Row) (from : Source) (old new : State) (count : ℕ) → command_of (understood schema sql) ≡ Insert at from → IsPlain (understood schema sql)
      → old.now.schema ≡ schema → Executes sql params old new (Ok count) → Inserted schema (uncounted table) params from old new
  inserts sql params from old new count is plain has h =
      let db = old.now.trees in
      let w = runs_as sql params old new schema has (Insert at from) is plain count h in
      let text = statement_of sql (understood schema sql) in
      let done = went (rw listed at (subst (λ s. Does old.step_limit (mode_of old) params (record old.now { schema = s }) text None (Insert at from) (Ok (w.tally, new.now))) has w.changed)) in
      let both = same_value (went (went done.2).2).2 in
      let now = ap (λ (p : Tally × Database). p.1) both in
      let given = went done.1 in
      let written = went (went given.2).2 in
      let counted = went written.2 in
      let done_is = same_value counted.2 in
      let trees : done.0.trees ≡ written.0 = ap (λ (it : Written). it.trees) done_is ∙ same_value counted.1 in
      let edit : Edit = edit_of db (uncounted table) [] Chosen 0 given.0 in
      let step = one_step schema Enforced db written.0 edit (unmoved (taken_by db edit) edit.news) written.1 in
      record {
        rows = given.0;
        source = given.1;
        schema_is = ap (λ (d : Database). d.schema) now;
        applies = subst (Applies schema Enforced db edit) (sym (ap (λ (d : Database). d.trees) now ∙ trees)) step;
        last = w.last_rowid ∙ ap (λ o. unwrap_or o old.last_rowid) (ap (λ (p : Tally × Database). p.0.last) both ∙ ap (λ (it : Written). it.last) done_is);
      }

  pub updates : (sql : List ℕ) (params : Row) (q : Program) (old new : State) (count : ℕ) → command_of (understood schema sql) ≡ Update at q → IsPlain (understood schema sql)
      → old.now.schema ≡ schema → Executes sql params old new (Ok count) → Updated schema (uncounted table) params q old new
  updates sql params q old new count is plain has h =
      let db = old.now.trees in
      let w = runs_as sql params old new schema has (Update at q) is plain count h in
      let text = statement_of sql (understood schema sql) in
      let done = went (rw listed at (subst (λ s. Does old.step_limit (mode_of old) params (record old.now { schema = s }) text None (Update at q) (Ok (w.tally, new.now))) has w.changed)) in
      let now = ap (λ (p : Tally × Database). p.1) (same_value (went (went done.2).2).2) in
      let given = went done.1 in
      let written = went given.2 in
      let trees : done.0.trees ≡ written.0 = ap (λ (it : Written). it.trees) (same_value written.2) in
      let edit : Edit = edit_of db (uncounted table) (ids_of given.0) Given 1 given.0 in
      let step = one_step schema Enforced db written.0 edit (unmoved (taken_by db edit) edit.news) written.1 in
      record {
        rows = given.0;
        answer = given.1;
        schema_is = ap (λ (d : Database). d.schema) now;
        applies = subst (Applies schema Enforced db edit) (sym (ap (λ (d : Database). d.trees) now ∙ trees)) step;
      }
