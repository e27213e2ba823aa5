-- What the statements that make the tables do.
use Rattle.std.proofs.Common.{◌≡◌, ℕ, None, List, [], false, Ok, Err, Result, OnOk, refl, sym, ap, subst, ◌∙◌}
use Rattle.std.specs.List.{AllByRecursion}
use Rattle.sqlite.proofs.Callers.{runs_as}
use Rattle.sqlite.specs.declared.error.Error.{Error}
use Rattle.sqlite.specs.Does.{Tally, lacks_sequence}
use Rattle.sqlite.specs.Effect.{Database}
use Rattle.sqlite.specs.State.{ExecutesInside, State, Writes}
use Rattle.sqlite_catalog.specs.Change.{created, next_tree}
use Rattle.sqlite_keyed.proofs.ListLemmas.{all-append, all_both}
use Rattle.sqlite_schema.specs.declared.command.Command.TheVariants.{CreateTable}
use Rattle.sqlite_schema.specs.declared.schema.Schema.{Schema}
use Rattle.sqlite_schema.specs.declared.schema.Table.{Table}
use Rattle.sqlite_trees.specs.Tree.{Trees, no_trees}
use Rattle.qz_sqltables.specs.Rows.{no_tables}
use Rattle.qz_sqltables.specs.Schema.{HasTables, keeper_schema, no_schema, with_attempts, with_records, with_steps}
use Rattle.qz_sqltables.specs.Statements.{HasRows, Makes}
use Rattle.qz_sqltables.proofs.Texts.{Creates}
use Rattle.qz_sqltables.proofs.Writing.{same_value, went}

module _ (schema : Schema) (table : Table) (text : List ℕ) (is : Creates schema text table) (plain : lacks_sequence (created schema table) ≡ false) where
  -- a table more, which has no row
  creates : (old new : State) (count : ℕ) → ExecutesInside 0 text [] old new (Ok count) → Makes schema (created schema table) (next_tree schema) old.now new.now
  creates old new count h = record {
    makes = λ rows bare was.
        let w = subst (λ t. Writes old new None CreateTable t [] count) is.statement (runs_as text [] old new schema was.schema CreateTable is.command is.plain count h.0) in
        let all = went w.changed in
        let first = went all.1 in
        let made = first.1 in
        let both : ◌≡◌ {A = Result Table _} (Ok made.table) (Ok table) = sym made.defined ∙ is.defined in
        let same : made.table ≡ table = cc in
        let schema_is : first.0.schema ≡ created schema table = made.is ∙ ap (λ s. created s made.table) was.schema ∙ ap (created schema) same in
        let uncounted : lacks_sequence first.0.schema ≡ false = ap lacks_sequence schema_is ∙ plain in
        let now : new.now ≡ first.0 = ap (λ (p : Tally × Database). p.1) (same_value all.2) ∙ same_value (rw uncounted at first.2) in
        let others = subst (λ (s : Schema). AllByRecursion (λ (t : Table). first.0.trees t.tree ≡ old.now.trees t.tree) s.tables) was.schema made.others in
        let empty = subst (λ s. first.0.trees (next_tree s) ≡ []) was.schema made.empty in
        record {
          schema = ap (λ (d : Database). d.schema) now ∙ schema_is;
          each = subst (λ (d : Database). AllByRecursion (λ (t : Table). d.trees t.tree ≡ rows t.tree) (created schema table).tables) (sym now)
              (all-append (λ (t : Table). first.0.trees t.tree ≡ rows t.tree) schema.tables _
              (all_both _ (λ (t : Table). old.now.trees t.tree ≡ rows t.tree) (λ (t : Table). first.0.trees t.tree ≡ rows t.tree) (λ t a b. a ∙ b) schema.tables others was.each)
              (empty ∙ sym bare, tt));
        };
  }

  pub made : (old new : State) (r : Result ℕ Error) → ExecutesInside 0 text [] old new r → OnOk r (Makes schema (created schema table) (next_tree schema) old.now new.now)
  made old new (Ok count) h = creates old new count h
  made old new (Err e) h = tt

-- a database without tables
pub nothing_yet : (db : Database) → db.schema ≡ no_schema → HasRows no_schema no_trees db
nothing_yet db none = record { schema = none; each = tt }

pub no_rows_yet : (db : Database) → HasRows keeper_schema no_trees db → HasTables no_tables db
no_rows_yet db has = record { schema = has.schema; records = has.each.0; attempts = has.each.1.0; steps = has.each.1.1.0; replies = has.each.1.1.1.0; apart = tt; risen = tt }

module _ (a b c : Database) where
  pub others_made : (d : Database) (r : Result ℕ Error) → Makes with_records with_attempts 1 a b → Makes with_attempts with_steps 3 b c → OnOk r (Makes with_steps keeper_schema 4 c d)
      → OnOk r ((rows : Trees) → rows 1 ≡ [] → rows 3 ≡ [] → rows 4 ≡ [] → HasRows with_records rows a → HasRows keeper_schema rows d)
  others_made d (Ok count) first second third = λ rows one three four has. third.makes rows four (second.makes rows three (first.makes rows one has))
  others_made d (Err e) first second third = tt

  pub all_made : (r : Result ℕ Error) → Makes no_schema with_records 0 a b
      → OnOk r ((rows : Trees) → rows 1 ≡ [] → rows 3 ≡ [] → rows 4 ≡ [] → HasRows with_records rows b → HasRows keeper_schema rows c) → OnOk r (a.schema ≡ no_schema → HasTables no_tables c)
  all_made (Ok count) first others = λ none. no_rows_yet c (others no_trees refl refl refl (first.makes no_trees refl (nothing_yet a none)))
  all_made (Err e) first others = tt
