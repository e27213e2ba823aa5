-- What the statements that write do to the tables.
use Rattle.std.proofs.Common.{◌≡◌, ℕ, ℤ, ◌+◌, ◌≤◌, pos, List, [], ◌∷◌, ◌++◌, map, filter, fold, length, unwrap_or, ◌==◌, Bool, true, false, Ok, Err, Result, refl, sym, ap, subst, ◌∙◌, arith, OnOk}
use Rattle.std.proofs.lemmas.Bool.{and_parts}
use Rattle.std.proofs.lemmas.Bool.Decides.{nat_tests}
use Rattle.std.specs.List.{enumerate_from, filter_map, flat_map}
use Rattle.sqlite.specs.Rows.{last_id}
use Rattle.sqlite.specs.State.{Executes, ExecutesInside, State}
use Rattle.sqlite.specs.declared.error.Error.{Error}
use Rattle.sqlite_keyed.specs.Keyed.{insert_by}
use Rattle.sqlite_keyed.specs.Lists.{update_where, without_key}
use Rattle.sqlite_keyed.specs.Rules.{AreApart}
use Rattle.sqlite_keyed.proofs.KeyedLemmas.{IsKeyedBy-insert_by}
use Rattle.sqlite_keyed.proofs.ListLemmas.{map-map}
use Rattle.sqlite_keyed.proofs.RuleLemmas.{apart_update}
use Rattle.sqlite_keyed.proofs.WriteLemmas.{puts_update}
use Rattle.sqlite_rules.specs.Action.{pairs, work_by, works}
use Rattle.sqlite_rules.specs.Action as action
use Rattle.sqlite_rules.specs.Cast.{cast_row}
use Rattle.sqlite_rules.specs.Edit.{edit_of, edited, numbered, put_all}
use Rattle.sqlite_rules.specs.Calls.{ids_of}
use Rattle.sqlite_rules.specs.declared.error.Rowids.TheVariants.{Chosen, Given}
use Rattle.sqlite_schema.specs.declared.command.Source.TheVariants.{Values}
use Rattle.sqlite_schema.specs.declared.schema.Constraint.TheVariants.{Unique}
use Rattle.sqlite_schema.specs.declared.schema.Keys.TheVariants.{Enforced}
use Rattle.sqlite_schema.specs.Rules.{parent_key}
use Rattle.sqlite_sql.specs.Program.{overlay}
use Rattle.sqlite_sql.specs.Query.{IsAnswer, Output, output}
use Rattle.sqlite_trees.specs.Tree.{Trees, put_row, without_rowid}
use Rattle.sqlite_typed.proofs.AnswerLemmas.{at_end, last_table, matches_are}
use Rattle.sqlite_typed.proofs.RowLemmas.{deletes-map, puts-map}
use Rattle.sqlite_typed.proofs.TestLemmas.{last_term, then_term}
use Rattle.sqlite_value.specs.declared.value.Value.TheVariants.{Null, Int, Text, Blob}
use Rattle.sqlite_value.specs.Order.{Row}
use Rattle.qz_sqltables.specs.Rows.{AttemptRow, ReplyRow, StepRow, Tables, ended_at, is_of, place_of, same_attempt, set_status, with_attempt, with_reply, with_status, with_step}
use Rattle.qz_sqltables.specs.Schema.{attempt_cells, attempts_at, keeper_schema, numbered_row, numbered_rows, payload_cells, record_table, replies_at, reply_cells, step_cells, steps_at}
use Rattle.qz_sqltables.specs.Statements.{PutsPayload, Turns}
use Rattle.qz_sqltables.proofs.Apart.{Counted, apart_by_key, apart_counted, clash}
use Rattle.qz_sqltables.proofs.Lists.{at_most_one, one_order, put_again, update-enumerate}
use Rattle.qz_sqltables.proofs.Numbered.{next_after, number_of, numbers_rise, puts_next}
use Rattle.qz_sqltables.proofs.Texts.{act_is, act_plain, act_terms, act_text, end_is, end_plain, end_query, end_text, put_is, put_plain, put_terms, put_text, reply_is, reply_plain, reply_put_text, reply_terms, start_is, start_plain, start_terms, start_text}
use Rattle.qz_sqltables.proofs.Values.{cast_int, cast_null, equals_given}
use Rattle.qz_sqltables.proofs.Writing.{inserts, updates}

-- the one foreign key acts on nothing
unmoved : (tree : ℕ) (olds news : List Row) → works keeper_schema Enforced 0 tree olds news ≡ []
unmoved tree olds news =
    elim (length news == 0) as (λ b. flat_map (λ child. filter_map (λ ref. work_by 0 tree (pairs olds news) child ref (action.deed_for Enforced b ref) (parent_key keeper_schema.tables ref)) child.references) keeper_schema.tables ≡ [])
    [ true ↦ refl | false ↦ refl ]

-- ---- `record`

pub puts : (old new : State) (payload : List ℕ) (count : ℕ) → Executes put_text (Blob payload ∷ []) old new (Ok count) → PutsPayload payload new.last_rowid old new
puts old new payload count h = record {
  puts = record {
    turns = λ t has.
        let it = inserts keeper_schema 0 record_table refl (unmoved 0) put_text (Blob payload ∷ []) (Values put_terms 3) old new count put_is put_plain has.schema h in
        let edit : edited old.now.trees (edit_of old.now.trees record_table [] Chosen 0 it.rows) ≡ numbered_rows payload_cells (t.payloads ++ payload ∷ []) =
        ap (λ all. edited old.now.trees (edit_of old.now.trees record_table [] Chosen 0 all)) it.source.1 ∙ rw (has.records, cast_null) (puts_next payload_cells t.payloads payload) in
        record {
          schema = it.schema_is;
          records = it.applies.rows ∙ edit;
          attempts = it.applies.tables.1.0 (λ e. omega (arith, e)) ∙ has.attempts;
          steps = it.applies.tables.1.1.0 (λ e. omega (arith, e)) ∙ has.steps;
          replies = it.applies.tables.1.1.1.0 (λ e. omega (arith, e)) ∙ has.replies;
          apart = has.apart;
          risen = has.risen;
        };
  };
  at = λ t has.
      let it = inserts keeper_schema 0 record_table refl (unmoved 0) put_text (Blob payload ∷ []) (Values put_terms 3) old new count put_is put_plain has.schema h in
      let e : 1 + length t.payloads ≡ length t.payloads + 1 = omega arith in
      it.last ∙ ap (λ all. unwrap_or (last_id (edit_of old.now.trees record_table [] Chosen 0 all).news) old.last_rowid) it.source.1
      ∙ rw (has.records, cast_null) (next_after payload_cells 1 t.payloads) ∙ ap pos e;
}

-- ---- `attempt`

attempt_cast : (o n q s : ℤ) → cast_row attempts_at (Null ∷ Int o ∷ Int n ∷ Int q ∷ Int s ∷ []) ≡ Null ∷ Int o ∷ Int n ∷ Int q ∷ Int s ∷ []
attempt_cast o n q s = rw (cast_null, cast_int o, cast_int n, cast_int q, cast_int s) refl

pub starts : (old new : State) (owner nth quiz : ℕ) (count : ℕ) → Executes start_text (Int (pos owner) ∷ Int (pos nth) ∷ Int (pos quiz) ∷ []) old new (Ok count)
    → Turns (with_attempt (record { owner = owner; nth = nth; quiz = quiz; status = 0 })) old.now new.now
starts old new owner nth quiz count h = record {
  turns = λ t has.
      let a : AttemptRow = record { owner = owner; nth = nth; quiz = quiz; status = 0 } in
      let params : Row = Int (pos owner) ∷ Int (pos nth) ∷ Int (pos quiz) ∷ [] in
      let it = inserts keeper_schema 1 attempts_at refl (unmoved 1) start_text params (Values start_terms 5) old new count start_is start_plain has.schema h in
      let rows = old.now.trees 1 in
      let edit : edited old.now.trees (edit_of old.now.trees attempts_at [] Chosen 0 it.rows) ≡ numbered_rows attempt_cells (t.attempts ++ a ∷ []) =
      ap (λ all. edited old.now.trees (edit_of old.now.trees attempts_at [] Chosen 0 all)) it.source.1
      ∙ ap (λ r. put_all rows (numbered Chosen rows (r ∷ []))) (attempt_cast (pos owner) (pos nth) (pos quiz) (pos 0))
      ∙ ap (λ l. put_all l (numbered Chosen l ((Null ∷ attempt_cells a) ∷ []))) has.attempts ∙ puts_next attempt_cells t.attempts a in
      let stands = it.applies.rows ∙ edit in
      record {
        schema = it.schema_is;
        records = it.applies.tables.0 (λ e. omega (arith, e)) ∙ has.records;
        attempts = stands;
        steps = it.applies.tables.1.1.0 (λ e. omega (arith, e)) ∙ has.steps;
        replies = it.applies.tables.1.1.1.0 (λ e. omega (arith, e)) ∙ has.replies;
        apart = apart_by_key _ new.now.trees stands (it.applies.fits.rules Unique (λ e. cc)).1.0;
        risen = has.risen;
      };
}

-- ---- `step`

step_cast : (p o n k : ℤ) → cast_row steps_at (Int p ∷ Null ∷ Int o ∷ Int n ∷ Int k ∷ []) ≡ Int p ∷ Null ∷ Int o ∷ Int n ∷ Int k ∷ []
step_cast p o n k = rw (cast_null, cast_int p, cast_int o, cast_int n, cast_int k) refl

pub acts : (old new : State) (place owner nth slot : ℕ) (count : ℕ) → Executes act_text (Int (pos place) ∷ Int (pos owner) ∷ Int (pos nth) ∷ Int (pos slot) ∷ []) old new (Ok count)
    → Turns (with_step (record { place = place; owner = owner; nth = nth; slot = slot })) old.now new.now
acts old new place owner nth slot count h = record {
  turns = λ t has.
      let s : StepRow = record { place = place; owner = owner; nth = nth; slot = slot } in
      let params : Row = Int (pos place) ∷ Int (pos owner) ∷ Int (pos nth) ∷ Int (pos slot) ∷ [] in
      let it = inserts keeper_schema 2 steps_at refl (unmoved 3) act_text params (Values act_terms 5) old new count act_is act_plain has.schema h in
      let rows = old.now.trees 3 in
      let edit : edited old.now.trees (edit_of old.now.trees steps_at [] Chosen 0 it.rows) ≡ map step_cells (insert_by place_of t.steps s) =
      ap (λ all. edited old.now.trees (edit_of old.now.trees steps_at [] Chosen 0 all)) it.source.1
      ∙ ap (λ r. put_all rows (numbered Chosen rows (r ∷ []))) (step_cast (pos place) (pos owner) (pos nth) (pos slot))
      ∙ ap (put_row (step_cells s)) has.steps ∙ puts-map place_of step_cells (λ _. refl) (s ∷ []) t.steps in
      record {
        schema = it.schema_is;
        records = it.applies.tables.0 (λ e. omega (arith, e)) ∙ has.records;
        attempts = it.applies.tables.1.0 (λ e. omega (arith, e)) ∙ has.attempts;
        steps = it.applies.rows ∙ edit;
        replies = it.applies.tables.1.1.1.0 (λ e. omega (arith, e)) ∙ has.replies;
        apart = has.apart;
        risen = IsKeyedBy-insert_by place_of t.steps s has.risen;
      };
}

-- ---- `reply`

reply_cast : (c p : ℤ) (word : List ℕ) → cast_row replies_at (Null ∷ Int c ∷ Text word ∷ Int p ∷ []) ≡ Null ∷ Int c ∷ Text word ∷ Int p ∷ []
reply_cast c p word = rw (cast_null, cast_int c, cast_int p) refl

pub replies : (old new : State) (caller : ℕ) (word : List ℕ) (place : ℕ) (count : ℕ) → Executes reply_put_text (Int (pos caller) ∷ Text word ∷ Int (pos place) ∷ []) old new (Ok count)
    → Turns (with_reply (record { caller = caller; word = word; place = place })) old.now new.now
replies old new caller word place count h = record {
  turns = λ t has.
      let r : ReplyRow = record { caller = caller; word = word; place = place } in
      let params : Row = Int (pos caller) ∷ Text word ∷ Int (pos place) ∷ [] in
      let it = inserts keeper_schema 3 replies_at refl (unmoved 4) reply_put_text params (Values reply_terms 4) old new count reply_is reply_plain has.schema h in
      let rows = old.now.trees 4 in
      let edit : edited old.now.trees (edit_of old.now.trees replies_at [] Chosen 0 it.rows) ≡ numbered_rows reply_cells (t.replies ++ r ∷ []) =
      ap (λ all. edited old.now.trees (edit_of old.now.trees replies_at [] Chosen 0 all)) it.source.1
      ∙ ap (λ x. put_all rows (numbered Chosen rows (x ∷ []))) (reply_cast (pos caller) (pos place) word)
      ∙ ap (λ l. put_all l (numbered Chosen l ((Null ∷ reply_cells r) ∷ []))) has.replies ∙ puts_next reply_cells t.replies r in
      record {
        schema = it.schema_is;
        records = it.applies.tables.0 (λ e. omega (arith, e)) ∙ has.records;
        attempts = it.applies.tables.1.0 (λ e. omega (arith, e)) ∙ has.attempts;
        steps = it.applies.tables.1.1.0 (λ e. omega (arith, e)) ∙ has.steps;
        replies = it.applies.rows ∙ edit;
        apart = has.apart;
        risen = has.risen;
      };
}

-- ---- the end of an attempt

module _ (owner nth status : ℕ) (t : Tables) (db : Trees) (stored : db 1 ≡ numbered_rows attempt_cells t.attempts) (apart : AreApart same_attempt t.attempts) where
  abbrev counted : List Counted
  counted = enumerate_from 1 t.attempts

  abbrev fits : Counted → Bool
  fits n = is_of owner nth n.1

  abbrev set : Counted → Counted
  set n = (n.0, set_status status n.1)

  abbrev params : Row
  params = Int (pos status) ∷ Int (pos owner) ∷ Int (pos nth) ∷ []

  -- a row as the query shows it: its rowid, and then the new row
  abbrev shown_new : Counted → Row
  shown_new n = Int (number_of n) ∷ numbered_row attempt_cells (set n)

  few : length (filter fits counted) ≤ 1
  few =
      at_most_one clash fits
      (λ x y p q.
      let a = and_parts (x.1.owner == owner) (x.1.nth == nth) p in
      let b = and_parts (y.1.owner == owner) (y.1.nth == nth) q in
      grind (arith, nat_tests, a.0, a.1, b.0, b.1))
      counted (apart_counted t.attempts apart)

  shows : (rows : List Row) → IsAnswer end_query (overlay db []) params rows → rows ≡ map shown_new (filter fits counted)
  shows rows answer =
      let source = last_table (overlay db []) 1 (numbered_row attempt_cells) number_of counted stored (numbers_rise 1 t.attempts) (at_end (overlay db [])) in
      let tests = λ (n : Counted). then_term (equals_given n.1.owner owner) (last_term (equals_given n.1.nth nth)) in
      let all = matches_are end_query (overlay db []) params source fits tests in
      let outs = answer.distinct ∙ ap (map (output end_query)) (answer.grouped ∙ all) ∙ map-map (output end_query) _ (filter fits counted) in
      let one = one_order _ answer.ordered (rw (outs, Rattle.std.proofs.lemmas.List.length-map) few) answer.same in
      answer.shown ∙ ap (map (λ (o : Output). o.1)) (one ∙ outs) ∙ map-map (λ (o : Output). o.1) _ (filter fits counted)

  new_cast : (n : Counted) → cast_row attempts_at (numbered_row attempt_cells (set n)) ≡ numbered_row attempt_cells (set n)
  new_cast n = rw (cast_int (pos n.0), cast_int (pos n.1.owner), cast_int (pos n.1.nth), cast_int (pos n.1.quiz), cast_int (pos status)) refl

  -- one row at most is taken out, and stands again at its place
  put_back : (found : List Counted) → length found ≤ 1 → filter fits counted ≡ found
      → edited db (edit_of db attempts_at (ids_of (map shown_new found)) Given 1 (map shown_new found)) ≡ map (numbered_row attempt_cells) (update_where fits set counted)
  put_back [] low is = stored ∙ ap (map (numbered_row attempt_cells)) (sym (ap (λ l. fold (insert_by number_of) counted (map set l)) is) ∙ puts_update number_of fits set (λ _. refl) counted (numbers_rise 1 t.attempts))
  put_back (x ∷ []) low is =
      let row = numbered_row attempt_cells (set x) in
      let updated = ap (λ l. fold (insert_by number_of) counted (map set l)) (sym is) ∙ puts_update number_of fits set (λ _. refl) counted (numbers_rise 1 t.attempts) in
      ap (λ r. put_row r (without_rowid (number_of x) (db 1))) (new_cast x)
      ∙ ap (λ l. put_row row (without_rowid (number_of x) l)) stored
      ∙ ap (put_row row) (deletes-map number_of (numbered_row attempt_cells) (λ _. refl) (number_of x ∷ []) counted)
      ∙ puts-map number_of (numbered_row attempt_cells) (λ _. refl) (set x ∷ []) (without_key number_of counted (number_of x))
      ∙ ap (map (numbered_row attempt_cells)) (put_again number_of counted (set x) (numbers_rise 1 t.attempts) ∙ updated)
  put_back (x ∷ y ∷ more) low is = absurd (omega arith)

  pub ends_there : (rows : List Row) → IsAnswer end_query (overlay db []) params rows
      → edited db (edit_of db attempts_at (ids_of rows) Given 1 rows) ≡ numbered_rows attempt_cells (ended_at owner nth status t.attempts)
  ends_there rows answer =
      ap (λ l. edited db (edit_of db attempts_at (ids_of l) Given 1 l)) (shows rows answer) ∙ put_back (filter fits counted) few refl
      ∙ ap (map (numbered_row attempt_cells)) (update-enumerate (is_of owner nth) (set_status status) 1 t.attempts)

pub ends : (old new : State) (owner nth status : ℕ) (count : ℕ) → Executes end_text (Int (pos status) ∷ Int (pos owner) ∷ Int (pos nth) ∷ []) old new (Ok count)
    → Turns (with_status owner nth status) old.now new.now
ends old new owner nth status count h = record {
  turns = λ t has.
      let params : Row = Int (pos status) ∷ Int (pos owner) ∷ Int (pos nth) ∷ [] in
      let it = updates keeper_schema 1 attempts_at refl (unmoved 1) end_text params (record { lets = []; body = end_query }) old new count end_is end_plain has.schema h in
      record {
        schema = it.schema_is;
        records = it.applies.tables.0 (λ e. omega (arith, e)) ∙ has.records;
        attempts = it.applies.rows ∙ ends_there owner nth status t old.now.trees has.attempts has.apart it.rows (it.answer.answer Null);
        steps = it.applies.tables.1.1.0 (λ e. omega (arith, e)) ∙ has.steps;
        replies = it.applies.tables.1.1.1.0 (λ e. omega (arith, e)) ∙ has.replies;
        apart = apart_update same_attempt (is_of owner nth) (set_status status) (λ a b. refl) (λ a b. refl) t.attempts has.apart;
        risen = has.risen;
      };
}

-- ---- in a transaction

pub puts_inside : (old new : State) (payload : List ℕ) (count : ℕ) → ExecutesInside 0 put_text (Blob payload ∷ []) old new (Ok count) → PutsPayload payload new.last_rowid old new
puts_inside old new payload count h = puts old new payload count h.0

module _ (f : Tables → Tables) (old new : State) where
  pub turned : (sql : List ℕ) (given : Row) (r : Result ℕ Error) → ((count : ℕ) → Executes sql given old new (Ok count) → Turns f old.now new.now) → ExecutesInside 0 sql given old new r
      → OnOk r (Turns f old.now new.now)
  turned sql given (Ok count) does h = does count h.0
  turned sql given (Err e) does h = tt

  -- at a place that a number tells
  pub turned_at : (z : ℤ) (n : ℕ) → z ≡ pos n → (sql : List ℕ) (given : ℤ → Row) (r : Result ℕ Error) → ((count : ℕ) → Executes sql (given (pos n)) old new (Ok count) → Turns f old.now new.now)
      → ExecutesInside 0 sql (given z) old new r → OnOk r (Turns f old.now new.now)
  turned_at z n is sql given (Ok count) does h = does count (subst (λ k. Executes sql (given k) old new (Ok count)) is h.0)
  turned_at z n is sql given (Err e) does h = tt
