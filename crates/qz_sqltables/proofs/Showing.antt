-- What the queries show of the tables.
use Rattle.std.proofs.Common.{◌≡◌, ℕ, ◌+◌, pos, List, [], ◌∷◌, map, filter, true, false, not, ◌&&◌, ◌||◌, ◌==◌, nat_lt, cond, Ok, Err, Result, IsTrue, IfErr, IfOk, MatchResult, refl, sym, ap, ap₂, ◌∙◌, map-id, arith, int_cmp, Ordering, Less, Equal, Greater, is_lt, is_eq, is_gt}
use Rattle.std.proofs.lemmas.Bool.Decides.{nat_tests}
use Rattle.std.proofs.lemmas.Int.{ints}
use Rattle.std.specs.List.{AllByRecursion, enumerate_from}
use Rattle.std.specs.Ordering.{ordering_then}
use Rattle.qz_grading.specs.declared.refusal.AttemptId.{AttemptId}
use Rattle.qz_terms.specs.History.{attempt_before}
use Rattle.qz_terms.specs.Lists.{in_order, placed}
use Rattle.sqlite.proofs.Callers.{reads_as}
use Rattle.sqlite.specs.declared.error.Error.{Error}
use Rattle.sqlite.specs.Effect.{Database}
use Rattle.sqlite.specs.State.{FailsToQuery, Shown, State}
use Rattle.sqlite_keyed.specs.Lists.{insert_sorted, sort_by}
use Rattle.sqlite_keyed.specs.Rules.{AreApart}
use Rattle.sqlite_keyed.proofs.ListLemmas.{ascending-filter, filter-map, map-map, map_back}
use Rattle.sqlite_sql.specs.Program.{overlay}
use Rattle.sqlite_trees.specs.Tree.{Trees}
use Rattle.sqlite_typed.proofs.AnswerLemmas.{answer_by_keys, answer_sorted, at_end, last_table, no_tie, no_tie_after, unfiltered}
use Rattle.sqlite_typed.proofs.TestLemmas.{last_key, last_term, then_key, then_term}
use Rattle.sqlite_value.proofs.OrderLemmas.{value_cmp-Int}
use Rattle.sqlite_value.specs.declared.value.Value.TheVariants.{Null, Int}
use Rattle.sqlite_value.specs.Order.{Row, bytes, column}
use Rattle.qz_sqltables.specs.Rows.{StepRow, Tables, attempt_in, is_step_of, place_of, places_of, waiting, waits_at}
use Rattle.qz_sqltables.specs.Schema.{HasTables, attempt_cells, attempt_from, attempt_shown, keeper_schema, number_in, numbered_row, payload_cells, payload_shown, payloads_in, place_shown, step_cells}
use Rattle.qz_sqltables.specs.Statements.{EndsFinding, Finds, FindsRecords, StaysAsItWas}
use Rattle.qz_sqltables.proofs.Apart.{Counted, apart_counted, clash}
use Rattle.qz_sqltables.proofs.Calls.{stays_queried, unchanged}
use Rattle.qz_sqltables.proofs.Numbered.{map-enumerate_from, number_of, numbers_rise}
use Rattle.qz_sqltables.proofs.Texts.{find_command, find_is, find_plain, find_query, find_text, places_command, places_is, places_plain, places_query, places_text, waiting_command, waiting_is, waiting_plain, waiting_query, waiting_text}
use Rattle.qz_sqltables.proofs.Values.{equals, equals_given}

-- ---- payloads

module _ (old new : State) (rows : List Row) (h : Shown find_text [] old new rows) where
  pub finds_records : FindsRecords (map payload_shown) rows old
  finds_records = record {
    finds = λ payloads has.
        let read = reads_as find_text [] old new keeper_schema has.schema find_command find_is.0 find_plain find_is.1 rows h in
        let db : Trees = overlay old.now.trees [] in
        let all = enumerate_from 1 payloads in
        let source = last_table db 0 (numbered_row payload_cells) number_of all has.records (numbers_rise 1 payloads) (at_end db) in
        let ordered =
        answer_by_keys find_query db [] source (λ _. true) (λ _. refl) (λ r. r) (λ p. payload_shown p.1) (λ _. refl) refl refl (λ a b. last_key (value_cmp-Int (number_of a) (number_of b))) rows (read.answer Null) in
        sym (map-id rows) ∙ ordered ∙ ap (map (λ (p : ℕ × List ℕ). payload_shown p.1)) (unfiltered all refl) ∙ map-enumerate_from payload_shown 1 payloads;
  }

  pub finds_payloads : Finds (λ t. map payload_shown t.payloads) rows old new
  finds_payloads = record {
    finds = λ t has.
        let same = unchanged find_text [] old new rows keeper_schema has.schema find_plain h in
        record {
          is_open = same.0.is_open;
          stays = record { was_open = λ _. same.0.was_open; same = λ _. same.0.now_is };
          is = finds_records.finds t.payloads (record { schema = has.schema; records = has.records });
        };
  }

-- ---- the attempts that wait

abbrev by_attempt : Counted → Counted → Ordering
by_attempt a b = ordering_then (int_cmp (pos a.1.owner) (pos b.1.owner)) (ordering_then (int_cmp (pos a.1.nth) (pos b.1.nth)) (int_cmp (number_of a) (number_of b)))

abbrev attempt_of : Counted → AttemptId
attempt_of n = attempt_in n.1

tests_of : (a b : ℕ) (o : Ordering) → int_cmp (pos a) (pos b) ≡ o → (nat_lt a b ≡ is_lt o) × (a == b ≡ is_eq o) × (nat_lt b a ≡ is_gt o)
tests_of a b Less e = (grind (arith, ints, nat_tests), grind (arith, ints, nat_tests), grind (arith, ints, nat_tests))
tests_of a b Equal e = (grind (arith, ints, nat_tests), grind (arith, ints, nat_tests), grind (arith, ints, nat_tests))
tests_of a b Greater e = (grind (arith, ints, nat_tests), grind (arith, ints, nat_tests), grind (arith, ints, nat_tests))

-- two attempts in order, by how their owners, numbers and rows stand
both_ways : (o n r : Ordering) → (is_eq o && is_eq n) ≡ false
    → ((is_lt o || (is_eq o && is_lt n)) ≡ not (is_gt (ordering_then o (ordering_then n r)))) × ((is_gt o || (is_eq o && is_gt n)) ≡ is_gt (ordering_then o (ordering_then n r)))
both_ways Less n r h = (refl, refl)
both_ways Greater n r h = (refl, refl)
both_ways Equal Less r h = (refl, refl)
both_ways Equal Greater r h = (refl, refl)
both_ways Equal Equal r h = absurd cc

other_way : (a b : ℕ) → (b == a) ≡ (a == b)
other_way a b = grind (arith, nat_tests)

in_turn : (x y : Counted) → clash x y ≡ false
    → (attempt_before (attempt_of x) (attempt_of y) ≡ not (is_gt (by_attempt x y))) × (attempt_before (attempt_of y) (attempt_of x) ≡ is_gt (by_attempt x y))
in_turn x y apart =
    let o = tests_of x.1.owner y.1.owner _ refl in
    let n = tests_of x.1.nth y.1.nth _ refl in
    let all = both_ways (int_cmp (pos x.1.owner) (pos y.1.owner)) (int_cmp (pos x.1.nth) (pos y.1.nth)) (int_cmp (number_of x) (number_of y)) (sym (ap₂ ◌&&◌ o.1 n.1) ∙ apart) in
    (ap₂ ◌||◌ o.0 (ap₂ ◌&&◌ o.1 n.0) ∙ all.0, ap₂ ◌||◌ o.2 (ap₂ ◌&&◌ (other_way x.1.owner y.1.owner ∙ o.1) n.2) ∙ all.1)

all-inserted : (P : Counted → Type 0) (x : Counted) (ys : List Counted) → P x → AllByRecursion P ys → AllByRecursion P (insert_sorted by_attempt x ys)
all-inserted P x [] h all = (h, tt)
all-inserted P x (y ∷ ys) h all =
    elim (is_gt (by_attempt x y)) as (λ b. AllByRecursion P (cond b (y ∷ insert_sorted by_attempt x ys) (x ∷ y ∷ ys))) [ true ↦ (all.0, all-inserted P x ys h all.1) | false ↦ (h, all) ]

all-sorted : (P : Counted → Type 0) (xs : List Counted) → AllByRecursion P xs → AllByRecursion P (sort_by by_attempt xs)
all-sorted P [] all = tt
all-sorted P (x ∷ xs) all = all-inserted P x _ all.0 (all-sorted P xs all.1)

placed-inserted : (x : Counted) (ys : List Counted) → AllByRecursion (λ y. clash x y ≡ false) ys
    → map attempt_of (insert_sorted by_attempt x ys) ≡ placed attempt_before (attempt_of x) (map attempt_of ys)
placed-inserted x [] apart = refl
placed-inserted x (y ∷ ys) apart =
    let turn = in_turn x y apart.0 in
    let more = placed-inserted x ys apart.1 in
    let a = attempt_of x in
    let b = attempt_of y in
    let rest = map attempt_of ys in
    elim (is_gt (by_attempt x y)) as (λ g. map attempt_of (cond g (y ∷ insert_sorted by_attempt x ys) (x ∷ y ∷ ys)) ≡ cond (not g) (a ∷ b ∷ rest) (cond g (b ∷ placed attempt_before a rest) (b ∷ rest)))
    [ true ↦ ap (λ l. b ∷ l) more | false ↦ refl ]
    ∙ ap₂ (λ g h. cond g (a ∷ b ∷ rest) (cond h (b ∷ placed attempt_before a rest) (b ∷ rest))) (sym turn.0) (sym turn.1)

-- attempts that are apart are sorted as their numbers are
sorted_in_order : (xs : List Counted) → AreApart clash xs → map attempt_of (sort_by by_attempt xs) ≡ in_order attempt_before (map attempt_of xs)
sorted_in_order [] apart = refl
sorted_in_order (x ∷ xs) apart =
    placed-inserted x (sort_by by_attempt xs) (all-sorted (λ y. clash x y ≡ false) xs apart.0) ∙ ap (placed attempt_before (attempt_of x)) (sorted_in_order xs apart.1)

pub finds_waiting : (quiz : ℕ) (old new : State) (rows : List Row) → Shown waiting_text (Int (pos quiz) ∷ []) old new rows → Finds (λ t. map attempt_shown (waiting quiz t)) rows old new
finds_waiting quiz old new rows h = record {
  finds = λ t has.
      let params : Row = Int (pos quiz) ∷ [] in
      let read = reads_as waiting_text params old new keeper_schema has.schema waiting_command waiting_is.0 waiting_plain waiting_is.1 rows h in
      let db : Trees = overlay old.now.trees [] in
      let all = enumerate_from 1 t.attempts in
      let p = λ (n : Counted). waits_at quiz n.1 in
      let source = last_table db 1 (numbered_row attempt_cells) number_of all has.attempts (numbers_rise 1 t.attempts) (at_end db) in
      let same = unchanged waiting_text params old new rows keeper_schema has.schema waiting_plain h in
      let ordered =
      answer_sorted waiting_query db params source p (λ n. then_term (equals_given n.1.quiz quiz) (last_term (equals n.1.status 0))) (λ r. r) (λ n. attempt_shown (attempt_of n)) (λ _. refl) refl refl
      by_attempt (λ a b less. no_tie_after _ (no_tie_after _ (no_tie less)))
      (λ a b. then_key (value_cmp-Int (pos a.1.owner) (pos b.1.owner)) (then_key (value_cmp-Int (pos a.1.nth) (pos b.1.nth)) (last_key (value_cmp-Int (number_of a) (number_of b)))))
      rows (read.answer Null) in
      let chosen : map attempt_of (filter p all) ≡ map attempt_in (filter (waits_at quiz) t.attempts) =
      sym (map-map attempt_in (λ (n : Counted). n.1) (filter p all)) ∙ ap (map attempt_in) (sym (filter-map (waits_at quiz) (λ (n : Counted). n.1) all)
      ∙ ap (filter (waits_at quiz)) (map-enumerate_from (λ a. a) 1 t.attempts ∙ map-id t.attempts)) in
      record {
        is_open = same.0.is_open;
        stays = record { was_open = λ _. same.0.was_open; same = λ _. same.0.now_is };
        is = sym (map-id rows) ∙ ordered ∙ sym (map-map attempt_shown attempt_of (sort_by by_attempt (filter p all)))
            ∙ ap (map attempt_shown) (sorted_in_order (filter p all) (ascending-filter (λ a b. clash a b ≡ false) p all (apart_counted t.attempts has.apart)) ∙ ap (in_order attempt_before) chosen);
      };
}

-- ---- the places of an attempt's steps

pub finds_places : (id : AttemptId) (old new : State) (rows : List Row) → Shown places_text (Int (pos id.user) ∷ Int (pos id.nth) ∷ []) old new rows → Finds (λ t. map place_shown (places_of id t)) rows old new
finds_places id old new rows h = record {
  finds = λ t has.
      let params : Row = Int (pos id.user) ∷ Int (pos id.nth) ∷ [] in
      let read = reads_as places_text params old new keeper_schema has.schema places_command places_is.0 places_plain places_is.1 rows h in
      let db : Trees = overlay old.now.trees [] in
      let source = last_table db 3 step_cells place_of t.steps has.steps has.risen (at_end db) in
      let same = unchanged places_text params old new rows keeper_schema has.schema places_plain h in
      let ordered =
      answer_by_keys places_query db params source (is_step_of id) (λ s. then_term (equals_given s.owner id.user) (last_term (equals_given s.nth id.nth))) (λ r. r) (λ s. place_shown s.place) (λ _. refl) refl refl
      (λ a b. last_key (value_cmp-Int (place_of a) (place_of b))) rows (read.answer Null) in
      record {
        is_open = same.0.is_open;
        stays = record { was_open = λ _. same.0.was_open; same = λ _. same.0.now_is };
        is = sym (map-id rows) ∙ ordered ∙ sym (map-map place_shown (λ (s : StepRow). s.place) (filter (is_step_of id) t.steps));
      };
}

-- ---- calls

-- a query that fails leaves what was shown
pub read_ends : {V : Type 0} (items : V → List Row) (shown : Tables → List Row) (old new : State) (sql : List ℕ) (params : Row) (r : Result V Error)
    → ((rows : List Row) → Shown sql params old new rows → Finds shown rows old new) → (IsTrue old.is_open → old.now ≡ old.committed) → IfOk r (λ v. Shown sql params old new (items v))
    → IfErr r (FailsToQuery sql params old new) → MatchResult r (λ v. Finds shown (items v) old new) (λ _. StaysAsItWas old new)
read_ends items shown old new sql params (Ok v) finds settled ok err = finds (items v) ok
read_ends items shown old new sql params (Err e) finds settled ok err = stays_queried old new settled sql params e err

-- what rows show is what was to be read
pub ends_reading : {A : Type 0} (shown : Tables → List Row) (reading : Tables → A) (decode : List Row → A) → ((t : Tables) → decode (shown t) ≡ reading t)
    → (old new : State) (rows : List Row) (r : Result A Error) → Finds shown rows old new → IfOk r (λ found. found ≡ decode rows) → EndsFinding reading old new r
ends_reading shown reading decode back old new rows (Ok found) finds is = record {
  finds = λ t has. let it = finds.finds t has in record { is_open = it.is_open; stays = it.stays; is = is ∙ ap decode it.is ∙ back t };
}
ends_reading shown reading decode back old new rows (Err e) finds is = record { keeps = λ t has. (finds.finds t has).stays }

pub payloads_back : (t : Tables) → map (λ (row : Row). bytes (column row 0)) (map payload_shown t.payloads) ≡ t.payloads
payloads_back t = map_back payload_shown (λ row. bytes (column row 0)) (λ _. refl) t.payloads

-- what rows of `record` show
pub finds_back : (old : State) (rows : List Row) (r : Result (List (List ℕ)) Error) → FindsRecords (map payload_shown) rows old → IfOk r (λ found. found ≡ map (λ row. bytes (column row 0)) rows)
    → IfOk r (λ found. FindsRecords (λ payloads. payloads) found old)
finds_back old rows (Ok found) finds is = record {
  finds = λ payloads has. is ∙ ap (map (λ row. bytes (column row 0))) (finds.finds payloads has) ∙ map_back payload_shown (λ row. bytes (column row 0)) (λ _. refl) payloads;
}
finds_back old rows (Err e) finds is = tt

pub shows_records : {V : Type 0} (items : V → List Row) (old new : State) (r : Result V Error) → IfOk r (λ v. Shown find_text [] old new (items v))
    → IfOk r (λ v. FindsRecords (map payload_shown) (items v) old)
shows_records items old new (Ok v) ok = finds_records old new (items v) ok
shows_records items old new (Err e) ok = tt

pub waiting_back : (quiz : ℕ) (t : Tables) → map attempt_from (map attempt_shown (waiting quiz t)) ≡ waiting quiz t
waiting_back quiz t = map_back attempt_shown attempt_from (λ _. refl) (waiting quiz t)

pub places_back : (id : AttemptId) (t : Tables) → map (λ (row : Row). number_in (column row 0)) (map place_shown (places_of id t)) ≡ places_of id t
places_back id t = map_back place_shown (λ row. number_in (column row 0)) (λ _. refl) (places_of id t)

payloads_there : (k : ℕ) (payloads : List (List ℕ)) → map (λ row. bytes (column row 2)) (map (numbered_row payload_cells) (enumerate_from k payloads)) ≡ payloads
payloads_there k [] = refl
payloads_there k (p ∷ payloads) = ap (λ l. p ∷ l) (payloads_there (k + 1) payloads)

-- the payloads of the tables stand in `record`
pub payloads_told : (t : Tables) (db : Database) → HasTables t db → payloads_in db ≡ t.payloads
payloads_told t db has = ap (map (λ row. bytes (column row 2))) has.records ∙ payloads_there 1 t.payloads
