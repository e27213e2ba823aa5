-- The tables of a list with one more payload.
use Rattle.std.proofs.Common.{◌≡◌, ℕ, ℤ, suc, zero, ◌+◌, pos, ◌<ℤ◌, List, [], ◌∷◌, ◌++◌, map, filter_map, length, Bool, true, false, cond, ◌==◌, ◌&&◌, Option, None, Some, option_map, refl, sym, ap, ap₂, ◌∙◌, arith, append-nil, int_cmp, Less}
use Rattle.std.proofs.lemmas.Int.{ints}
use Rattle.std.proofs.lemmas.List.Elements.{filter_map-append}
use Rattle.std.specs.List.{AllByRecursion, AllZip, cons_option, enumerate_from}
use Rattle.qz_grading.specs.declared.refusal.AttemptId.{AttemptId}
use Rattle.qz_terms.specs.declared.record.Event.{Event}
use Rattle.qz_terms.specs.declared.record.Event.TheVariants as event
use Rattle.qz_terms.specs.declared.record.How.{How}
use Rattle.qz_terms.specs.declared.record.Record.{Record}
use Rattle.qz_terms.specs.History.{Start, ends, ends_by, start_by, started}
use Rattle.qz_terms.proofs.Walks.{last_of-push}
use Rattle.sqlite_keyed.specs.Keyed.{insert_by}
use Rattle.sqlite_keyed.proofs.KeyedLemmas.{Less-from_lt}
use Rattle.qz_sqltables.specs.Rows.{AttemptRow, StepRow, Tables, ended_at, is_of, place_of, set_status, with_payload}
use Rattle.qz_sqlkeep.specs.Tables.{SpellEach, Spells, attempt_row, attempt_rows, ending, reply_row, row_of_start, status_of, step_by, step_row, tables_of, with_entry, with_event, with_key, with_record}

-- ---- lists

enumerate-push : {X : Type 0} (k : ℕ) (xs : List X) (x : X) → enumerate_from k (xs ++ x ∷ []) ≡ enumerate_from k xs ++ (k + length xs, x) ∷ []
enumerate-push k [] x = let e : k ≡ k + 0 = omega arith in ap (λ n. (n, x) ∷ []) e
enumerate-push k (y ∷ ys) x =
    let e : k + 1 + length ys ≡ k + suc (length ys) = omega arith in
    ap (λ l. (k, y) ∷ l) (enumerate-push (k + 1) ys x ∙ ap (λ n. enumerate_from (k + 1) ys ++ (n, x) ∷ []) e)

read-push : {X Y : Type 0} (f : ℕ × X → Option Y) (xs : List X) (x : X) → filter_map f (enumerate_from 1 (xs ++ x ∷ [])) ≡ filter_map f (enumerate_from 1 xs) ++ filter_map f ((length xs + 1, x) ∷ [])
read-push f xs x =
    let e : 1 + length xs ≡ length xs + 1 = omega arith in
    ap (filter_map f) (enumerate-push 1 xs x ∙ ap (λ n. enumerate_from 1 xs ++ (n, x) ∷ []) e) ∙ filter_map-append f (enumerate_from 1 xs) _

pub same_length : {A B : Type 0} (R : A → B → Type 0) (xs : List A) (ys : List B) → AllZip R xs ys → length xs ≡ length ys
same_length R [] [] h = refl
same_length R (x ∷ xs) (y ∷ ys) h = ap suc (same_length R xs ys h.1)
same_length R [] (y ∷ ys) h = absurd h
same_length R (x ∷ xs) [] h = absurd h

pub zip-push : {A B : Type 0} (R : A → B → Type 0) (xs : List A) (ys : List B) (x : A) (y : B) → AllZip R xs ys → R x y → AllZip R (xs ++ x ∷ []) (ys ++ y ∷ [])
zip-push R [] [] x y h r = (r, tt)
zip-push R (a ∷ xs) (b ∷ ys) x y h r = (h.0, zip-push R xs ys x y h.1 r)
zip-push R [] (b ∷ ys) x y h r = absurd h
zip-push R (a ∷ xs) [] x y h r = absurd h

-- ---- attempts

-- what a record behind the others makes of a row
abbrev touched_by : Option How → AttemptRow → AttemptRow
touched_by None row = row
touched_by (Some how) row = set_status (status_of (Some how)) row

abbrev touched : Record → AttemptRow → AttemptRow
touched r row = touched_by (ends (record { user = row.owner; nth = row.nth }) r) row

touched-start : (r : Record) (later : List Record) (s : Start) → row_of_start (later ++ r ∷ []) s ≡ touched r (row_of_start later s)
touched-start r later s = ap (λ h. record (row_of_start later s) { status = status_of h }) (last_of-push (ends s.attempt) later r) ∙ by (ends s.attempt r)
  where
    by : (o : Option How) → ◌≡◌ {A = AttemptRow} (record (row_of_start later s) { status = status_of (Rattle.std.specs.Option.option_or o (ending s.attempt later)) }) (touched_by o (row_of_start later s))
    by None = refl
    by (Some how) = refl

rows-push : (rs : List Record) (r : Record) → attempt_rows (rs ++ r ∷ []) ≡ map (touched r) (attempt_rows rs) ++ filter_map attempt_row ((r, []) ∷ [])
rows-push [] r = refl
rows-push (x ∷ xs) r = by (started x) (rows-push xs r)
  where
    by : (o : Option Start) → attempt_rows (xs ++ r ∷ []) ≡ map (touched r) (attempt_rows xs) ++ filter_map attempt_row ((r, []) ∷ [])
        → cons_option (option_map (row_of_start (xs ++ r ∷ [])) o) (attempt_rows (xs ++ r ∷ [])) ≡ map (touched r) (cons_option (option_map (row_of_start xs) o) (attempt_rows xs)) ++ filter_map attempt_row ((r, []) ∷ [])
    by None more = more
    by (Some s) more = ap₂ (λ (a : AttemptRow) l. a ∷ l) (touched-start r xs s) more

untouched : (rows : List AttemptRow) (r : Record) → ((a : AttemptId) → ends a r ≡ None) → map (touched r) rows ≡ rows
untouched [] r none = refl
untouched (a ∷ rows) r none = ap₂ (λ (b : AttemptRow) l. b ∷ l) (ap (λ o. touched_by o a) (none (record { user = a.owner; nth = a.nth }))) (untouched rows r none)

set-by : (how : How) (row : AttemptRow) (b : Bool) → touched_by (cond b (Some how) None) row ≡ cond b (set_status (status_of (Some how)) row) row
set-by how row true = refl
set-by how row false = refl

all-set : (a : AttemptId) (how : How) (r : Record) → r.event ≡ event.Ended a how → (rows : List AttemptRow) → map (touched r) rows ≡ ended_at a.user a.nth (status_of (Some how)) rows
all-set a how r is [] = refl
all-set a how r is (row ∷ rows) =
    ap₂ (λ (b : AttemptRow) l. b ∷ l) (ap (λ e. touched_by (ends_by (record { user = row.owner; nth = row.nth }) e) row) is ∙ set-by how row (is_of a.user a.nth row)) (all-set a how r is rows)

-- ---- steps

step-below : (k : ℕ) (all : List (Option Record)) → AllByRecursion (λ s. place_of s <ℤ pos (k + length all)) (filter_map step_row (enumerate_from k all))
step-below k [] = tt
step-below k (o ∷ all) = by o (widened (k + 1 + length all) (k + suc (length all)) (omega arith) _ (step-below (k + 1) all))
  where
    widened : (m n : ℕ) → m ≡ n → (xs : List StepRow) → AllByRecursion (λ s. place_of s <ℤ pos m) xs → AllByRecursion (λ s. place_of s <ℤ pos n) xs
    widened m n e xs = Rattle.std.proofs.Common.subst (λ l. AllByRecursion (λ s. place_of s <ℤ pos l) xs) e

    here : pos k <ℤ pos (k + suc (length all))
    here = omega (arith, ints)

    by-event : (e : Event) → AllByRecursion (λ s. place_of s <ℤ pos (k + suc (length all))) (filter_map step_row (enumerate_from (k + 1) all))
        → AllByRecursion (λ s. place_of s <ℤ pos (k + suc (length all))) (cons_option (step_by k e) (filter_map step_row (enumerate_from (k + 1) all)))
    by-event (event.Acted a slot step) more = (here, more)
    by-event _ more = more

    by : (o : Option Record) → AllByRecursion (λ s. place_of s <ℤ pos (k + suc (length all))) (filter_map step_row (enumerate_from (k + 1) all))
        → AllByRecursion (λ s. place_of s <ℤ pos (k + suc (length all))) (filter_map step_row ((k, o) ∷ enumerate_from (k + 1) all))
    by None more = more
    by (Some r) more = by-event r.event more

behind-all : (xs : List StepRow) (new : StepRow) → AllByRecursion (λ s. place_of s <ℤ place_of new) xs → insert_by place_of xs new ≡ xs ++ new ∷ []
behind-all [] new low = refl
behind-all (s ∷ xs) new low = rw (Less-from_lt (place_of s) (place_of new) low.0) (ap (λ l. s ∷ l) (behind-all xs new low.1))

step-pushed : (all : List (Option Record)) (s : StepRow) → s.place ≡ length all + 1 → insert_by place_of (filter_map step_row (enumerate_from 1 all)) s ≡ filter_map step_row (enumerate_from 1 all) ++ s ∷ []
step-pushed all s at =
    let e : 1 + length all ≡ s.place = omega (arith, at) in
    behind-all _ s (Rattle.std.proofs.Common.subst (λ n. AllByRecursion (λ x. place_of x <ℤ pos n) (filter_map step_row (enumerate_from 1 all))) e (step-below 1 all))

-- ---- one payload more

same_tables : (a b : Tables) → a.payloads ≡ b.payloads → a.attempts ≡ b.attempts → a.steps ≡ b.steps → a.replies ≡ b.replies → a ≡ b
same_tables a b p q r s = λ i. record { payloads = p i; attempts = q i; steps = r i; replies = s i }

module _ (payloads : List (List ℕ)) (spelled : List (Option Record)) (payload : List ℕ) where
  abbrev before : Tables
  before = tables_of payloads spelled

  abbrev place : ℕ
  place = length spelled + 1

  abbrev records : List Record
  records = filter_map (λ o. o) spelled

  -- the tables after the list is longer by what a payload spells
  abbrev after : Option Record → Tables
  after o = tables_of (payloads ++ payload ∷ []) (spelled ++ o ∷ [])

  none-more : after None ≡ with_payload payload before
  none-more =
      let kept : filter_map (λ o. o) (spelled ++ None ∷ []) ≡ records = filter_map-append (λ o. o) spelled (None ∷ []) ∙ append-nil records in
      same_tables (after None) (with_payload payload before) refl (ap attempt_rows kept) (read-push step_row spelled None ∙ append-nil before.steps)
      (read-push reply_row spelled None ∙ append-nil before.replies)

  abbrev begun : Tables
  begun = with_payload payload before

  module _ (r : Record) where
    ends-none : (e : Event) → r.event ≡ e → ((a : AttemptId) → ends_by a e ≡ None) → map (touched r) before.attempts ≡ before.attempts
    ends-none e is none = untouched before.attempts r (λ a. ap (ends_by a) is ∙ none a)

    new-start : (e : Event) → r.event ≡ e → filter_map attempt_row ((r, []) ∷ []) ≡ cons_option (option_map (row_of_start []) (start_by r e)) []
    new-start e is = ap (λ (x : Event). cons_option (option_map (row_of_start []) (start_by r x)) []) is

    attempts-by : (e : Event) → r.event ≡ e → attempt_rows (records ++ r ∷ []) ≡ (with_event r place e begun).attempts
    attempts-by (event.Started quiz nth behaviour bounds learned) is =
        let e = event.Started quiz nth behaviour bounds learned in rows-push records r ∙ ap₂ (λ (k l : List AttemptRow). k ++ l) (ends-none e is (λ a. refl)) (new-start e is)
    attempts-by (event.Ended a how) is = rows-push records r ∙ ap₂ (λ (k l : List AttemptRow). k ++ l) (all-set a how r is before.attempts) (new-start (event.Ended a how) is) ∙ append-nil _
    attempts-by e is = rows-push records r ∙ ap₂ (λ (k l : List AttemptRow). k ++ l) (ends-none e is (λ a. refl)) (new-start e is) ∙ append-nil _

    new-step : (e : Event) → r.event ≡ e → filter_map step_row (enumerate_from 1 (spelled ++ Some r ∷ [])) ≡ before.steps ++ cons_option (step_by place e) []
    new-step e is = read-push step_row spelled (Some r) ∙ ap (λ (x : Event). before.steps ++ cons_option (step_by place x) []) is

    steps-by : (e : Event) → r.event ≡ e → filter_map step_row (enumerate_from 1 (spelled ++ Some r ∷ [])) ≡ (with_event r place e begun).steps
    steps-by (event.Acted a slot step) is = new-step (event.Acted a slot step) is ∙ sym (step-pushed spelled (record { place = place; owner = a.user; nth = a.nth; slot = slot }) refl)
    steps-by e is = new-step e is ∙ append-nil before.steps

    -- an event leaves the payloads and the replies alone, and a key all but the replies
    others-by : (e : Event) → ((with_event r place e begun).payloads ≡ begun.payloads) × ((with_event r place e begun).replies ≡ begun.replies)
    others-by (event.Started quiz nth behaviour bounds learned) = (refl, refl)
    others-by (event.Acted a slot step) = (refl, refl)
    others-by (event.Ended a how) = (refl, refl)
    others-by e = (refl, refl)

    keyed : (t : Tables) → t.payloads ≡ payloads ++ payload ∷ [] → t.attempts ≡ attempt_rows (records ++ r ∷ []) → t.steps ≡ filter_map step_row (enumerate_from 1 (spelled ++ Some r ∷ []))
        → t.replies ≡ before.replies → (key : Option (List ℕ)) → r.key ≡ key → after (Some r) ≡ with_key r.caller place key t
    keyed t payloads_is attempts_is steps_is replies_is key is =
        let replies : filter_map reply_row (enumerate_from 1 (spelled ++ Some r ∷ [])) ≡ before.replies ++ cons_option (option_map (λ word. record { caller = r.caller; word = word; place = place }) key) [] =
        read-push reply_row spelled (Some r) ∙ ap (λ (k : Option (List ℕ)). before.replies ++ cons_option (option_map (λ word. record { caller = r.caller; word = word; place = place }) k) []) is in
        let attempts : attempt_rows (filter_map (λ o. o) (spelled ++ Some r ∷ [])) ≡ t.attempts = ap attempt_rows (filter_map-append (λ o. o) spelled (Some r ∷ [])) ∙ sym attempts_is in
        same_tables (after (Some r)) _ (sym payloads_is ∙ sym (by key).0) (attempts ∙ sym (by key).1) (sym steps_is ∙ sym (by key).2) (replies ∙ by-replies key)
      where
        by : (k : Option (List ℕ)) → ((with_key r.caller place k t).payloads ≡ t.payloads) × ((with_key r.caller place k t).attempts ≡ t.attempts) × ((with_key r.caller place k t).steps ≡ t.steps)
        by None = (refl, refl, refl)
        by (Some word) = (refl, refl, refl)

        by-replies : (k : Option (List ℕ)) → before.replies ++ cons_option (option_map (λ word. record { caller = r.caller; word = word; place = place }) k) [] ≡ (with_key r.caller place k t).replies
        by-replies None = append-nil before.replies ∙ sym replies_is
        by-replies (Some word) = ap (λ l. l ++ record { caller = r.caller; word = word; place = place } ∷ []) (sym replies_is)

    some-more : after (Some r) ≡ with_record place (Some r) begun
    some-more = keyed (with_event r place r.event begun) (others-by r.event).0 (sym (attempts-by r.event refl)) (sym (steps-by r.event refl)) (others-by r.event).1 r.key refl

  pub entry_more : (o : Option Record) → SpellEach payloads spelled → tables_of (payloads ++ payload ∷ []) (spelled ++ o ∷ []) ≡ with_entry payload o (tables_of payloads spelled)
  entry_more o each = by o ∙ ap (λ n. with_record (n + 1) o begun) (sym (same_length Spells payloads spelled each))
    where
      by : (x : Option Record) → after x ≡ with_record place x begun
      by None = none-more
      by (Some r) = some-more r
