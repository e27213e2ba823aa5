-- What a keeper's calls do to its list, by what they do to the tables.
use Rattle.std.proofs.Common.{◌≡◌, inl, ℕ, Bool, true, false, List, [], ◌∷◌, ◌++◌, Option, None, Some, Ok, Err, Result, IsTrue, IfSome, option_map, refl, sym, ap, subst, ◌∙◌}
use Rattle.sqlite.specs.Effect.{Database}
use Rattle.sqlite.specs.State.{State}
use Rattle.qz_disks.specs.Keepers.{MayStand, with_one_more}
use Rattle.qz_sqltables.proofs.Showing.{payloads_told}
use Rattle.qz_sqltables.specs.Rows.{Tables, no_tables}
use Rattle.qz_sqltables.specs.Schema.{HasTables, payloads_in}
use Rattle.qz_sqltables.specs.Statements.{Finds, KeepsTables, Turns}
use Rattle.qz_terms.specs.declared.record.Record.{Record}
use Rattle.qz_sqlkeep.specs.Keeping.{EndsEntering, EndsStoring, Enters, Grows, IsAtRest, IsReadingOf, Stands, Stores, kept_in}
use Rattle.qz_sqlkeep.specs.Tables.{Spells, tables_of, with_entry}
use Rattle.qz_sqlkeep.proofs.Pushing.{entry_more, zip-push}

-- ---- lists and their tables

pub payloads_are : (payloads : List (List ℕ)) (db : Database) → Stands payloads db → payloads_in db ≡ payloads
payloads_are payloads db stands = payloads_told (tables_of payloads stands.spelled) db stands.tables

-- the tables are those of the payloads that they have
pub stands_as : (payloads : List (List ℕ)) (s : State) → Stands payloads s.now → Stands (payloads_in s.now) s.now
stands_as payloads s stands = subst (λ l. Stands l s.now) (sym (payloads_are payloads s.now stands)) stands

pub stands_empty : (db : Database) → HasTables no_tables db → Stands [] db
stands_empty db has = record { spelled = []; each = tt; tables = has }

pub grows : (old new : Database) (payload : List ℕ) (spelled : Option Record) → Spells payload spelled → Turns (with_entry payload spelled) old new → Grows payload old new
grows old new payload spelled spells turns = record {
  grows = λ payloads stands. record {
    spelled = stands.spelled ++ spelled ∷ [];
    each = zip-push Spells payloads stands.spelled payload spelled stands.each spells;
    tables = subst (λ t. HasTables t new) (sym (entry_more payloads stands.spelled payload spelled stands.each)) (turns.turns (tables_of payloads stands.spelled) stands.tables);
  };
}

pub stores : (old new : State) (payload : List ℕ) (spelled : Option Record) → Spells payload spelled → Enters payload spelled old new → Stores payload old new
stores old new payload spelled spells enters = record {
  is_open = enters.is_open;
  committed = enters.committed;
  tables = (grows old.now new.now payload spelled spells enters.turns).grows;
}

pub ends_storing : {E : Type 0} (old new : State) (payload : List ℕ) (spelled : Option Record) (r : Result (Unit {0}) E) → Spells payload spelled → EndsEntering payload spelled old new r
    → EndsStoring payload old new r
ends_storing old new payload spelled (Ok _) spells enters = stores old new payload spelled spells enters
ends_storing old new payload spelled (Err e) spells stays = stays

-- ---- what is kept

pub kept_as_before : (tells : Bool) (old new : State) → (IsTrue tells → new.now ≡ old.now) → kept_in tells new.now ≡ kept_in tells old.now
kept_as_before true old new same = ap (λ db. Some (payloads_in db)) (same refl)
kept_as_before false old new same = refl

pub kept_with_one_more : (tells : Bool) (old new : State) (payload : List ℕ) → IsAtRest tells old → (IsTrue tells → Stores payload old new)
    → kept_in tells new.now ≡ option_map (with_one_more payload) (kept_in tells old.now)
kept_with_one_more true old new payload rest stored =
    ap Some (payloads_are (with_one_more payload (payloads_in old.now)) new.now ((stored refl).tables (payloads_in old.now) (rest.stands refl)))
kept_with_one_more false old new payload rest stored = refl

-- ---- at rest again

pub rests_stored : (tells : Bool) (old new : State) (payload : List ℕ) → new.in_transaction ≡ false → IsAtRest tells old → (IsTrue tells → Stores payload old new) → IsAtRest tells new
rests_stored tells old new payload idle rest stored = record {
  idle = idle;
  stands = λ told. stands_as _ new ((stored told).tables (payloads_in old.now) (rest.stands told));
}

pub rests_as_before : (tells : Bool) (old new : State) → new.in_transaction ≡ false → IsAtRest tells old → (IsTrue tells → new.now ≡ old.now) → IsAtRest tells new
rests_as_before tells old new idle rest same = record {
  idle = idle;
  stands = λ told. subst (λ db. Stands (payloads_in db) db) (sym (same told)) (rest.stands told);
}

-- ---- opened again

may_stand : (payloads found : List (List ℕ)) (doubt : Option (List ℕ)) → found ≡ payloads → MayStand payloads doubt found
may_stand payloads found None same = same
may_stand payloads found (Some payload) same = inl same

pub stands_again : (tells : Bool) (old new : State) (doubt : Option (List ℕ)) (found : List (List ℕ)) → IsAtRest tells old → (IsTrue tells → Finds (λ t. t.payloads) found old new)
    → IfSome (kept_in tells old.now) (λ payloads. MayStand payloads doubt found)
stands_again true old new doubt found rest finds =
    let stands = rest.stands refl in may_stand _ found doubt ((finds refl).finds (tables_of (payloads_in old.now) stands.spelled) stands.tables).is
stands_again false old new doubt found rest finds = tt

-- of a store that tells, which is open
module _ {A : Type 0} (reading : Tables → A) (tells : Bool) (old new : State) (found : A) (rest : IsAtRest tells old) (finds : IsTrue tells → Finds reading found old new) where
  pub same_again : IsTrue tells → new.now ≡ old.now
  same_again told =
      let stands = rest.stands told in
      let it = (finds told).finds (tables_of (payloads_in old.now) stands.spelled) stands.tables in it.stays.same it.is_open

pub kept_again : (tells : Bool) (old new : State) (found : List (List ℕ)) → IsAtRest tells old → (IsTrue tells → Finds (λ t. t.payloads) found old new)
    → kept_in tells new.now ≡ option_map (λ _. found) (kept_in tells old.now)
kept_again true old new found rest finds =
    let stands = rest.stands refl in
    let it = (finds refl).finds (tables_of (payloads_in old.now) stands.spelled) stands.tables in ap Some (ap payloads_in (it.stays.same it.is_open) ∙ sym it.is)
kept_again false old new found rest finds = refl

-- whatever failed, the database of a store that tells is as it was
pub same_if_kept : (tells : Bool) (old new : State) → IsAtRest tells old → (IsTrue tells → IsTrue new.is_open) → (IsTrue tells → KeepsTables old new) → IsTrue tells → new.now ≡ old.now
same_if_kept tells old new rest still keeps told =
    let stands = rest.stands told in ((keeps told).keeps (tables_of (payloads_in old.now) stands.spelled) stands.tables).same (still told)

-- ---- read

pub told_found : {A : Type 0} (reading : Tables → A) (tells : Bool) (old new : State) (found : A) → IsAtRest tells old → (IsTrue tells → Finds reading found old new)
    → IfSome (kept_in tells old.now) (λ payloads. IsReadingOf reading payloads found)
told_found reading true old new found rest finds =
    let stands = rest.stands refl in
    record { spelled = stands.spelled; each = stands.each; is = ((finds refl).finds (tables_of (payloads_in old.now) stands.spelled) stands.tables).is }
told_found reading false old new found rest finds = tt
