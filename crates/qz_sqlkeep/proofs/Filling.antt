-- Tables that are filled payload by payload, in one transaction.
use Rattle.std.proofs.Common.{◌≡◌, inl, ℕ, ◌+◌, ◌<◌, List, [], ◌∷◌, ◌++◌, length, take, get_or, Bool, true, false, true≢false, Some, IsTrue, refl, sym, ap, subst, ◌∙◌, arith}
use Rattle.std.proofs.lemmas.List.{take_more}
use Rattle.sqlite.proofs.StateLemmas.{survives_then}
use Rattle.sqlite.specs.State.{HasCleanDisk, KeepsCommit, State, Survives}
use Rattle.sqlite_schema.specs.declared.schema.Schema.{Schema}
use Rattle.qz_disks.specs.Keepers.{with_one_more}
use Rattle.qz_sqltables.specs.Rows.{no_tables}
use Rattle.qz_sqltables.specs.Schema.{HasRecords, HasTables, keeper_schema, no_schema}
use Rattle.qz_sqltables.specs.Statements.{FindsRecords}
use Rattle.qz_sqlkeep.specs.Keeping.{Fills, Grows, Remakes, Stands, kept_in, told_by}
use Rattle.qz_sqlkeep.proofs.Keeping.{payloads_are, stands_empty}

-- so many payloads were put into tables that had none
pub record FillsTo (payloads : List (List ℕ)) (old new : State) : Type 0 where
  pub survives : Survives old new (λ _. ⊥)
  pub inside : HasCleanDisk new → IsTrue old.in_transaction → IsTrue new.in_transaction
  pub stands : HasCleanDisk new → IsTrue old.in_transaction → Stands [] old.now → Stands payloads new.now
  pub kept : HasCleanDisk new → KeepsCommit old new

pub fills_none : (s : State) → FillsTo [] s s
fills_none s = record {
  survives = record { clean = omega arith; shield = λ h. h; counts = omega arith; limit = refl; closes = λ clean is. inl is; crash = λ clean db h. inl h };
  inside = λ clean on. on;
  stands = λ clean on stands. stands;
  kept = λ clean. record { was_open = λ is. is; committed = λ is. refl };
}

pub fills_more : (payloads : List (List ℕ)) (payload : List ℕ) (old mid new : State) → FillsTo payloads old mid → Survives mid new (λ _. ⊥)
    → (HasCleanDisk new → IsTrue mid.in_transaction → Grows payload mid.now new.now) → (HasCleanDisk new → IsTrue mid.in_transaction → IsTrue new.in_transaction) → (HasCleanDisk new → KeepsCommit mid new)
    → FillsTo (with_one_more payload payloads) old new
fills_more payloads payload old mid new before survives grows inside kept = record {
  survives = survives_then old mid new (λ _. ⊥) (λ _. ⊥) (λ _. ⊥) (λ _ _ no. no) (λ _ _ no. no) before.survives survives;
  inside = λ clean on. inside clean (before.inside (early clean) on);
  stands = λ clean on bare. (grows clean (before.inside (early clean) on)).grows payloads (before.stands (early clean) on bare);
  kept = λ clean. record {
    was_open = λ is. (before.kept (early clean)).was_open ((kept clean).was_open is);
    committed = λ is. (kept clean).committed is ∙ (before.kept (early clean)).committed ((kept clean).was_open is);
  };
}
  where
    early : HasCleanDisk new → HasCleanDisk mid
    early clean = omega (arith, survives.clean, clean)

pub fills_next : (payloads : List (List ℕ)) (i : ℕ) (item payload : List ℕ) (old mid new : State) → i < length payloads → item ≡ get_or payloads i item → payload ≡ item → FillsTo (take i payloads) old mid
    → Survives mid new (λ _. ⊥) → (HasCleanDisk new → IsTrue mid.in_transaction → Grows payload mid.now new.now) → (HasCleanDisk new → IsTrue mid.in_transaction → IsTrue new.in_transaction)
    → (HasCleanDisk new → KeepsCommit mid new) → FillsTo (take (i + 1) payloads) old new
fills_next payloads i item payload old mid new within is same before survives grows inside kept =
    let next = take_more payloads i item within ∙ ap (λ (y : List ℕ). take i payloads ++ y ∷ []) (sym is ∙ sym same) in
    subst (λ l. FillsTo l old new) (sym next) (fills_more (take i payloads) payload old mid new before survives grows inside kept)

-- ---- what a fill leaves

pub fills_blank : (old new : State) → old.now.schema ≡ no_schema → HasTables no_tables new.now → Fills [] old new
fills_blank old new none has = record {
  stands = stands_empty new.now has;
  told = λ payloads kept. absurd (let e : 0 ≡ 4 = ap (λ (s : Schema). length s.tables) (sym none ∙ kept.schema) in omega (arith, e));
  none = λ _. refl;
}

pub fills_again : (old mid new : State) (found : List (List ℕ)) → (old.now.schema ≡ no_schema → ⊥) → FindsRecords (λ payloads. payloads) found old → mid.now.schema ≡ keeper_schema → Remakes found mid new → Fills found old new
fills_again old mid new found some finds keepers remakes = record {
  stands = remakes.stands keepers;
  told = finds.finds;
  none = λ none. absurd (some none);
}

-- a keeper's list is the payloads told
pub kept_found : (tells : Bool) (s : State) (found : List (List ℕ)) → (IsTrue tells → Stands found s.now) → kept_in tells s.now ≡ told_by tells found
kept_found true s found stands = ap Some (payloads_are found s.now (stands refl))
kept_found false s found stands = refl
