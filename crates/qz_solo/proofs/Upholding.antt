-- Whichever of the lists that may stand do, they are those of a school.
use Rattle.std.proofs.Common.{◌≡◌, inl, inr, ℕ, zero, suc, ◌+◌, ◌<◌, ◌≤◌, List, [], ◌∷◌, Some, length, refl, sym, ap, ◌∙◌, subst, arith}
use Rattle.std.specs.List.{AllZip}
use Rattle.std.specs.Prelude.{All, slice_get}
use Rattle.std.proofs.Math.Nat.{eq-or-lt_of_le}
use Rattle.std.proofs.lemmas.Option.{slice_get_within}
use Rattle.qz_catalog.specs.Keeping as records
use Rattle.qz_keeper.specs.Lists.{EachMayStand}
use Rattle.qz_keeper.proofs.Settling.{mended_may}
use Rattle.qz_record.specs.Records.{IsRecord}
use Rattle.qz_serial.proofs.Seats.{mended_grows}
use Rattle.qz_shard.specs.Keeping as part
use Rattle.qz_terms.specs.declared.record.Record.{Record}
use Rattle.qz_terms.specs.Catalog as catalog
use Rattle.qz_terms.specs.Legal.{AllAgree, IsLegal, IsLegalCatalog}
use Rattle.qz_terms.specs.Serial.{Held, Mended, lists_of}
use Rattle.qz_school.specs.Solos.{IsSolo, held_of, lists_in, school_of}
use Rattle.qz_solo.specs.Standing.{AreLegal, IsLegalPart, StandAsSchool}
use Rattle.qz_solo.proofs.Standing.{agree_longer, shards_append}

-- ---- the shards

-- the shard whose list, mended, is the one at a place
record IsMendedFrom {K : Type 0} (ss : List (part.Keeping K)) (k : ℕ) (h : List Record) : Type 0 where
  own : part.Keeping K
  there : slice_get ss k ≡ Some own
  new : Held
  mends : Mended own.held new
  list : new.list ≡ h

mended-from : {K : Type 0} (ss : List (part.Keeping K)) (ks : List Held) (k : ℕ) (h : List Record) → AllZip Mended (held_of ss) ks → slice_get (lists_of ks) k ≡ Some h → IsMendedFrom ss k h
mended-from ss [] k h all is = absurd cc
mended-from [] (x ∷ ks) k h all is = absurd all
mended-from (s ∷ ss) (x ∷ ks) zero h all is = record { own = s; there = refl; new = x; mends = all.0; list = cc }
mended-from (s ∷ ss) (x ∷ ks) (suc k) h all is = let rest = mended-from ss ks k h all.1 is in record { own = rest.own; there = rest.there; new = rest.new; mends = rest.mends; list = rest.list }

count-mended : {K : Type 0} (ss : List (part.Keeping K)) (ks : List Held) → AllZip Mended (held_of ss) ks → length (lists_of ks) ≡ length ss
count-mended [] [] all = refl
count-mended [] (x ∷ ks) all = absurd all
count-mended (s ∷ ss) [] all = absurd all
count-mended (s ∷ ss) (x ∷ ks) all = ap suc (count-mended ss ks all.1)

-- each list that may stand of the first so many is legal
pub record LegalUpTo {K : Type 0} (n : ℕ) (ss : List (part.Keeping K)) : Type 0 where
  pub each : (k : ℕ) (s : part.Keeping K) → k < n → slice_get ss k ≡ Some s → IsLegalPart s

pub legal_none : {K : Type 0} (ss : List (part.Keeping K)) → LegalUpTo 0 ss
legal_none ss = record { each = λ k s below is. absurd (omega (arith, below)) }

pub legal_more : {K : Type 0} (n : ℕ) (ss : List (part.Keeping K)) (own : part.Keeping K) → slice_get ss n ≡ Some own → LegalUpTo n ss → IsLegalPart own → LegalUpTo (n + 1) ss
legal_more n ss own there before legal = record { each = λ k s below is. elim (eq-or-lt_of_le (le_of_lt_suc k n below)) [ inl same ↦ own-at k s same is | inr earlier ↦ before.each k s earlier is ] }
  where
    le_of_lt_suc : (k m : ℕ) → k < m + 1 → k ≤ m
    le_of_lt_suc k m below = omega (arith, below)

    own-at : (k : ℕ) (s : part.Keeping _) → k ≡ n → slice_get ss k ≡ Some s → IsLegalPart s
    own-at k s same is =
        let at : slice_get ss n ≡ Some s = subst (λ (j : ℕ). slice_get ss j ≡ Some s) same is in
        let it : own ≡ s = cc in
        subst (λ (x : part.Keeping _). IsLegalPart x) it legal

pub legal_all : {K : Type 0} (n : ℕ) (ss : List (part.Keeping K)) → length ss ≤ n → LegalUpTo n ss → AreLegal ss
legal_all n ss whole legal = record { each = λ k s is. let within = slice_get_within ss k s is in legal.each k s (omega (arith, within, whole)) is }

-- the shard whose list is at a place
record IsHeldAt {K : Type 0} (ss : List (part.Keeping K)) (k : ℕ) (h : Held) : Type 0 where
  own : part.Keeping K
  there : slice_get ss k ≡ Some own
  is : own.held ≡ h

held-at : {K : Type 0} (ss : List (part.Keeping K)) (k : ℕ) (h : Held) → slice_get (held_of ss) k ≡ Some h → IsHeldAt ss k h
held-at [] k h is = absurd cc
held-at (s ∷ ss) zero h is = record { own = s; there = refl; is = cc }
held-at (s ∷ ss) (suc k) h is = let rest = held-at ss k h is in record { own = rest.own; there = rest.there; is = rest.is }

-- ---- the school

-- a school's lists, each of which is legal whichever stands, are a school's however they are mended
pub stand_as_school : {K : Type 0} (c : records.Keeping K) (ss : List (part.Keeping K)) → IsSolo c ss → EachMayStand IsLegalCatalog c.held → EachMayStand (All IsRecord) c.held → AreLegal ss → StandAsSchool (lists_in (school_of c ss))
stand_as_school c ss solo catalog_legal catalog_records legal = record {
  records = record {
    records = catalog_records;
    parts = λ k h is. let at = held-at ss k h is in subst (EachMayStand (All IsRecord)) at.is (legal.each k at.own at.there).records;
  };
  each = λ b mended.
      let count = count-mended ss b.parts mended.parts in
      let grows = mended_grows c.held b.records mended.records in
      record {
        records = mended_may IsLegalCatalog c.held b.records mended.records catalog_legal;
        founded = subst (λ (l : List Record). catalog.shards l ≡ Some (length (lists_of b.parts))) (sym grows.grown)
            (shards_append c.held.list grows.rest (length (lists_of b.parts)) (solo.founded ∙ ap (λ (n : ℕ). Some n) (sym count)));
        legal = λ k h is.
            let from = mended-from ss b.parts k h mended.parts is in
            let place = solo.placed.each k from.own from.there in
            subst (IsLegal k (length (lists_of b.parts))) from.list
            (subst (λ (n : ℕ). IsLegal k n from.new.list) (place.1 ∙ sym count)
            (subst (λ (i : ℕ). IsLegal i from.own.count from.new.list) place.0
            (mended_may (IsLegal from.own.index from.own.count) from.own.held from.new from.mends (legal.each k from.own from.there).legal)));
        agree = λ k h is.
            let from = mended-from ss b.parts k h mended.parts is in
            subst (AllAgree b.records.list) from.list
            (agree_longer c.held.list b.records.list from.new.list grows (mended_may (AllAgree c.held.list) from.own.held from.new from.mends (solo.agree.each k from.own from.there)));
      };
}
