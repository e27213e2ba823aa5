-- A list that is read payload by payload.
use Rattle.std.proofs.Common.{◌≡◌, ℕ, ◌+◌, ◌<◌, ◌≤◌, Bool, true, false, List, [], ◌∷◌, ◌++◌, length, append_assoc, take, drop, map, get_or, refl, sym, ap, subst, ◌∙◌, arith, All}
use Rattle.std.specs.Bool.{Decides}
use Rattle.std.proofs.lemmas.Bool.{both_ways}
use Rattle.std.proofs.lemmas.List.{length-map, length-take-le, map-append, take-append-drop, take_all}
use Rattle.std.proofs.lemmas.List.Elements.{All-nil, All-push}
use Rattle.qz_terms.specs.declared.record.Record.{Record}
use Rattle.qz_terms.specs.Kept.{IsKept}
use Rattle.qz_terms.specs.Legal.{IsAllowed, IsLegal}
use Rattle.qz_terms.specs.Spelling.{spelling}
use Rattle.qz_terms.proofs.Walks.{take-one_more}
use Rattle.qz_record.specs.Records.{IsRecord}
use Rattle.qz_shard.specs.Holdings.{Holding}
use Rattle.qz_book.specs.Held.{IsHeld, is_shard}
use Rattle.qz_shard.specs.Loads.{IsFirstIllegal, IsLoaded, IsNoneBehind, IsTaken}
use Rattle.qz_book.specs.Nexts.{IsNext}
use Rattle.qz_legal.proofs.StandLemmas.{allowed-asked}

-- ---- the payloads so far

pub record IsReadTo (index count : ℕ) (payloads : List (List ℕ)) (n : ℕ) (s : Holding) : Type 0 where
  pub index_is : s.index ≡ index
  pub count_is : s.count ≡ count
  pub spelled : map spelling s.records ≡ take n payloads
  pub records : All IsRecord s.records
  pub held : IsHeld s.index s.count s.records

-- of no record
none-before : (k : List Record) (r : Record) (rest : List Record) → [] ≡ k ++ r ∷ rest → ⊥
none-before [] r rest is = absurd cc
none-before (s ∷ k) r rest is = absurd cc

held-none : (index count : ℕ) → is_shard index count ≡ true → IsHeld index count []
held-none index count shard = record {
  shard = shard;
  legal = record { each = λ k r rest is. absurd (none-before k r rest is) };
  kept = All-nil IsKept;
  asked = refl;
  few = omega arith;
}

pub read-none : (index count : ℕ) (payloads : List (List ℕ)) (s : Holding) → is_shard index count ≡ true → s ≡ record { index = index; count = count; records = [] } → IsReadTo index count payloads 0 s
read-none index count payloads s shard is = record {
  index_is = ap (λ (x : Holding). x.index) is;
  count_is = ap (λ (x : Holding). x.count) is;
  spelled = ap (λ (x : Holding). map spelling x.records) is;
  records = subst (λ (x : Holding). All IsRecord x.records) (sym is) (All-nil IsRecord);
  held = subst (λ (x : Holding). IsHeld x.index x.count x.records) (sym is) (held-none index count shard);
}

-- one more is taken
pub read-more : (index count : ℕ) (payloads : List (List ℕ)) (n : ℕ) (s new : Holding) (payload : List ℕ) → n < length payloads → payload ≡ get_or payloads n payload → IsReadTo index count payloads n s → IsTaken s new payload true → (new.index ≡ s.index) × (new.count ≡ s.count)
    → IsHeld new.index new.count new.records → IsReadTo index count payloads (n + 1) new
read-more index count payloads n s new payload inside is read taken same held = record {
  index_is = same.0 ∙ read.index_is;
  count_is = same.1 ∙ read.count_is;
  spelled = ap (map spelling) taken.put
      ∙ map-append spelling s.records (taken.made ∷ [])
      ∙ ap (λ (xs : List (List ℕ)). xs ++ spelling taken.made ∷ []) read.spelled
      ∙ ap (λ (x : List ℕ). take n payloads ++ x ∷ []) (sym taken.spelled)
      ∙ sym (take-one_more payloads n payload inside is);
  records = subst (All IsRecord) (sym taken.put) (All-push IsRecord s.records taken.made read.records taken.keeps);
  held = held;
}

seam : (payloads : List (List ℕ)) (n : ℕ) (payload : List ℕ) → n < length payloads → payload ≡ get_or payloads n payload → payloads ≡ take n payloads ++ payload ∷ drop (n + 1) payloads
seam payloads n payload inside is =
    sym (take-append-drop (n + 1) payloads)
    ∙ ap (λ (xs : List (List ℕ)). xs ++ drop (n + 1) payloads) (take-one_more payloads n payload inside is)
    ∙ append_assoc (take n payloads) (payload ∷ []) (drop (n + 1) payloads)

-- the next isn't taken
pub read-illegal : (index count : ℕ) (payloads : List (List ℕ)) (n : ℕ) (s new : Holding) (payload : List ℕ) → n < length payloads → payload ≡ get_or payloads n payload → IsReadTo index count payloads n s → IsTaken s new payload false
    → IsFirstIllegal index count payloads (n + 1)
read-illegal index count payloads n s new payload inside is read taken = record {
  before = s.records;
  bad = payload;
  rest = drop (n + 1) payloads;
  stands = seam payloads n payload inside is ∙ ap (λ (xs : List (List ℕ)). xs ++ payload ∷ drop (n + 1) payloads) (sym read.spelled);
  records = read.records;
  legal = subst (λ (i : ℕ). IsLegal i count s.records) read.index_is (subst (λ (c : ℕ). IsLegal s.index c s.records) read.count_is read.held.legal);
  illegal = subst (λ (i : ℕ). IsNoneBehind i count s.records payload) read.index_is (subst (λ (c : ℕ). IsNoneBehind s.index c s.records payload) read.count_is taken.1);
  place =
      let long : n ≡ length (take n payloads) = sym (length-take-le n payloads (omega arith)) in
      ap (λ (k : ℕ). k + 1) (long ∙ ap (λ (xs : List (List ℕ)). length xs) (sym read.spelled) ∙ length-map s.records spelling);
}

pub read-whole : (index count : ℕ) (payloads : List (List ℕ)) (n : ℕ) (s : Holding) → length payloads ≤ n → IsReadTo index count payloads n s → IsLoaded index count payloads s
read-whole index count payloads n s past read = record {
  index_is = read.index_is;
  count_is = read.count_is;
  spelled = read.spelled ∙ take_all n payloads past;
  records = read.records;
  held = subst (λ (i : ℕ). IsHeld i count s.records) read.index_is (subst (λ (c : ℕ). IsHeld s.index c s.records) read.count_is read.held);
}

-- ---- one payload

pub none-behind : (s : Holding) (i n : ℕ) (h : List Record) (made : Record) (payload : List ℕ) (b : Bool) → record { index = i; count = n; records = h } ≡ s → Decides b (IsAllowed i n h made) → b ≡ false → ((r : Record) → IsRecord r → payload ≡ spelling r → made ≡ r)
    → IsNoneBehind s.index s.count s.records payload
none-behind s i n h made payload b view decides refused only = subst (λ (t : Holding). IsNoneBehind t.index t.count t.records payload) view (record {
  none = λ r keeps spelled allowed.
      let same : made ≡ r = only r keeps spelled in
      both_ways b refused (decides.1 (subst (IsAllowed i n h) (sym same) allowed));
})

pub next-read : (s : Holding) (i n : ℕ) (h : List Record) (made : Record) (b : Bool) → record { index = i; count = n; records = h } ≡ s → Decides b (IsAllowed i n h made) → b ≡ true → IsRecord made → IsNext s.index s.count s.records made
next-read s i n h made b view decides passes keeps = subst (λ (t : Holding). IsNext t.index t.count t.records made) view (record {
  allowed = decides.0 passes;
  kept = keeps.kept;
  asked = allowed-asked i n h made (decides.0 passes);
})
