-- The catalogue's first records are grown, and what was asked of them is answered.
use Rattle.std.proofs.Common.{◌≡◌, ℕ, suc, ◌+◌, ◌<◌, ◌≤◌, min, inl, inr, Bool, true, false, List, [], ◌∷◌, ◌++◌, Option, Some, length, take, drop, get_or, refl, sym, ap, subst, ◌∙◌, arith}
use Rattle.std.specs.Bool.{Decides}
use Rattle.std.specs.List.Sorted.{IsNonDecreasingBy}
use Rattle.std.specs.Prelude.{All, slice_get, if◌then◌else◌}
use Rattle.std.proofs.lemmas.List.{length-take}
use Rattle.std.proofs.lemmas.List.Elements.{All-get_or}
use Rattle.std.proofs.lemmas.Option.{get_or_from_slice_get, slice_get_read, slice_get_within}
use Rattle.std.proofs.Math.Seq.{split_at}
use Rattle.qz_terms.specs.declared.record.Record.{Record}
use Rattle.qz_terms.specs.Legal.{Agrees, IsAllowedInCatalog, IsLegalCatalog}
use Rattle.qz_agreement.specs.declared.findings.Claim.{Claim}
use Rattle.qz_agreement.specs.Findings.{AreSwept, IsBad, IsClaim, IsJudged, earlier}
use Rattle.qz_agreement.specs.Fitting.{Fits}
use Rattle.qz_agreement.proofs.Walking.{below-or-at, earlier-bad, earlier-here, earlier-keeps}

-- ---- growing

pub allowed-at : (c : List Record) (n : ℕ) (r : Record) → IsLegalCatalog c → n < length c → r ≡ get_or c n r → IsAllowedInCatalog (take n c) r
allowed-at c n r legal inside is = legal.each (take n c) r (drop (suc n) c) (split_at c n r inside ∙ ap (λ (x : Record). take n c ++ x ∷ drop (suc n) c) (sym is))

-- ---- answering

pub nothing-swept : (c h : List Record) (claims : List Claim) (first : Option ℕ) → AreSwept c h claims first first 0
nothing-swept c h claims first = record { passed = λ i passed. passed; bad = λ bad. bad; each = λ j a below. absurd (omega arith) }

judged-longer : (c : List Record) (old : Option ℕ) (n : ℕ) (h : List Record) (i : ℕ) → IsJudged c old h i → IsJudged c (Some (earlier old n)) h i
judged-longer c old n h i (inl agrees) = inl agrees
judged-longer c old n h i (inr passed) = inr (earlier-keeps old n i passed)

-- what is known of one record that was asked about
pub claim-inside : (c h : List Record) (a : Claim) → IsClaim c h a → a.index < length h
claim-inside c h a t = slice_get_within h a.index t.own t.there

agrees-there : (c h : List Record) (a : Claim) (t : IsClaim c h a) → Fits (take a.at c) a.quiz t.own t.own.event → (x : Record) → slice_get h a.index ≡ Some x → Agrees c (take a.index h) x
agrees-there c h a t fits x there =
    let same : t.own ≡ x = (let two : Some t.own ≡ Some x = sym t.there ∙ there in cc) in
    subst (λ (y : Record). Agrees c (take a.index h) y) same (t.pends.enough fits)

one-claim : (claims : List Claim) (n j : ℕ) (a b : Claim) → slice_get claims n ≡ Some a → j ≡ n → slice_get claims j ≡ Some b → a ≡ b
one-claim claims n j a b here same there = let two : Some a ≡ Some b = sym here ∙ ap (slice_get claims) (sym same) ∙ there in cc

pub swept-well : (c h : List Record) (claims : List Claim) (old new : Option ℕ) (n : ℕ) (a : Claim) (t : IsClaim c h a) → slice_get claims n ≡ Some a
    → Fits (take a.at c) a.quiz t.own t.own.event → AreSwept c h claims old new n → AreSwept c h claims old new (n + 1)
swept-well c h claims old new n a t here fits s = record {
  passed = s.passed;
  bad = s.bad;
  each = λ j b below there. elim (below-or-at j n below) [
    | inl less ↦ s.each j b less there
    | inr same ↦ subst (λ (x : Claim). IsJudged c new h x.index) (one-claim claims n j a b here same there) (inl (agrees-there c h a t fits))
  ];
}

bad-there : (c h : List Record) (a : Claim) (t : IsClaim c h a) → (Fits (take a.at c) a.quiz t.own t.own.event → ⊥) → IsBad c h a.index
bad-there c h a t none = record { own = t.own; there = t.there; disagrees = λ agrees. none (t.pends.needed agrees) }

pub swept-badly : (c h : List Record) (claims : List Claim) (old new : Option ℕ) (n : ℕ) (a : Claim) (t : IsClaim c h a) → slice_get claims n ≡ Some a
    → (Fits (take a.at c) a.quiz t.own t.own.event → ⊥) → AreSwept c h claims old new n → AreSwept c h claims old (Some (earlier new a.index)) (n + 1)
swept-badly c h claims old new n a t here none s = record {
  passed = λ i passed. earlier-keeps new a.index i (s.passed i passed);
  bad = λ bad x is.
      let same : earlier new a.index ≡ x = cc in
      subst (IsBad c h) same (earlier-bad c h new a.index (s.bad bad) (bad-there c h a t none));
  each = λ j b below there. elim (below-or-at j n below) [
    | inl less ↦ judged-longer c new a.index h b.index (s.each j b less there)
    | inr same ↦ subst (λ (x : Claim). IsJudged c (Some (earlier new a.index)) h x.index) (one-claim claims n j a b here same there) (inr (earlier-here new a.index))
  ];
}

-- the same by the answer
pub swept-more : (c h : List Record) (claims : List Claim) (old new last : Option ℕ) (n : ℕ) (a : Claim) (b : Bool) → IsClaim c h a → n < length claims → a ≡ get_or claims n a
    → ((r : Record) → slice_get h a.index ≡ Some r → Decides b (Fits (take a.at c) a.quiz r r.event)) → last ≡ (if b then new else Some (earlier new a.index))
    → AreSwept c h claims old new n → AreSwept c h claims old last (n + 1)
swept-more c h claims old new last n a true t inside is told last_is s =
    subst (λ (o : Option ℕ). AreSwept c h claims old o (n + 1)) (sym last_is)
    (swept-well c h claims old new n a t (slice_get_read claims (length claims) n a refl inside is) ((told t.own t.there).0 refl) s)
swept-more c h claims old new last n a false t inside is told last_is s =
    subst (λ (o : Option ℕ). AreSwept c h claims old o (n + 1)) (sym last_is)
    (swept-badly c h claims old new n a t (slice_get_read claims (length claims) n a refl inside is) (λ fits. let no = (told t.own t.there).1 fits in absurd cc) s)

-- ---- the sweep

-- The catalogue was grown so far, and what is left to ask is of as many records at least.
pub record IsSweeping (c h : List Record) (claims : List Claim) (old new : Option ℕ) (first : List Record) (n : ℕ) : Type 0 where
  pub swept : AreSwept c h claims old new n
  pub front : first ≡ take (length first) c
  pub ahead : (j : ℕ) (a : Claim) → n ≤ j → slice_get claims j ≡ Some a → length first ≤ a.at

one-front : (c : List Record) → take 1 c ≡ take (length (take 1 c)) c
one-front [] = refl
one-front (r ∷ c) = refl

pub claim-at : (c h : List Record) (claims : List Claim) (n : ℕ) (a : Claim) → All (IsClaim c h) claims → n < length claims → a ≡ get_or claims n a → IsClaim c h a
claim-at c h claims n a all inside is = subst (IsClaim c h) (sym is) (All-get_or (IsClaim c h) claims n a inside all)

pub sweeping-none : (c h : List Record) (claims : List Claim) (old : Option ℕ) (first : List Record) → All (IsClaim c h) claims → first ≡ take 1 c → IsSweeping c h claims old old first 0
sweeping-none c h claims old first all is = record {
  swept = nothing-swept c h claims old;
  front = is ∙ one-front c ∙ ap (λ (l : List Record). take (length l) c) (sym is);
  ahead = λ j a least there.
      let inside = slice_get_within claims j a there in
      let t = claim-at c h claims j a all inside (sym (get_or_from_slice_get claims j a a there)) in
      let some = t.pends.some in
      let long : length first ≡ min 1 (length c) = ap (λ (l : List Record). length l) is ∙ length-take 1 c in
      omega (arith, some, long);
}

pub sweeping-more : (c h : List Record) (claims : List Claim) (old new last : Option ℕ) (grown : List Record) (n : ℕ) (a : Claim) (b : Bool) → All (IsClaim c h) claims → IsNonDecreasingBy (λ (x : Claim). x.at) claims
    → n < length claims → a ≡ get_or claims n a → grown ≡ take (length grown) c → length grown ≤ a.at → ((r : Record) → slice_get h a.index ≡ Some r → Decides b (Fits (take a.at c) a.quiz r r.event))
    → last ≡ (if b then new else Some (earlier new a.index)) → AreSwept c h claims old new n → IsSweeping c h claims old last grown (n + 1)
sweeping-more c h claims old new last grown n a b all sorted inside is front low told last_is s = record {
  swept = swept-more c h claims old new last n a b (claim-at c h claims n a all inside is) inside is told last_is s;
  front = front;
  ahead = λ j x least there.
      let within = slice_get_within claims j x there in
      let order : (get_or claims n x).at ≤ (get_or claims j x).at = sorted n j x (omega (arith, least)) within in
      let here : get_or claims n x ≡ a = get_or_from_slice_get claims n a x (slice_get_read claims (length claims) n a refl inside is) in
      let later : get_or claims j x ≡ x = get_or_from_slice_get claims j x x there in
      let rise : a.at ≤ x.at = subst (λ (y : Claim). a.at ≤ y.at) later (subst (λ (y : Claim). y.at ≤ (get_or claims j x).at) here order) in
      omega (arith, rise, low);
}

pub grows-to : (c h : List Record) (claims : List Claim) (old new : Option ℕ) (first : List Record) (n : ℕ) (a : Claim) → n < length claims → a ≡ get_or claims n a → IsSweeping c h claims old new first n → length first ≤ a.at
grows-to c h claims old new first n a inside is s = s.ahead n a (omega arith) (slice_get_read claims (length claims) n a refl inside is)
