-- A catalogue that is read payload by payload.
use Rattle.std.proofs.Common.{◌≡◌, ℕ, ◌+◌, ◌<◌, ◌≤◌, Bool, true, false, List, [], ◌∷◌, ◌++◌, length, append_assoc, length-append, take, drop, map, get_or, refl, sym, ap, subst, ◌∙◌, arith, All}
use Rattle.std.specs.Bool.{Decides}
use Rattle.std.proofs.lemmas.Bool.{both_ways}
use Rattle.std.proofs.lemmas.List.{length-map, length-take-le, map-append, take-append-drop}
use Rattle.std.proofs.lemmas.List.Elements.{All-nil, All-push}
use Rattle.qz_terms.specs.declared.record.Record.{Record}
use Rattle.qz_terms.specs.Legal.{IsAllowedInCatalog, IsLegalCatalog}
use Rattle.qz_terms.specs.Spelling.{spelling}
use Rattle.qz_terms.proofs.Walks.{take-one_more}
use Rattle.qz_record.specs.Records.{IsRecord}
use Rattle.qz_catalog.specs.Loads.{IsAdded, IsFirstIllegal, IsNoneBehind, IsTaken}
use Rattle.qz_catalog.proofs.AdoptLemmas.{legal-none}
use Rattle.qz_catalog.proofs.Granting.{legal-push}

-- ---- the payloads so far: the first, and so many of the others

pub record IsReadTo (first : List ℕ) (others : List (List ℕ)) (n : ℕ) (c : List Record) : Type 0 where
  pub spelled : map spelling c ≡ first ∷ take n others
  pub records : All IsRecord c
  pub legal : IsLegalCatalog c
  pub some : 1 ≤ length c

-- one more is taken
pub read-more : (first : List ℕ) (others : List (List ℕ)) (n : ℕ) (c new : List Record) (payload : List ℕ) → n < length others → payload ≡ get_or others n payload → IsReadTo first others n c → IsTaken c new payload true → IsReadTo first others (n + 1) new
read-more first others n c new payload inside is read taken = record {
  spelled = ap (map spelling) taken.put
      ∙ map-append spelling c (taken.made ∷ [])
      ∙ ap (λ (xs : List (List ℕ)). xs ++ spelling taken.made ∷ []) read.spelled
      ∙ ap (λ (x : List ℕ). first ∷ (take n others ++ x ∷ [])) (sym taken.spelled)
      ∙ ap (λ (xs : List (List ℕ)). first ∷ xs) (sym (take-one_more others n payload inside is));
  records = subst (All IsRecord) (sym taken.put) (All-push IsRecord c taken.made read.records taken.keeps);
  legal = subst IsLegalCatalog (sym taken.put) (legal-push c taken.made read.legal taken.allowed);
  some =
      let long : length new ≡ length (c ++ taken.made ∷ []) = ap (λ (l : List Record). length l) taken.put in
      let more = length-append c (taken.made ∷ []) in
      omega arith;
}

seam : (payloads : List (List ℕ)) (n : ℕ) (payload : List ℕ) → n < length payloads → payload ≡ get_or payloads n payload → payloads ≡ take n payloads ++ payload ∷ drop (n + 1) payloads
seam payloads n payload inside is =
    sym (take-append-drop (n + 1) payloads)
    ∙ ap (λ (xs : List (List ℕ)). xs ++ drop (n + 1) payloads) (take-one_more payloads n payload inside is)
    ∙ append_assoc (take n payloads) (payload ∷ []) (drop (n + 1) payloads)

-- the next isn't taken
pub read-illegal : (first : List ℕ) (others : List (List ℕ)) (n : ℕ) (c new : List Record) (payload : List ℕ) → n < length others → payload ≡ get_or others n payload → IsReadTo first others n c → IsTaken c new payload false
    → IsFirstIllegal (first ∷ others) (n + 2)
read-illegal first others n c new payload inside is read taken = record {
  before = c;
  bad = payload;
  rest = drop (n + 1) others;
  stands = ap (λ (xs : List (List ℕ)). first ∷ xs) (seam others n payload inside is) ∙ ap (λ (xs : List (List ℕ)). xs ++ payload ∷ drop (n + 1) others) (sym read.spelled);
  records = read.records;
  legal = read.legal;
  illegal = taken.1;
  place =
      let long : length (take n others) ≡ n = length-take-le n others (omega arith) in
      let spelled : length (map spelling c) ≡ length (first ∷ take n others) = ap (λ (xs : List (List ℕ)). length xs) read.spelled in
      let all : length (map spelling c) ≡ length c = length-map c spelling in
      let more : length (first ∷ take n others) ≡ length (take n others) + 1 = omega arith in
      omega (arith, long, spelled, all, more);
}

-- the first spells none that may stand first
pub first-illegal : (first : List ℕ) (others : List (List ℕ)) → IsNoneBehind [] first → IsFirstIllegal (first ∷ others) 1
first-illegal first others none = record { before = []; bad = first; rest = others; stands = refl; records = All-nil IsRecord; legal = legal-none; illegal = none; place = refl }

-- ---- one payload

pub none-behind : (c : List Record) (made : Record) (payload : List ℕ) (b : Bool) → Decides b (IsAllowedInCatalog c made) → b ≡ false → ((r : Record) → IsRecord r → payload ≡ spelling r → made ≡ r) → IsNoneBehind c payload
none-behind c made payload b decides refused only = record {
  none = λ r keeps spelled allowed.
      let same : made ≡ r = only r keeps spelled in
      both_ways b refused (decides.1 (subst (IsAllowedInCatalog c) (sym same) allowed));
}

pub added : (c new : List Record) (made : Record) (payload : List ℕ) (b : Bool) → Decides b (IsAllowedInCatalog c made) → b ≡ true → IsRecord made → payload ≡ spelling made → new ≡ c ++ made ∷ [] → IsAdded c new payload
added c new made payload b decides passes keeps spelled put = record { made = made; allowed = decides.0 passes; keeps = keeps; spelled = spelled; put = put }
