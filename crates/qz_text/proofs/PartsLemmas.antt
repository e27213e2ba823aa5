-- The plain parts of a pattern: a rule of induction over its signs, and a map over its characters.
use Rattle.std.proofs.Common.{◌≡◌, ◌≢◌, ℕ, ◌<◌, false, cond, ◌&&◌, eqb, List, [], ◌∷◌, ◌++◌, length, map, flat_map, get_or, All, refl, sym, ap, ◌∙◌, subst, ⊎_elim, arith}
use Rattle.std.proofs.lemmas.Bool.{cases_eq, cond-false, and_left, and_right, ne_eqb}
use Rattle.std.proofs.lemmas.List.{get_or_append_left}
use Rattle.std.proofs.lemmas.List.Elements.{All-head, All-tail}
use Rattle.std.specs.List.{onto_first}
use Rattle.qz_text.specs.Patterns.{star, backslash, plain_parts}

-- this character, and those after it, do not begin with a star or an escape
pub record IsPlainAt (c : ℕ) (later : List ℕ) : Type 0 where
  pub no_star : c ≢ star
  pub no_escape : c ≡ backslash → get_or later 0 0 ≢ star

plain_test : (c d : ℕ) (later : List ℕ) → IsPlainAt c (d ∷ later) → (eqb c backslash && eqb d star) ≡ false
plain_test c d later h =
    ⊎_elim (λ is. and_right (eqb c backslash) (eqb d star) (ne_eqb d star (h.no_escape is))) (λ other. and_left (eqb c backslash) (eqb d star) (ne_eqb c backslash other)) (cases_eq c backslash)

-- ---- the parts, by the first sign

pub plain_parts-star : (cs : List ℕ) → plain_parts (star ∷ cs) ≡ [] ∷ plain_parts cs
plain_parts-star [] = refl
plain_parts-star (d ∷ cs) = refl

pub plain_parts-plain : (c : ℕ) (cs : List ℕ) → IsPlainAt c cs → plain_parts (c ∷ cs) ≡ onto_first c (plain_parts cs)
plain_parts-plain c [] h = cond-false (eqb c star) ([] ∷ [] ∷ []) ((c ∷ []) ∷ []) (ne_eqb c star h.no_star)
plain_parts-plain c (d ∷ cs) h =
    let plain = cond (eqb c star) ([] ∷ plain_parts (d ∷ cs)) (onto_first c (plain_parts (d ∷ cs))) in
    cond-false (eqb c backslash && eqb d star) (onto_first star (plain_parts cs)) plain (plain_test c d cs h)
    ∙ cond-false (eqb c star) ([] ∷ plain_parts (d ∷ cs)) (onto_first c (plain_parts (d ∷ cs))) (ne_eqb c star h.no_star)

-- what holds of the empty pattern, and of one more sign, holds of each pattern
pub plain_parts-induction : (P : List ℕ → Type 0)
    → P []
    → ((cs : List ℕ) → P cs → P (star ∷ cs))
    → ((cs : List ℕ) → P cs → P (backslash ∷ star ∷ cs))
    → ((c : ℕ) (cs : List ℕ) → IsPlainAt c cs → P cs → P (c ∷ cs))
    → (cs : List ℕ) → P cs
plain_parts-induction P none at_star at_escape at_plain [] = none
plain_parts-induction P none at_star at_escape at_plain (c ∷ []) =
    ⊎_elim
    (λ is. subst (λ x. P (x ∷ [])) (sym is) (at_star [] none))
    (λ other. at_plain c [] (record { no_star = other; no_escape = λ _ e. absurd (omega arith) }) none)
    (cases_eq c star)
plain_parts-induction P none at_star at_escape at_plain (c ∷ d ∷ cs) =
    let after = plain_parts-induction P none at_star at_escape at_plain cs in
    let later = plain_parts-induction P none at_star at_escape at_plain (d ∷ cs) in
    ⊎_elim
    (λ is. subst (λ x. P (x ∷ d ∷ cs)) (sym is) (at_star (d ∷ cs) later))
    (λ other.
    ⊎_elim
    (λ stars. ⊎_elim
    (λ escapes. subst (λ x. P (x ∷ d ∷ cs)) (sym escapes) (subst (λ y. P (backslash ∷ y ∷ cs)) (sym stars) (at_escape cs after)))
    (λ plain. at_plain c (d ∷ cs) (record { no_star = other; no_escape = λ escapes. absurd (plain escapes) }) later)
    (cases_eq c backslash))
    (λ plain. at_plain c (d ∷ cs) (record { no_star = other; no_escape = λ _. plain }) later)
    (cases_eq d star))
    (cases_eq c star)

-- there is a first part
pub record HasFirst (parts : List (List ℕ)) : Type 0 where
  pub first : List ℕ
  pub later : List (List ℕ)
  pub are : parts ≡ first ∷ later

HasFirst-onto : (c : ℕ) (parts whole : List (List ℕ)) → whole ≡ onto_first c parts → HasFirst parts → HasFirst whole
HasFirst-onto c parts whole e h = record { first = c ∷ h.first; later = h.later; are = e ∙ ap (onto_first c) h.are }

pub HasFirst-plain_parts : (cs : List ℕ) → HasFirst (plain_parts cs)
HasFirst-plain_parts =
    plain_parts-induction (λ cs. HasFirst (plain_parts cs)) (record { first = []; later = []; are = refl })
    (λ cs h. record { first = []; later = plain_parts cs; are = plain_parts-star cs }) (λ cs h. HasFirst-onto star (plain_parts cs) _ refl h)
    (λ c cs plain h. HasFirst-onto c (plain_parts cs) _ (plain_parts-plain c cs plain) h)

-- ---- a map over the characters

-- neither sign
abbrev pub IsPlain : ℕ → Type 0
IsPlain c = (c ≢ star) × (c ≢ backslash)

-- the signs stay, and every other character gives plain ones, at least one
pub record KeepsSigns (f : ℕ → List ℕ) : Type 0 where
  pub at_star : f star ≡ star ∷ []
  pub at_backslash : f backslash ≡ backslash ∷ []
  pub plain : (c : ℕ) → IsPlain c → All IsPlain (f c)
  pub some : (c : ℕ) → 0 < length (f c)

-- the parts with these characters before the first
abbrev onto : List ℕ → List (List ℕ) → List (List ℕ)
onto [] parts = parts
onto (c ∷ cs) parts = onto_first c (onto cs parts)

onto-cons : (cs part : List ℕ) (later : List (List ℕ)) → onto cs (part ∷ later) ≡ (cs ++ part) ∷ later
onto-cons [] part later = refl
onto-cons (c ∷ cs) part later = ap (onto_first c) (onto-cons cs part later)

plain_parts-append : (cs ds : List ℕ) → All IsPlain cs → plain_parts (cs ++ ds) ≡ onto cs (plain_parts ds)
plain_parts-append [] ds h = refl
plain_parts-append (c ∷ cs) ds h =
    let head = All-head IsPlain c cs h in
    plain_parts-plain c (cs ++ ds) (record { no_star = head.0; no_escape = λ is. absurd (head.1 is) })
    ∙ ap (onto_first c) (plain_parts-append cs ds (All-tail IsPlain c cs h))

module _ (f : ℕ → List ℕ) (keeps : KeepsSigns f) where
  map-onto_first : (c : ℕ) (parts : List (List ℕ)) → HasFirst parts → map (flat_map f) (onto_first c parts) ≡ onto (f c) (map (flat_map f) parts)
  map-onto_first c parts h =
      ap (λ l. map (flat_map f) (onto_first c l)) h.are ∙ sym (onto-cons (f c) (flat_map f h.first) (map (flat_map f) h.later))
      ∙ sym (ap (λ l. onto (f c) (map (flat_map f) l)) h.are)

  head_stays : (cs : List ℕ) → get_or cs 0 0 ≢ star → get_or (flat_map f cs) 0 0 ≢ star
  head_stays [] h = h
  head_stays (d ∷ cs) h =
      let head = get_or_append_left (f d) (flat_map f cs) 0 0 (keeps.some d) in
      ⊎_elim
      (λ is e. absurd (omega (arith, head, ap (λ l. get_or l 0 0) (ap f is ∙ keeps.at_backslash))))
      (λ other e. (keeps.plain d (h, other) 0 0 (keeps.some d)).0 (sym head ∙ e))
      (cases_eq d backslash)

  pub plain_parts-flat_map : (cs : List ℕ) → plain_parts (flat_map f cs) ≡ map (flat_map f) (plain_parts cs)
  plain_parts-flat_map =
      plain_parts-induction (λ cs. plain_parts (flat_map f cs) ≡ map (flat_map f) (plain_parts cs)) refl
      (λ cs h.
      ap plain_parts (ap (λ l. l ++ flat_map f cs) keeps.at_star) ∙ plain_parts-star (flat_map f cs) ∙ ap (λ l. [] ∷ l) h
      ∙ sym (ap (map (flat_map f)) (plain_parts-star cs)))
      (λ cs h.
      let signs : flat_map f (backslash ∷ star ∷ cs) ≡ backslash ∷ star ∷ flat_map f cs =
      ap (λ l. l ++ (f star ++ flat_map f cs)) keeps.at_backslash ∙ ap (λ l. backslash ∷ (l ++ flat_map f cs)) keeps.at_star in
      ap plain_parts signs ∙ ap (onto_first star) h ∙ sym (ap (λ l. onto l (map (flat_map f) (plain_parts cs))) keeps.at_star)
      ∙ sym (map-onto_first star (plain_parts cs) (HasFirst-plain_parts cs)))
      (λ c cs plain h.
      let mapped : plain_parts (f c ++ flat_map f cs) ≡ onto (f c) (plain_parts (flat_map f cs)) =
      ⊎_elim
      (λ is.
      let one : f c ≡ backslash ∷ [] = ap f is ∙ keeps.at_backslash in
      ap (λ l. plain_parts (l ++ flat_map f cs)) one
      ∙ plain_parts-plain backslash (flat_map f cs) (record { no_star = λ e. absurd (omega arith); no_escape = λ _. head_stays cs (plain.no_escape is) })
      ∙ sym (ap (λ l. onto l (plain_parts (flat_map f cs))) one))
      (λ other. plain_parts-append (f c) (flat_map f cs) (keeps.plain c (plain.no_star, other)))
      (cases_eq c backslash) in
      mapped ∙ ap (onto (f c)) h ∙ sym (map-onto_first c (plain_parts cs) (HasFirst-plain_parts cs))
      ∙ sym (ap (map (flat_map f)) (plain_parts-plain c cs plain)))
