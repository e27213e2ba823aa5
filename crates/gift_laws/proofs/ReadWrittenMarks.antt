-- What is kept where marks are cut and trimmed.
use Rattle.std.proofs.Common.{◌≡◌, ℕ, zero, suc, ◌+◌, Bool, true, false, cond, ◌&&◌, ◌==◌, List, [], ◌∷◌, length, take, drop, map, codes, Option, Some, None, refl, sym, ap, ◌∙◌, subst}
use Rattle.std.specs.List.{list_all}
use Rattle.std.proofs.Math.Bool.{and-true}
use Rattle.std.proofs.lemmas.Bool.{and_parts, and_from, and_right, or_parts, or_from, cond_both, not_from_false}
use Rattle.gift_lex.specs.declared.block.Piece.{Piece}
use Rattle.qz_grading.specs.declared.question.Format.{Format}
use Rattle.qz_grading.specs.Canonical.{format_mark}
use Rattle.gift_read.specs.declared.places.Landmark.TheVariants as landmark
use Rattle.gift_read.specs.Places.{Marks, character, characters_at, is_space, is_at, before, from, occurs, is_ink, are_blank, unled, trimmed}
use Rattle.gift_read.specs.Texts.{named_format, behind_format, shown}
use Rattle.gift_read.specs.Parts.{Part, cut, unless_blank, pieces, answer_marks, feedback_marks}
use Rattle.gift_read.specs.Values.{is_weighed, percent_marks, unweighed}
use Rattle.gift_laws.specs.Written.{Each, has_arrow}
use Rattle.gift_read.proofs.PartLemmas.{later, cut-first}
use Rattle.gift_laws.proofs.ReadBackPlaces.{begins_ink, ends_ink}
use Rattle.gift_laws.proofs.ReadBackArrows.{occurs-arrow}

-- ---- what every part of marks keeps

pub record IsKept (P : Marks → Type 0) : Type 0 where
  pub nothing : P []
  pub behind : (m : Piece) (marks : Marks) → P (m ∷ marks) → P marks
  pub ahead : (here : Marks → Bool) (marks : Marks) → P marks → P (before here marks)

module _ (P : Marks → Type 0) (kept : IsKept P) where
  pub kept-from : (here : Marks → Bool) (marks : Marks) → P marks → P (from here marks)
  kept-from here [] is = is
  kept-from here (m ∷ marks) is = cond_both (here (m ∷ marks)) (m ∷ marks) (from here marks) P (λ e. is) (λ e. kept-from here marks (kept.behind m marks is))

  pub kept-drop : (n : ℕ) (marks : Marks) → P marks → P (drop n marks)
  kept-drop zero marks is = is
  kept-drop (suc n) [] is = is
  kept-drop (suc n) (m ∷ marks) is = kept-drop n marks (kept.behind m marks is)

  pub kept-trimmed : (marks : Marks) → P marks → P (trimmed marks)
  kept-trimmed marks is = kept.ahead are_blank (unled marks) (kept-from is_ink marks is)

  pub kept-shown : (marks : Marks) → P marks → P (shown marks)
  kept-shown marks is = go (named_format (trimmed marks))
    where
      go : (f : Option Format) → P (behind_format f (trimmed marks))
      go None = kept-trimmed marks is
      go (Some f) = kept-trimmed _ (kept-drop _ (trimmed marks) (kept-trimmed marks is))

  -- ---- pieces

  abbrev are_kept : List Part → Type 0
  are_kept parts = Each (λ (p : Part). P p.1) parts

  kept-later : (begins : Marks → Bool) (marks : Marks) → P marks → are_kept (later begins (from begins marks))
  kept-later begins [] is = tt
  kept-later begins (m ∷ marks) is =
      let behind = kept.behind m marks is in
      cond_both (begins (m ∷ marks)) (m ∷ marks) (from begins marks) (λ (t : Marks). are_kept (later begins t))
      (λ e. subst are_kept (sym (cut-first begins marks (character m))) (kept.ahead begins marks behind, kept-later begins marks behind))
      (λ e. kept-later begins marks behind)

  pub kept-pieces : (begins : Marks → Bool) (sign : ℕ) (marks : Marks) → P marks → Each (λ (p : Part). P p.1) (pieces begins sign marks)
  kept-pieces begins sign marks is =
      let whole : are_kept ((sign, before begins marks) ∷ later begins (from begins marks)) = (kept.ahead begins marks is, kept-later begins marks is) in
      go (cut begins sign marks) (subst are_kept (sym (cut-first begins marks sign)) whole)
    where
      go : (parts : List Part) → are_kept parts → are_kept (unless_blank parts)
      go [] each = tt
      go (p ∷ parts) each = cond_both (are_blank p.1) parts (p ∷ parts) are_kept (λ e. each.1) (λ e. each)

  pub kept-answer : (piece : Marks) → P piece → P (answer_marks piece)
  kept-answer piece is = kept-trimmed (before (is_at landmark.Hash) piece) (kept.ahead (is_at landmark.Hash) piece is)

  pub kept-feedback : (piece : Marks) → P piece → P (feedback_marks piece)
  kept-feedback piece is = kept-drop 1 (from (is_at landmark.Hash) piece) (kept-from (is_at landmark.Hash) piece is)

  pub kept-unweighed : (answer : Marks) → P answer → P (unweighed answer)
  kept-unweighed answer is =
      cond_both (is_weighed answer) (drop (length (percent_marks answer) + 2) answer) answer P (λ e. kept-drop (length (percent_marks answer) + 2) answer is) (λ e. is)

-- ---- a test of each mark

pub all-kept : (p : Piece → Bool) → IsKept (λ (marks : Marks). list_all p marks ≡ true)
all-kept p = record { nothing = refl; behind = λ m marks all. (and_parts (p m) (list_all p marks) all).1; ahead = all-before }
  where
    all-before : (here : Marks → Bool) (marks : Marks) → list_all p marks ≡ true → list_all p (before here marks) ≡ true
    all-before here [] all = refl
    all-before here (m ∷ marks) all =
        let parts = and_parts (p m) (list_all p marks) all in
        cond_both (here (m ∷ marks)) [] (m ∷ before here marks) (λ (t : Marks). list_all p t ≡ true) (λ e. refl) (λ e. and_from _ _ parts.0 (all-before here marks parts.1))

pub all-take : (p : Piece → Bool) (n : ℕ) (marks : Marks) → list_all p marks ≡ true → list_all p (take n marks) ≡ true
all-take p zero marks all = refl
all-take p (suc n) [] all = refl
all-take p (suc n) (m ∷ marks) all = let parts = and_parts (p m) (list_all p marks) all in and_from _ _ parts.0 (all-take p n marks parts.1)

-- ---- no arrow

abbrev pub IsArrowless : Marks → Type 0
IsArrowless marks = has_arrow (map character marks) ≡ false

-- one more mark before such marks, of which these are the front
arrowless-more : (here : Marks → Bool) (m : Piece) (marks : Marks) → (characters_at (codes "->") (m ∷ marks) ≡ false) → IsArrowless (before here marks) → IsArrowless (m ∷ before here marks)
arrowless-more here m [] none later = refl
arrowless-more here m (n ∷ marks) none later = go (here (n ∷ marks)) later
  where
    first : ((character m == 45) && (character n == 62)) ≡ false
    first = ap (λ (b : Bool). (character m == 45) && b) (sym (and-true (character n == 62))) ∙ none

    go : (b : Bool) → IsArrowless (cond b [] (n ∷ before here marks)) → IsArrowless (m ∷ cond b [] (n ∷ before here marks))
    go true later = refl
    go false later = or_from _ _ first later

-- none before the first
pub before_arrow-arrowless : (marks : Marks) → IsArrowless (before (is_at landmark.Arrow) marks)
before_arrow-arrowless [] = refl
before_arrow-arrowless (m ∷ marks) =
    let here = is_at landmark.Arrow in
    cond_both (here (m ∷ marks)) [] (m ∷ before here marks) IsArrowless (λ e. refl) (λ e. arrowless-more here m marks e (before_arrow-arrowless marks))

pub unoccurring-arrowless : (marks : Marks) → occurs (is_at landmark.Arrow) marks ≡ false → IsArrowless marks
unoccurring-arrowless marks none = sym (occurs-arrow marks) ∙ none

pub arrowless-kept : IsKept IsArrowless
arrowless-kept = record { nothing = refl; behind = behind; ahead = ahead }
  where
    behind : (m : Piece) (marks : Marks) → IsArrowless (m ∷ marks) → IsArrowless marks
    behind m [] none = refl
    behind m (n ∷ marks) none = (or_parts ((character m == 45) && (character n == 62)) (has_arrow (map character (n ∷ marks))) none).1

    front : (m : Piece) (marks : Marks) → IsArrowless (m ∷ marks) → characters_at (codes "->") (m ∷ marks) ≡ false
    front m [] none = and_right (character m == 45) false refl
    front m (n ∷ marks) none =
        ap (λ (b : Bool). (character m == 45) && b) (and-true (character n == 62))
        ∙ (or_parts ((character m == 45) && (character n == 62)) (has_arrow (map character (n ∷ marks))) none).0

    ahead : (here : Marks → Bool) (marks : Marks) → IsArrowless marks → IsArrowless (before here marks)
    ahead here [] none = refl
    ahead here (m ∷ marks) none =
        cond_both (here (m ∷ marks)) [] (m ∷ before here marks) IsArrowless (λ e. refl) (λ e. arrowless-more here m marks (front m marks none) (ahead here marks (behind m marks none)))

-- ---- ink

unled-begins : (marks : Marks) → begins_ink (unled marks) ≡ true
unled-begins [] = refl
unled-begins (m ∷ marks) = cond_both (is_ink (m ∷ marks)) (m ∷ marks) (unled marks) (λ (t : Marks). begins_ink t ≡ true) (λ e. e) (λ e. unled-begins marks)

unblank-begins : (marks : Marks) → begins_ink marks ≡ true → begins_ink (before are_blank marks) ≡ true
unblank-begins [] ink = refl
unblank-begins (m ∷ marks) ink = cond_both (are_blank (m ∷ marks)) [] (m ∷ before are_blank marks) (λ (t : Marks). begins_ink t ≡ true) (λ e. refl) (λ e. ink)

-- where nothing is left all was white space
nothing-blank : (marks : Marks) → before are_blank marks ≡ [] → are_blank marks ≡ true
nothing-blank [] none = refl
nothing-blank (m ∷ marks) none = go (are_blank (m ∷ marks)) none
  where
    go : (b : Bool) → cond b [] (m ∷ before are_blank marks) ≡ [] → b ≡ true
    go true none = refl
    go false none = cc

unblank-ends : (marks : Marks) → ends_ink (before are_blank marks) ≡ true
unblank-ends [] = refl
unblank-ends (m ∷ marks) = go (are_blank (m ∷ marks)) refl (before are_blank marks) refl (unblank-ends marks)
  where
    go : (b : Bool) → are_blank (m ∷ marks) ≡ b → (t : Marks) → before are_blank marks ≡ t → ends_ink t ≡ true → ends_ink (cond b [] (m ∷ t)) ≡ true
    go true e t is ends = refl
    go false e [] is ends = let ink : (is_space m && true) ≡ false = rw (nothing-blank marks is) at e in not_from_false (is_space m) (sym (and-true (is_space m)) ∙ ink)
    go false e (n ∷ t) is ends = ends

pub record IsTrimmed (marks : Marks) : Type 0 where
  pub begins : begins_ink marks ≡ true
  pub ends : ends_ink marks ≡ true

pub trimmed-is : (marks : Marks) → IsTrimmed (trimmed marks)
trimmed-is marks = record { begins = unblank-begins (unled marks) (unled-begins marks); ends = unblank-ends (unled marks) }

pub shown-is : (marks : Marks) → IsTrimmed (shown marks)
shown-is marks = go (named_format (trimmed marks))
  where
    go : (f : Option Format) → IsTrimmed (behind_format f (trimmed marks))
    go None = trimmed-is marks
    go (Some f) = trimmed-is (drop (length (format_mark f)) (trimmed marks))
