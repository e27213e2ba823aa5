-- Answer parts of several pieces, a line each, read back.
use Rattle.std.proofs.Common.{◌≡◌, ◌≢◌, ℕ, Bool, true, false, List, [], ◌∷◌, ◌++◌, map, flat_map, refl, sym, ap, ◌∙◌, append_assoc, append-nil}
use Rattle.std.specs.List.{list_any}
use Rattle.gift_lex.specs.declared.block.Piece.TheVariants.{Sign, Plain}
use Rattle.gift_lex.specs.Blocks as lex
use Rattle.qz_grading.specs.Canonical as canonical
use Rattle.gift_read.specs.Places.{Marks, from, trimmed}
use Rattle.gift_read.specs.Parts.{Part, cut, pieces}
use Rattle.gift_laws.specs.Written as written
use Rattle.gift_read.proofs.PartLemmas.{later, cut-first}
use Rattle.gift_laws.proofs.ReadBackPlaces.{Passes, passes-nil, passes-append, passes-before, passes-from, found-before, found-from, begins_ink, ends_ink, trimmed-around}
use Rattle.gift_laws.proofs.ReadBackTruth.{ends-two}
use Rattle.gift_laws.proofs.ReadBackLines.{Line, joined_marks}
use Rattle.gift_laws.proofs.ReadBackWriting.{Writes}
use Rattle.gift_laws.proofs.ReadBackParts.{AreWritten, written-nil, written-append, written-line, gap_before}

-- ---- the marks of pieces, a line each

abbrev pub gap : Marks
gap = Plain 10 ∷ Plain 9 ∷ []

abbrev pub parts_marks : List Part → Marks
parts_marks ps = flat_map (λ (p : Part). Plain 10 ∷ Plain 9 ∷ Sign p.0 ∷ p.1) ps

-- all but the last have the end of a line behind them
abbrev pub spaced : List Part → List Part
spaced [] = []
spaced (p ∷ []) = p ∷ []
spaced (p ∷ q ∷ ps) = (p.0, p.1 ++ gap) ∷ spaced (q ∷ ps)

-- from the sign of the first
abbrev pub from_first : Part → List Part → Marks
from_first p ps = Sign p.0 ∷ (p.1 ++ parts_marks ps)

-- ---- pieces are cut where they were put together

pub record IsPart (here : Marks → Bool) (p : Part) : Type 0 where
  pub passes : Passes here p.1
  pub begins : (ys : Marks) → here (Sign p.0 ∷ ys) ≡ true

abbrev pub AreParts : (Marks → Bool) → List Part → Type 0
AreParts here [] = Unit {0}
AreParts here (p ∷ ps) = IsPart here p × AreParts here ps

cut-parts : (here : Marks → Bool) (p : Part) (ps : List Part) → Passes here gap → AreParts here (p ∷ ps) → cut here p.0 (p.1 ++ parts_marks ps) ≡ spaced (p ∷ ps)
cut-parts here p [] gaps are =
    ap (cut here p.0) (append-nil p.1) ∙ cut-first here p.1 p.0
    ∙ ap (λ (t : Marks). (p.0, t) ∷ later here (from here p.1)) (passes-before here p.1 are.0.passes)
    ∙ ap (λ (t : Marks). (p.0, p.1) ∷ later here t) (passes-from here p.1 are.0.passes)
cut-parts here p (q ∷ ps) gaps are =
    let rest = q.1 ++ parts_marks ps in
    let front = p.1 ++ gap in
    let passes = passes-append here p.1 gap are.0.passes gaps in
    let holds = are.1.0.begins rest in
    ap (cut here p.0) (sym (append_assoc p.1 gap (Sign q.0 ∷ rest)))
    ∙ cut-first here (front ++ Sign q.0 ∷ rest) p.0
    ∙ ap (λ (t : Marks). (p.0, t) ∷ later here (from here (front ++ Sign q.0 ∷ rest))) (found-before here front (Sign q.0) rest passes holds)
    ∙ ap (λ (t : Marks). (p.0, front) ∷ later here t) (found-from here front (Sign q.0) rest passes holds)
    ∙ ap (λ (t : List Part). (p.0, front) ∷ t) (cut-parts here q ps gaps are.1)

pub pieces-parts : (here : Marks → Bool) (sign : ℕ) (p : Part) (ps : List Part) → Passes here gap → AreParts here (p ∷ ps) → pieces here sign (from_first p ps) ≡ spaced (p ∷ ps)
pieces-parts here sign p ps gaps are = rw (are.0.begins (p.1 ++ parts_marks ps)) (cut-parts here p ps gaps are)

-- ---- what is found nowhere in pieces

abbrev pub EachPasses : (Marks → Bool) → List Part → Type 0
EachPasses here [] = Unit {0}
EachPasses here (p ∷ ps) = Passes here (Sign p.0 ∷ p.1) × EachPasses here ps

pub passes-parts : (here : Marks → Bool) (ps : List Part) → Passes here gap → EachPasses here ps → Passes here (parts_marks ps)
passes-parts here [] gaps each = passes-nil here
passes-parts here (p ∷ ps) gaps each = passes-append here (Plain 10 ∷ Plain 9 ∷ Sign p.0 ∷ p.1) (parts_marks ps) (passes-append here gap (Sign p.0 ∷ p.1) gaps each.0) (passes-parts here ps gaps each.1)

pub passes-from_first : (here : Marks → Bool) (p : Part) (ps : List Part) → Passes here gap → EachPasses here (p ∷ ps) → Passes here (from_first p ps)
passes-from_first here p ps gaps each = passes-append here (Sign p.0 ∷ p.1) (parts_marks ps) each.0 (passes-parts here ps gaps each.1)

-- ---- outer white space

abbrev pub EachEnds : List Part → Type 0
EachEnds [] = Unit {0}
EachEnds (p ∷ ps) = (ends_ink (Sign p.0 ∷ p.1) ≡ true) × EachEnds ps

ends-parts : (ps : List Part) → EachEnds ps → ends_ink (parts_marks ps) ≡ true
ends-parts [] each = refl
ends-parts (p ∷ ps) each = ends-two (Plain 10 ∷ Plain 9 ∷ Sign p.0 ∷ p.1) (parts_marks ps) each.0 (ends-parts ps each.1)

pub ends-from_first : (p : Part) (ps : List Part) → EachEnds (p ∷ ps) → ends_ink (from_first p ps) ≡ true
ends-from_first p ps each = ends-two (Sign p.0 ∷ p.1) (parts_marks ps) each.0 (ends-parts ps each.1)

-- what is left of pieces, where signs are ink
pub trimmed-parts : (p : Part) (ps : List Part) (none : Bool) → begins_ink (Sign p.0 ∷ []) ≡ true → EachEnds (p ∷ ps) → trimmed (parts_marks (p ∷ ps) ++ gap_before none) ≡ from_first p ps
trimmed-parts p ps true begins each = trimmed-around gap (from_first p ps) (Plain 10 ∷ []) refl begins (ends-from_first p ps each) refl
trimmed-parts p ps false begins each = trimmed-around gap (from_first p ps) (Plain 10 ∷ Plain 9 ∷ []) refl begins (ends-from_first p ps each) refl

pub passes-gap_before : (here : Marks → Bool) (none : Bool) → Passes here (Plain 10 ∷ []) → Passes here gap → Passes here (gap_before none)
passes-gap_before here true one two = one
passes-gap_before here false one two = two

-- ---- lines of items

pub record IsPieceLine (text cs : List ℕ) (p : Part) : Type 0 where
  pub writes : Writes text cs (Sign p.0 ∷ p.1)
  pub inked : lex.is_blank_line cs ≡ false
  pub no_comment : lex.is_comment cs ≡ false

abbrev pub piece_line : List ℕ → Part → Line
piece_line cs p = (9 ∷ cs, Plain 9 ∷ Sign p.0 ∷ p.1)

pub lines-items : {T : Type 0} (text cs : T → List ℕ) (part : T → Part) (ts : List T) → ((t : T) → IsPieceLine (text t) (cs t) (part t))
    → AreWritten (flat_map (λ (t : T). canonical.line (text t)) ts) (map (λ (t : T). piece_line (cs t) (part t)) ts)
lines-items text cs part [] each = written-nil
lines-items text cs part (t ∷ ts) each =
    written-append (canonical.line (text t)) _ (piece_line (cs t) (part t) ∷ []) _ (written-line (text t) (cs t) (Sign (part t).0 ∷ (part t).1) (each t).writes (each t).inked (each t).no_comment) (lines-items text cs part ts each)

pub joined_marks-items : {T : Type 0} (cs : T → List ℕ) (part : T → Part) (ts : List T) → joined_marks (map (λ (t : T). piece_line (cs t) (part t)) ts) ≡ parts_marks (map part ts)
joined_marks-items cs part [] = refl
joined_marks-items cs part (t ∷ ts) = ap (λ (m : Marks). (Plain 10 ∷ Plain 9 ∷ Sign (part t).0 ∷ (part t).1) ++ m) (joined_marks-items cs part ts)

-- ---- items are read from their pieces, with white space behind them or without

pub record ReadsPiece {T : Type 0} (reader : Part → T) (p : Part) (t : T) : Type 0 where
  pub alone : reader p ≡ t
  pub followed : reader (p.0, p.1 ++ gap) ≡ t

pub map-spaced : {T V : Type 0} (reader : Part → V) (part : T → Part) (value : T → V) (ts : List T) → ((t : T) → ReadsPiece reader (part t) (value t)) → map reader (spaced (map part ts)) ≡ map value ts
map-spaced reader part value [] each = refl
map-spaced reader part value (t ∷ []) each = rw ((each t).alone) refl
map-spaced reader part value (t ∷ u ∷ ts) each = rw ((each t).followed, map-spaced reader part value (u ∷ ts) each) refl

-- a test that no piece passes
pub none-spaced : {T : Type 0} (test : Part → Bool) (part : T → Part) (ts : List T) → ((t : T) → ReadsPiece test (part t) false) → list_any test (spaced (map part ts)) ≡ false
none-spaced test part [] each = refl
none-spaced test part (t ∷ []) each = rw ((each t).alone) refl
none-spaced test part (t ∷ u ∷ ts) each = rw ((each t).followed, none-spaced test part (u ∷ ts) each) refl

-- ---- what holds of each piece

pub all-pass : {T : Type 0} (here : Marks → Bool) (part : T → Part) (ts : List T) → ((t : T) → Passes here (Sign (part t).0 ∷ (part t).1)) → EachPasses here (map part ts)
all-pass here part [] each = tt
all-pass here part (t ∷ ts) each = (each t, all-pass here part ts each)

pub all-parts : {T : Type 0} (here : Marks → Bool) (part : T → Part) (ts : List T) → ((t : T) → IsPart here (part t)) → AreParts here (map part ts)
all-parts here part [] each = tt
all-parts here part (t ∷ ts) each = (each t, all-parts here part ts each)

pub all-end : {T : Type 0} (part : T → Part) (ts : List T) → ((t : T) → ends_ink (Sign (part t).0 ∷ (part t).1) ≡ true) → EachEnds (map part ts)
all-end part [] each = tt
all-end part (t ∷ ts) each = (each t, all-end part ts each)

-- what ends in a text ends as it does
pub ends-behind : (xs ys : List ℕ) → ys ≢ [] → written.ends_ink (xs ++ ys) ≡ written.ends_ink ys
ends-behind [] ys some = refl
ends-behind (x ∷ []) [] some = absurd (some refl)
ends-behind (x ∷ []) (y ∷ ys) some = refl
ends-behind (x ∷ z ∷ xs) ys some = ends-behind (z ∷ xs) ys some
