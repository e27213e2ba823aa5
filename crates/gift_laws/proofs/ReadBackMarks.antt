-- The marks of texts that are written with their signs escaped.
use Rattle.std.proofs.Common.{◌≡◌, ℕ, ◌<◌, Bool, true, false, cond, not, ◌||◌, ◌==◌, List, [], ◌∷◌, ◌++◌, map, flat_map, encode_utf8_all, refl, sym, ap, ◌∙◌, append_assoc, arith, inl, inr}
use Rattle.std.specs.Char.{encode_utf8}
use Rattle.std.specs.List.{list_all}
use Rattle.std.proofs.lemmas.Bool.{and_parts, not-true, or_parts, cases_lt, eqb-true, ne_eqb}
use Rattle.std.proofs.lemmas.List.{append-nil}
use Rattle.std.proofs.lemmas.Grind.{flat_map-append}
use Rattle.std.proofs.lemmas.Str.{encode_ascii, encodes-append}
use Rattle.gift_lex.specs.declared.block.Piece.{Piece}
use Rattle.gift_lex.specs.declared.block.Piece.TheVariants.{Escaped, Sign, Plain}
use Rattle.gift_lex.specs.Blocks as lex
use Rattle.gift_lex.specs.Blocks.{marks_of, single}
use Rattle.qz_grading.specs.Canonical as canonical
use Rattle.qz_grading.specs.Canonical.{escaped_byte, escaped}
use Rattle.gift_write.proofs.EscapeLemmas.{escaped_byte-wide}
use Rattle.qz_text.proofs.WideLemmas.{flat_map-wide}
use Rattle.gift_read.specs.Places.{Marks, character}
use Rattle.gift_read.specs.Texts.{spelled}
use Rattle.gift_laws.proofs.ReadBackPlaces.{is_plain, are_plain}

-- ---- the mark of a character that is written with its signs escaped

abbrev pub text_mark : ℕ → Piece
text_mark c = cond (c == 10) (Escaped 10) (cond (canonical.is_sign c) (Escaped c) (Plain c))

abbrev pub text_marks : List ℕ → Marks
text_marks cs = map text_mark cs

pub text_mark-character : (c : ℕ) → character (text_mark c) ≡ c
text_mark-character c = go (c == 10) refl (canonical.is_sign c)
  where
    go : (b : Bool) → (c == 10) ≡ b → (s : Bool) → character (cond b (Escaped 10) (cond s (Escaped c) (Plain c))) ≡ c
    go true e s = sym (eqb-true c 10 e)
    go false e true = refl
    go false e false = refl

text_mark-plain : (c : ℕ) → is_plain (text_mark c) ≡ true
text_mark-plain c = go (c == 10) (canonical.is_sign c)
  where
    go : (b s : Bool) → is_plain (cond b (Escaped 10) (cond s (Escaped c) (Plain c))) ≡ true
    go true s = refl
    go false true = refl
    go false false = refl

pub text_marks-characters : (cs : List ℕ) → map character (text_marks cs) ≡ cs
text_marks-characters [] = refl
text_marks-characters (c ∷ cs) = rw (text_mark-character c, text_marks-characters cs) refl

pub text_marks-plain : (cs : List ℕ) → are_plain (text_marks cs) ≡ true
text_marks-plain [] = refl
text_marks-plain (c ∷ cs) = rw (text_mark-plain c) (text_marks-plain cs)

-- a character without a backslash, as it stands
pub single-character : (c : ℕ) → character (single c) ≡ c
single-character c = go (lex.is_sign c)
  where
    go : (b : Bool) → character (cond b (Sign c) (Plain c)) ≡ c
    go true = refl
    go false = refl

pub single-characters : (cs : List ℕ) → map character (map single cs) ≡ cs
single-characters [] = refl
single-characters (c ∷ cs) = rw (single-character c, single-characters cs) refl

pub plain-characters : (cs : List ℕ) → map character (map Plain cs) ≡ cs
plain-characters [] = refl
plain-characters (c ∷ cs) = ap (λ (t : List ℕ). c ∷ t) (plain-characters cs)

-- ---- what characters are as marks

-- whatever follows them
pub record Spells (cs : List ℕ) (marks : Marks) : Type 0 where
  pub same : (rest : List ℕ) → marks_of (cs ++ rest) ≡ marks ++ marks_of rest

pub Spells-nil : Spells [] []
Spells-nil = record { same = λ rest. refl }

pub Spells-append : (cs ds : List ℕ) (ms ns : Marks) → Spells cs ms → Spells ds ns → Spells (cs ++ ds) (ms ++ ns)
Spells-append cs ds ms ns first second = record {
  same = λ rest. ap marks_of (append_assoc cs ds rest) ∙ first.same (ds ++ rest) ∙ ap (λ t. ms ++ t) (second.same rest) ∙ sym (append_assoc ms ns (marks_of rest));
}

pub Spells-marks : (cs : List ℕ) (ms : Marks) → Spells cs ms → marks_of cs ≡ ms
Spells-marks cs ms spells = ap marks_of (sym (append-nil cs)) ∙ spells.same [] ∙ append-nil ms

pub marks_of-single : (c : ℕ) (rest : List ℕ) → (c == 92) ≡ false → marks_of (c ∷ rest) ≡ single c ∷ marks_of rest
marks_of-single c [] other = refl
marks_of-single c (d ∷ rest) other = rw other refl

-- characters without a backslash
pub Spells-single : (cs : List ℕ) → list_all (λ c. not (c == 92)) cs ≡ true → Spells cs (map single cs)
Spells-single [] none = Spells-nil
Spells-single (c ∷ cs) none =
    let parts = and_parts (not (c == 92)) (list_all (λ c. not (c == 92)) cs) none in
    let other : (c == 92) ≡ false = not-true (c == 92) parts.0 in
    let later = Spells-single cs parts.1 in
    record { same = λ rest. marks_of-single c (cs ++ rest) other ∙ ap (λ t. single c ∷ t) (later.same rest) }

-- the two ways to tell signs
is_sign-same : (c : ℕ) → canonical.is_sign c ≡ (lex.is_sign c || c == 92)
is_sign-same c = go (c == 126) (c == 61) (c == 35) (c == 123) (c == 125) (c == 58) (c == 92)
  where
    go : (a b d e f g h : Bool) → (a || b || d || e || f || g || h) ≡ ((a || (b || (d || (e || (f || (g || false)))))) || h)
    go true b d e f g h = refl
    go false true d e f g h = refl
    go false false true e f g h = refl
    go false false false true f g h = refl
    go false false false false true g h = refl
    go false false false false false true h = refl
    go false false false false false false true = refl
    go false false false false false false false = refl

marks_of-pair : (c : ℕ) (rest : List ℕ) → canonical.is_sign c ≡ true → marks_of (92 ∷ c ∷ rest) ≡ Escaped c ∷ marks_of rest
marks_of-pair c rest sign =
    let is : (lex.is_sign c || c == 92) ≡ true = sym (is_sign-same c) ∙ sign in
    let other : (c == 110) ≡ false = ne_eqb c 110 (λ e. let none : canonical.is_sign c ≡ false = rw e refl in cc) in
    rw (is, other) refl

marks_of-plain : (c : ℕ) (rest : List ℕ) → canonical.is_sign c ≡ false → marks_of (c ∷ rest) ≡ Plain c ∷ marks_of rest
marks_of-plain c rest plain =
    let parts = or_parts (lex.is_sign c) (c == 92) (sym (is_sign-same c) ∙ plain) in
    marks_of-single c rest parts.1 ∙ rw parts.0 refl

-- one character
Spells-mark : (c : ℕ) → Spells (escaped_byte c) (text_mark c ∷ [])
Spells-mark c = record { same = λ rest. go (c == 10) (canonical.is_sign c) refl rest }
  where
    go : (b s : Bool) → canonical.is_sign c ≡ s → (rest : List ℕ)
        → marks_of (cond b (92 ∷ 110 ∷ []) (cond s (92 ∷ c ∷ []) (c ∷ [])) ++ rest) ≡ (cond b (Escaped 10) (cond s (Escaped c) (Plain c)) ∷ []) ++ marks_of rest
    go true s e rest = refl
    go false true e rest = marks_of-pair c rest e
    go false false e rest = marks_of-plain c rest e

-- a text with its signs escaped
pub Spells-text : (cs : List ℕ) → Spells (flat_map escaped_byte cs) (text_marks cs)
Spells-text [] = Spells-nil
Spells-text (c ∷ cs) = Spells-append (escaped_byte c) (flat_map escaped_byte cs) (text_mark c ∷ []) (text_marks cs) (Spells-mark c) (Spells-text cs)

-- ---- bytes

escaped-ascii : (c : ℕ) → c < 128 → escaped (encode_utf8 c) ≡ encode_utf8_all (escaped_byte c)
escaped-ascii c low = rw (encode_ascii c low) (append-nil (escaped_byte c) ∙ sym (go (c == 10) (canonical.is_sign c)))
  where
    go : (b s : Bool) → encode_utf8_all (cond b (92 ∷ 110 ∷ []) (cond s (92 ∷ c ∷ []) (c ∷ []))) ≡ cond b (92 ∷ 110 ∷ []) (cond s (92 ∷ c ∷ []) (c ∷ []))
    go true s = rw (encode_ascii 92 (omega arith), encode_ascii 110 (omega arith)) refl
    go false true = rw (encode_ascii 92 (omega arith), encode_ascii c low) refl
    go false false = rw (encode_ascii c low) refl

escaped-character : (c : ℕ) → escaped (encode_utf8 c) ≡ encode_utf8_all (escaped_byte c)
escaped-character c = elim (cases_lt c 128) [
  | inl low ↦ escaped-ascii c low
  | inr wide ↦ flat_map-wide escaped_byte escaped_byte-wide c wide ∙ rw (escaped_byte-wide c wide) (sym (append-nil (encode_utf8 c)))
]

pub escaped-encodes : (cs : List ℕ) → escaped (encode_utf8_all cs) ≡ encode_utf8_all (flat_map escaped_byte cs)
escaped-encodes [] = refl
escaped-encodes (c ∷ cs) =
    flat_map-append escaped_byte (encode_utf8 c) (encode_utf8_all cs)
    ∙ rw (escaped-character c, escaped-encodes cs) (sym (encodes-append (escaped_byte c) (flat_map escaped_byte cs)))

pub spelled-text : (cs : List ℕ) → spelled (text_marks cs) ≡ encode_utf8_all cs
spelled-text cs = ap encode_utf8_all (text_marks-characters cs)
