-- Texts written as words, taken by their characters, and read again.
use Rattle.std.proofs.Common.{◌≡◌, ℕ, ◌<◌, ◌≤◌, Bool, true, false, ◌==◌, List, [], ◌∷◌, ◌++◌, length, Option, Some, None, unwrap_or, codes, bytes_eq, cond, encode_utf8_all, refl, ◌∙◌, arith, inl, inr}
use Rattle.std.specs.Char.{encode_utf8}
use Rattle.std.proofs.lemmas.Bool.{cases_lt, eqb-true, ne_eqb}
use Rattle.std.proofs.lemmas.Grind.{flat_map-append}
use Rattle.std.proofs.lemmas.List.{append-nil}
use Rattle.std.proofs.lemmas.Str.{encode_ascii, encodes-append}
use Rattle.qz_text.proofs.WideLemmas.{flat_map-wide}
use Rattle.qz_wire.specs.Escapes.{escaped, escaped_byte, text_word, written_for}
use Rattle.qz_wire.specs.Words.{text_of, unescaped, words_of}
use Rattle.qz_wire.proofs.GatheringLemmas.{plain-byte}
use Rattle.qz_wire.proofs.PartLemmas.{parts-append}

-- what is written for a byte, by the tests of it
abbrev by_tests : Bool → Bool → Bool → Bool → Bool → Option (List ℕ)
by_tests space feed tab return slash = cond space (Some (codes "\\s")) (cond feed (Some (codes "\\n")) (cond tab (Some (codes "\\t")) (cond return (Some (codes "\\r")) (cond slash (Some (codes "\\\\")) None))))

-- ---- characters

wide-byte : (b : ℕ) → 128 ≤ b → escaped_byte b ≡ b ∷ []
wide-byte b wide = rw (ne_eqb b 32 (λ e. omega arith), ne_eqb b 10 (λ e. omega arith), ne_eqb b 9 (λ e. omega arith), ne_eqb b 13 (λ e. omega arith), ne_eqb b 92 (λ e. omega arith)) refl

low-by : (c : ℕ) (w : List ℕ) (space feed tab return slash : Bool) → (c == 32) ≡ space → (c == 10) ≡ feed → (c == 9) ≡ tab → (c == 13) ≡ return → (c == 92) ≡ slash
    → by_tests space feed tab return slash ≡ Some w → c < 128
low-by c w true feed tab return slash is _ _ _ _ _ = omega (arith, eqb-true c 32 is)
low-by c w false true tab return slash _ is _ _ _ _ = omega (arith, eqb-true c 10 is)
low-by c w false false true return slash _ _ is _ _ _ = omega (arith, eqb-true c 9 is)
low-by c w false false false true slash _ _ _ is _ _ = omega (arith, eqb-true c 13 is)
low-by c w false false false false true _ _ _ _ is _ = omega (arith, eqb-true c 92 is)
low-by c w false false false false false _ _ _ _ _ none = absurd cc

pub escaped-written : (c : ℕ) (w : List ℕ) → written_for c ≡ Some w → escaped (encode_utf8 c) ≡ w
escaped-written c w is = rw (encode_ascii c (low-by c w (c == 32) (c == 10) (c == 9) (c == 13) (c == 92) refl refl refl refl refl is), is) (append-nil w)

pub escaped-other : (c : ℕ) → written_for c ≡ None → escaped (encode_utf8 c) ≡ encode_utf8 c
escaped-other c none = elim (cases_lt c 128) [
  | inl low ↦ rw (encode_ascii c low, none) refl
  | inr wide ↦ flat_map-wide escaped_byte wide-byte c wide
]

encodes-push : (cs : List ℕ) (c : ℕ) → encode_utf8_all (cs ++ c ∷ []) ≡ encode_utf8_all cs ++ encode_utf8 c
encodes-push cs c = encodes-append cs (c ∷ []) ∙ rw append-nil refl

pub escaped-push : (cs : List ℕ) (c : ℕ) → escaped (encode_utf8_all (cs ++ c ∷ [])) ≡ escaped (encode_utf8_all cs) ++ escaped (encode_utf8 c)
escaped-push cs c = rw (encodes-push cs c) (flat_map-append escaped_byte (encode_utf8_all cs) (encode_utf8 c))

-- ---- a text that is written as a word is read again

read-by : (c : ℕ) (more text : List ℕ) (space feed tab return slash : Bool) → (c == 32) ≡ space → (c == 10) ≡ feed → (c == 9) ≡ tab → (c == 13) ≡ return → (c == 92) ≡ slash
    → unescaped more ≡ Some text → unescaped (unwrap_or (by_tests space feed tab return slash) (c ∷ []) ++ more) ≡ Some (c ∷ text)
read-by c more text true feed tab return slash is _ _ _ _ later = rw (later, eqb-true c 32 is) refl
read-by c more text false true tab return slash _ is _ _ _ later = rw (later, eqb-true c 10 is) refl
read-by c more text false false true return slash _ _ is _ _ later = rw (later, eqb-true c 9 is) refl
read-by c more text false false false true slash _ _ _ is _ later = rw (later, eqb-true c 13 is) refl
read-by c more text false false false false true _ _ _ _ is later = rw (later, eqb-true c 92 is) refl
read-by c more text false false false false false _ _ _ _ is later = plain-byte c more is ∙ rw later refl

read-again : (text : List ℕ) → unescaped (escaped text) ≡ Some text
read-again [] = refl
read-again (c ∷ cs) = read-by c (escaped cs) cs (c == 32) (c == 10) (c == 9) (c == 13) (c == 92) refl refl refl refl refl (read-again cs)

-- no text is written as the word of the empty one
other-by : (c : ℕ) (more : List ℕ) (space feed tab return slash : Bool) → (c == 92) ≡ slash → bytes_eq (unwrap_or (by_tests space feed tab return slash) (c ∷ []) ++ more) (codes "\\e") ≡ false
other-by c more true feed tab return slash is = refl
other-by c more false true tab return slash is = refl
other-by c more false false true return slash is = refl
other-by c more false false false true slash is = refl
other-by c more false false false false true is = refl
other-by c more false false false false false is = rw is refl

some-by : (c : ℕ) (more : List ℕ) (space feed tab return slash : Bool) → 0 < length (unwrap_or (by_tests space feed tab return slash) (c ∷ []) ++ more)
some-by c more true feed tab return slash = omega arith
some-by c more false true tab return slash = omega arith
some-by c more false false true return slash = omega arith
some-by c more false false false true slash = omega arith
some-by c more false false false false true = omega arith
some-by c more false false false false false = omega arith

word-by : (word text : List ℕ) → 0 < length word → bytes_eq word (codes "\\e") ≡ false → unescaped word ≡ Some text → text_of word ≡ Some text
word-by [] text some other is = absurd (omega (arith, some))
word-by (c ∷ cs) text some other is = rw other is

pub word-read : (text : List ℕ) → text_of (text_word text) ≡ Some text
word-read [] = refl
word-read (c ∷ cs) = word-by (escaped (c ∷ cs)) (c ∷ cs) (some-by c (escaped cs) (c == 32) (c == 10) (c == 9) (c == 13) (c == 92)) (other-by c (escaped cs) (c == 32) (c == 10) (c == 9) (c == 13) (c == 92) refl) (read-again (c ∷ cs))

-- ---- no space stands in the word that spells a text

byte-one : (c : ℕ) (space feed tab return slash : Bool) → (c == 32) ≡ space → words_of (unwrap_or (by_tests space feed tab return slash) (c ∷ [])) ≡ unwrap_or (by_tests space feed tab return slash) (c ∷ []) ∷ []
byte-one c true feed tab return slash is = refl
byte-one c false true tab return slash is = refl
byte-one c false false true return slash is = refl
byte-one c false false false true slash is = refl
byte-one c false false false false true is = refl
byte-one c false false false false false is = rw is refl

escaped-one : (text : List ℕ) → words_of (escaped text) ≡ escaped text ∷ []
escaped-one [] = refl
escaped-one (c ∷ cs) = parts-append 32 (escaped_byte c) (escaped cs) ∙ rw (byte-one c (c == 32) (c == 10) (c == 9) (c == 13) (c == 92) refl, escaped-one cs) refl

pub word-one : (text : List ℕ) → words_of (text_word text) ≡ text_word text ∷ []
word-one [] = refl
word-one (c ∷ cs) = escaped-one (c ∷ cs)
