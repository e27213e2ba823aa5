-- What a line begins with, by its bytes and by its characters.
use Rattle.std.proofs.Common.{◌≡◌, ℕ, ◌<◌, ◌≤◌, Bool, true, false, cond, eqb, ltb, ◌&&◌, List, [], ◌∷◌, ◌++◌, length, get_or, refl, sym, ap, ◌∙◌, arith, inl, inr}
use Rattle.std.specs.Prelude.{encode_utf8}
use Rattle.std.specs.List.{list_all, starts_with}
use Rattle.std.specs.Str.{IsUtf8, chars, encode_utf8_all}
use Rattle.std.proofs.lemmas.Bool.{and_parts, cases_lt, ne_eqb, ltb-true}
use Rattle.std.proofs.lemmas.Str.{encode_ascii, encodes-chars, char_from_byte, length-le-encodes}
use Rattle.gift_lex.specs.Blocks.{is_gap, unindented}

-- a line of spaces and tabs alone has nothing else
pub all_gap-unindented : (cs : List ℕ) → list_all is_gap cs ≡ eqb (length (unindented cs)) 0
all_gap-unindented [] = refl
all_gap-unindented (c ∷ cs) = go (is_gap c) (all_gap-unindented cs)
  where
    go : (b : Bool) → list_all is_gap cs ≡ eqb (length (unindented cs)) 0 → (b && list_all is_gap cs) ≡ eqb (length (cond b (unindented cs) (c ∷ cs))) 0
    go true later = later
    go false later = sym (ne_eqb _ 0 (λ e. omega arith))

-- a text is empty where it has no character
pub length-chars-zero : (bs : List ℕ) → IsUtf8 bs → eqb (length bs) 0 ≡ eqb (length (chars bs)) 0
length-chars-zero bs utf8 = ap (λ t. eqb (length t) 0) (sym (encodes-chars bs utf8)) ∙ go (chars bs)
  where
    go : (cs : List ℕ) → eqb (length (encode_utf8_all cs)) 0 ≡ eqb (length cs) 0
    go [] = refl
    go (c ∷ cs) = ne_eqb _ 0 (λ e. omega (arith, length-le-encodes (c ∷ cs), e)) ∙ sym (ne_eqb _ 0 (λ e. omega arith))

-- ---- an ASCII front

-- no such front has a byte beyond ASCII
starts_with-high : (bs needle : List ℕ) (n : ℕ) → 0 < length bs → n < 128 → 128 ≤ get_or bs 0 0 → starts_with eqb bs (n ∷ needle) ≡ false
starts_with-high [] needle n some low high = absurd (omega arith)
starts_with-high (b ∷ bs) needle n some low high = rw (ne_eqb n b (λ e. omega arith)) refl

starts_with-encodes : (needle cs : List ℕ) → list_all (λ c. ltb c 128) needle ≡ true → starts_with eqb (encode_utf8_all cs) needle ≡ starts_with eqb cs needle
starts_with-encodes [] cs low = refl
starts_with-encodes (n ∷ needle) [] low = refl
starts_with-encodes (n ∷ needle) (c ∷ cs) low =
    let parts = and_parts (ltb n 128) (list_all (λ c. ltb c 128) needle) low in
    let n_low : n < 128 = ltb-true n 128 parts.0 in
    let bs = encode_utf8 c ++ encode_utf8_all cs in
    let some : 0 < length bs = omega (arith, length-le-encodes (c ∷ cs)) in
    elim (cases_lt c 128) [
      | inl ascii ↦ rw (encode_ascii c ascii, starts_with-encodes needle cs parts.1) refl
      | inr wide ↦
          elim (cases_lt (get_or bs 0 0) 128) [
            | inl first ↦ absurd (omega (arith, char_from_byte bs (encode_utf8_all cs) c refl first some))
            | inr high ↦ starts_with-high bs needle n some n_low high ∙ sym (starts_with-high (c ∷ cs) needle n (omega arith) n_low wide)
          ]
    ]

-- a text begins with ASCII bytes where it begins with these as characters
pub starts_with-chars : (bs needle : List ℕ) → IsUtf8 bs → list_all (λ c. ltb c 128) needle ≡ true → starts_with eqb bs needle ≡ starts_with eqb (chars bs) needle
starts_with-chars bs needle utf8 low = ap (λ t. starts_with eqb t needle) (sym (encodes-chars bs utf8)) ∙ starts_with-encodes needle (chars bs) low
