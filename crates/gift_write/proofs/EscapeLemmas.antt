-- Texts whose bytes are written one by one, taken by their characters.
use Rattle.std.proofs.Common.{◌≡◌, ℕ, ◌≤◌, false, cond, ◌==◌, List, [], ◌∷◌, ◌++◌, flat_map, encode_utf8_all, ◌≢◌, refl, ◌∙◌, arith, inl, inr}
use Rattle.std.specs.Char.{encode_utf8}
use Rattle.std.proofs.lemmas.Bool.{ne_eqb, cases_lt}
use Rattle.std.proofs.lemmas.Grind.{flat_map-append}
use Rattle.std.proofs.lemmas.List.{append-nil}
use Rattle.std.proofs.lemmas.Str.{encode_ascii, encodes-append}
use Rattle.qz_grading.specs.Canonical.{is_sign, escaped_byte, escaped, category_name}
use Rattle.gift_write.specs.declared.escaping.Escape.{Escape}
use Rattle.gift_write.specs.declared.escaping.Escape.TheVariants as escape
use Rattle.gift_write.specs.Escapes.{written_text}
use Rattle.qz_text.proofs.WideLemmas.{flat_map-wide}

-- ---- one character beyond ASCII

pub escaped_byte-wide : (b : ℕ) → 128 ≤ b → escaped_byte b ≡ b ∷ []
escaped_byte-wide b wide =
    rw (ne_eqb b 10 (λ e. omega arith), ne_eqb b 126 (λ e. omega arith), ne_eqb b 61 (λ e. omega arith), ne_eqb b 35 (λ e. omega arith), ne_eqb b 123 (λ e. omega arith), ne_eqb b 125 (λ e. omega arith), ne_eqb b 58 (λ e. omega arith), ne_eqb b 92 (λ e. omega arith)) refl

doubled-wide : (b : ℕ) → 128 ≤ b → cond (b == 47) (47 ∷ 47 ∷ []) (b ∷ []) ≡ b ∷ []
doubled-wide b wide = rw (ne_eqb b 47 (λ e. omega arith)) refl

-- ---- any character

pub escaped-plain : (c : ℕ) → c ≢ 10 → is_sign c ≡ false → escaped (encode_utf8 c) ≡ encode_utf8 c
escaped-plain c feed plain = elim (cases_lt c 128) [
  | inl low ↦ rw (encode_ascii c low, ne_eqb c 10 feed, plain) refl
  | inr wide ↦ flat_map-wide escaped_byte escaped_byte-wide c wide
]

pub category_name-other : (c : ℕ) → c ≢ 47 → category_name (encode_utf8 c) ≡ encode_utf8 c
category_name-other c other = elim (cases_lt c 128) [
  | inl low ↦ rw (encode_ascii c low, ne_eqb c 47 other) refl
  | inr wide ↦ flat_map-wide (λ b. cond (b == 47) (47 ∷ 47 ∷ []) (b ∷ [])) doubled-wide c wide
]

encodes-push : (cs : List ℕ) (c : ℕ) → encode_utf8_all (cs ++ c ∷ []) ≡ encode_utf8_all cs ++ encode_utf8 c
encodes-push cs c = encodes-append cs (c ∷ []) ∙ rw append-nil refl

pub written_text-push : (e : Escape) (cs : List ℕ) (c : ℕ) → written_text e (encode_utf8_all (cs ++ c ∷ [])) ≡ written_text e (encode_utf8_all cs) ++ written_text e (encode_utf8 c)
written_text-push escape.Signs cs c = rw (encodes-push cs c) (flat_map-append escaped_byte (encode_utf8_all cs) (encode_utf8 c))
written_text-push escape.Slashes cs c = rw (encodes-push cs c) (flat_map-append (λ b. cond (b == 47) (47 ∷ 47 ∷ []) (b ∷ [])) (encode_utf8_all cs) (encode_utf8 c))
