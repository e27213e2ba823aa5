-- Records of texts are text.
use Rattle.std.proofs.Common.{◌≡◌, ℕ, ◌<◌, ◌≤◌, Bool, ◌==◌, true, false, if◌then◌else◌, List, [], ◌∷◌, ◌++◌, encode_utf8_all, flat_map, refl, ◌∙◌, arith, inl, inr, subst}
use Rattle.std.specs.Char.{encode_utf8}
use Rattle.std.specs.Str.{IsUtf8}
use Rattle.std.proofs.lemmas.Bool.{and_parts, cases_lt, cond_both, ne_eqb}
use Rattle.std.proofs.lemmas.List.{append-nil}
use Rattle.std.proofs.lemmas.Str.{IsUtf8-append, IsUtf8-nil, encode_ascii}
use Rattle.csv.specs.Writing.{default_writer, escaped, field_text, fields_text, is_blank, needs_quotes, quoted}
use Rattle.csv.proofs.WriteFacts.{escaped-append}
use Rattle.qz_text.proofs.WideLemmas.{flat_map-wide}
use Rattle.qz_pages.specs.Reports.{csv_row}
use lib.Utf8.{scalar, scalars}

-- ---- a field between quotes

-- each byte as it stands there
doubled : ℕ → List ℕ
doubled b = if b == 34 then 34 ∷ b ∷ [] else b ∷ []

twice_or_once : (quote : Bool) (b : ℕ) (rest : List ℕ) → (if quote then 34 ∷ b ∷ rest else b ∷ rest) ≡ (if quote then 34 ∷ b ∷ [] else b ∷ []) ++ rest
twice_or_once true b rest = refl
twice_or_once false b rest = refl

escaped-doubled : (bs : List ℕ) → escaped default_writer bs ≡ flat_map doubled bs
unfolding doubled escaped
escaped-doubled [] = refl
escaped-doubled (b ∷ bs) = rw (escaped-doubled bs) (twice_or_once (b == 34) b (flat_map doubled bs))

doubled-wide : (b : ℕ) → 128 ≤ b → doubled b ≡ b ∷ []
unfolding doubled
doubled-wide b wide = rw (ne_eqb b 34 (λ e. omega arith)) refl

escaped-wide : (c : ℕ) → 128 ≤ c → escaped default_writer (encode_utf8 c) ≡ encode_utf8 c
escaped-wide c wide = escaped-doubled (encode_utf8 c) ∙ flat_map-wide doubled doubled-wide c wide

ascii_text : (c : ℕ) → c < 128 → scalar c ≡ true → IsUtf8 (c ∷ [])
ascii_text c low ok = (c ∷ [], (rw ok refl, rw (encode_ascii c low) refl))

quote_text : IsUtf8 (34 ∷ [])
quote_text = ascii_text 34 (omega arith) refl

escaped-ascii : (c : ℕ) → c < 128 → scalar c ≡ true → IsUtf8 (escaped default_writer (c ∷ []))
unfolding escaped
escaped-ascii c low ok =
    let P : List ℕ → Type 0 = λ bs. IsUtf8 bs in
    let plain = ascii_text c low ok in
    cond_both (c == 34) (34 ∷ c ∷ []) (c ∷ []) P (λ _. IsUtf8-append (34 ∷ []) (c ∷ []) quote_text plain) (λ _. plain)

escaped-char : (c : ℕ) → scalar c ≡ true → IsUtf8 (escaped default_writer (encode_utf8 c))
escaped-char c ok = elim (cases_lt c 128) [
  | inl low ↦ rw (encode_ascii c low) (escaped-ascii c low ok)
  | inr wide ↦ rw (escaped-wide c wide) (c ∷ [], (rw ok refl, append-nil (encode_utf8 c)))
]

escaped-chars : (cs : List ℕ) → scalars cs ≡ true → IsUtf8 (escaped default_writer (encode_utf8_all cs))
unfolding escaped
escaped-chars [] ok = IsUtf8-nil
escaped-chars (c ∷ cs) ok =
    let parts = and_parts (scalar c) (scalars cs) ok in
    rw (escaped-append default_writer (encode_utf8 c) (encode_utf8_all cs)) (IsUtf8-append _ _ (escaped-char c parts.0) (escaped-chars cs parts.1))

quoted-text : (field : List ℕ) → IsUtf8 field → IsUtf8 (quoted default_writer field)
quoted-text field text =
    let P : List ℕ → Type 0 = λ bs. IsUtf8 (escaped default_writer bs) in
    let inside : IsUtf8 (escaped default_writer field) = subst P text.1.1 (escaped-chars text.0 text.1.0) in
    IsUtf8-append (34 ∷ []) (escaped default_writer field ++ 34 ∷ []) quote_text (IsUtf8-append _ _ inside quote_text)

-- ---- a record

field_text-text : (field : List ℕ) → IsUtf8 field → IsUtf8 (field_text default_writer field)
field_text-text field text =
    let P : List ℕ → Type 0 = λ bs. IsUtf8 bs in
    cond_both (needs_quotes default_writer field) (quoted default_writer field) field P (λ _. quoted-text field text) (λ _. text)

pub csv_row-text : (a b c : List ℕ) → IsUtf8 a → IsUtf8 b → IsUtf8 c → IsUtf8 (csv_row (a ∷ b ∷ c ∷ []))
unfolding fields_text is_blank
csv_row-text a b c first second third =
    let comma : IsUtf8 (44 ∷ []) = ascii_text 44 (omega arith) refl in
    let feed : IsUtf8 (10 ∷ []) = ascii_text 10 (omega arith) refl in
    let last = IsUtf8-append (44 ∷ []) _ comma (IsUtf8-append _ [] (field_text-text c third) IsUtf8-nil) in
    let later = IsUtf8-append (44 ∷ []) _ comma (IsUtf8-append _ _ (field_text-text b second) last) in
    IsUtf8-append _ _ (IsUtf8-append _ _ (field_text-text a first) later) feed
