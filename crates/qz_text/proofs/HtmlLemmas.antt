-- Texts as they stand in HTML.
use Rattle.std.proofs.Common.{◌≡◌, ◌≢◌, ℕ, ◌≤◌, true, not, List, [], ◌∷◌, ◌++◌, encode_utf8_all, refl, sym, ap, ◌∙◌, arith, inl, inr}
use Rattle.std.specs.Char.{encode_utf8}
use Rattle.std.specs.List.{list_all}
use Rattle.std.proofs.lemmas.Bool.{ne_eqb, cases_eq, cases_lt}
use Rattle.std.proofs.lemmas.Grind.{flat_map-append}
use Rattle.std.proofs.lemmas.List.{append-nil}
use Rattle.std.proofs.lemmas.List.Folds.{list_all-append}
use Rattle.std.proofs.lemmas.Str.{encode_ascii, encodes-append}
use Rattle.qz_text.proofs.WideLemmas.{flat_map-wide}
use Rattle.qz_text.specs.Html.{html_byte, html_of, is_own_mark, text_of_html, text_behind}

html_byte-other : (b : ℕ) → b ≢ 38 → b ≢ 60 → b ≢ 62 → b ≢ 34 → b ≢ 39 → html_byte b ≡ b ∷ []
html_byte-other b a l g q s = rw (ne_eqb b 38 a, ne_eqb b 60 l, ne_eqb b 62 g, ne_eqb b 34 q, ne_eqb b 39 s) refl

html_byte-wide : (b : ℕ) → 128 ≤ b → html_byte b ≡ b ∷ []
html_byte-wide b wide = html_byte-other b (λ e. omega arith) (λ e. omega arith) (λ e. omega arith) (λ e. omega arith) (λ e. omega arith)

pub html_of-other : (c : ℕ) → c ≢ 38 → c ≢ 60 → c ≢ 62 → c ≢ 34 → c ≢ 39 → html_of (encode_utf8 c) ≡ encode_utf8 c
html_of-other c a l g q s = elim (cases_lt c 128) [
  | inl low ↦ rw (encode_ascii c low, ne_eqb c 38 a, ne_eqb c 60 l, ne_eqb c 62 g, ne_eqb c 34 q, ne_eqb c 39 s) refl
  | inr wide ↦ flat_map-wide html_byte html_byte-wide c wide
]

pub html_of-push : (cs : List ℕ) (c : ℕ) → html_of (encode_utf8_all (cs ++ c ∷ [])) ≡ html_of (encode_utf8_all cs) ++ html_of (encode_utf8 c)
html_of-push cs c = rw (encodes-append cs (c ∷ []), append-nil) (flat_map-append html_byte (encode_utf8_all cs) (encode_utf8 c))

-- ---- what is left, and what it stands for

-- what holds of each reference and of each other byte holds of what is written for any byte
by_byte : {P : ℕ → Type 0} → P 38 → P 60 → P 62 → P 34 → P 39 → ((c : ℕ) → c ≢ 38 → c ≢ 60 → c ≢ 62 → c ≢ 34 → c ≢ 39 → P c) → (c : ℕ) → P c
by_byte {P} pa pl pg pq ps other c = elim (cases_eq c 38) [
  | inl e ↦ rw (e) pa
  | inr a ↦ elim (cases_eq c 60) [
    | inl e ↦ rw (e) pl
    | inr l ↦ elim (cases_eq c 62) [
      | inl e ↦ rw (e) pg
      | inr g ↦ elim (cases_eq c 34) [
        | inl e ↦ rw (e) pq
        | inr q ↦ elim (cases_eq c 39) [
          | inl e ↦ rw (e) ps
          | inr s ↦ other c a l g q s
        ]
      ]
    ]
  ]
]

abbrev IsUnmarked : ℕ → Type 0
IsUnmarked c = list_all (λ b. not (is_own_mark b)) (html_byte c) ≡ true

unmarked-byte : (c : ℕ) → IsUnmarked c
unmarked-byte = by_byte {P = IsUnmarked} refl refl refl refl refl (λ c a l g q s. rw (html_byte-other c a l g q s, ne_eqb c 60 l, ne_eqb c 62 g, ne_eqb c 34 q, ne_eqb c 39 s) refl)

pub unmarked : (text : List ℕ) → list_all (λ b. not (is_own_mark b)) (html_of text) ≡ true
unmarked [] = refl
unmarked (c ∷ cs) = list_all-append (λ b. not (is_own_mark b)) (html_byte c) (html_of cs) ∙ rw (unmarked-byte c) (unmarked cs)

abbrev IsBack : ℕ → Type 0
IsBack c = (rest : List ℕ) → text_behind 0 (html_byte c ++ rest) ≡ c ∷ text_behind 0 rest

back-byte : (c : ℕ) → IsBack c
back-byte = by_byte {P = IsBack} (λ rest. refl) (λ rest. refl) (λ rest. refl) (λ rest. refl) (λ rest. refl) (λ c a l g q s rest. rw (html_byte-other c a l g q s, ne_eqb 38 c (λ e. a (sym e))) refl)

pub back : (text : List ℕ) → text_of_html (html_of text) ≡ text
back [] = refl
back (c ∷ cs) = back-byte c (html_of cs) ∙ ap (λ t. c ∷ t) (back cs)
