-- What of a text is compared: trimmed, folded and in UTF-8.
use Rattle.std.proofs.Common.{◌≡◌, ℕ, ◌+◌, ◌/◌, ◌<◌, Bool, true, not, cond, ◌&&◌, ◌||◌, eqb, ltb, List, [], ◌∷◌, ◌++◌, length, map, flat_map, All, IsUtf8, encode_utf8_all, refl, sym, ap, ap₂, ◌∙◌, subst, ⊎_elim, arith, append-nil, length-append}
use Rattle.std.proofs.lemmas.Bool.{cond_both, and_parts, and_from, or_parts, not-true, eqb-false, ne_eqb, ltb-true}
use Rattle.std.proofs.lemmas.List.{get_or_default}
use Rattle.std.proofs.lemmas.List.Elements.{All-nil, All-cons, All-append, All-from_recursion, All-head, All-tail}
use Rattle.std.proofs.lemmas.Str.{chars-encodes, scalars-chars, encodes-append, inside_one, length-encode, len_utf8_bounds}
use Rattle.std.specs.Char.{is_whitespace, encode_utf8}
use Rattle.std.specs.List.{list_all}
use Rattle.std.specs.Str.{chars, trim, trim_start, trim_end, skip_leading_whitespace, drop_trailing_whitespace}
use lib.Utf8.{next, scalar, scalars, scalar_cases}
use Rattle.ucd_table.proofs.Computing.{tables}
use Rattle.ucd_table.proofs.RangedFacts.{values_ok, Stepped-at_values}
use Rattle.ucd_case.specs.CaseFolding.{full_folding, or_itself, full_fold}
use Rattle.ucd_case.proofs.CaseFoldingLemmas.{full_folding_stepped}
use Rattle.ucd_case.proofs.Computing.{ucd_case}
use Rattle.caseless.specs.Caseless.{default_case_fold}
use Rattle.qz_text.specs.Gaps.{gap}
use Rattle.qz_text.specs.Patterns.{trimmed, folded, is_blank, star, backslash, plain_parts, folded_parts}
use Rattle.qz_text.proofs.PartsLemmas.{IsPlain, KeepsSigns, plain_parts-flat_map}

-- ---- trimming

scalars-skip_leading_whitespace : (cs : List ℕ) → scalars cs ≡ true → scalars (skip_leading_whitespace cs) ≡ true
scalars-skip_leading_whitespace [] h = refl
scalars-skip_leading_whitespace (c ∷ cs) h =
    cond_both (is_whitespace c) (skip_leading_whitespace cs) (c ∷ cs) (λ l. scalars l ≡ true)
    (λ _. scalars-skip_leading_whitespace cs (and_parts (scalar c) (scalars cs) h).1) (λ _. h)

scalars-drop_trailing_whitespace : (cs : List ℕ) → scalars cs ≡ true → scalars (drop_trailing_whitespace cs) ≡ true
scalars-drop_trailing_whitespace [] h = refl
scalars-drop_trailing_whitespace (c ∷ cs) h =
    let parts = and_parts (scalar c) (scalars cs) h in
    cond_both (is_whitespace c && eqb (length (drop_trailing_whitespace cs)) 0) [] (c ∷ drop_trailing_whitespace cs) (λ l. scalars l ≡ true) (λ _. refl)
    (λ _. and_from (scalar c) (scalars (drop_trailing_whitespace cs)) parts.0 (scalars-drop_trailing_whitespace cs parts.1))

pub chars-trim : (bs : List ℕ) → IsUtf8 bs → chars (trim bs) ≡ trimmed (chars bs)
unfolding trim_start trim_end
chars-trim bs text =
    let start = scalars-skip_leading_whitespace (chars bs) (scalars-chars bs text) in
    ap (λ cs. chars (encode_utf8_all (drop_trailing_whitespace cs))) (chars-encodes (skip_leading_whitespace (chars bs)) start)
    ∙ chars-encodes (trimmed (chars bs)) (scalars-drop_trailing_whitespace (skip_leading_whitespace (chars bs)) start)

-- ---- the bytes of a folded text

-- the bytes of a character, folded
abbrev pub folded_bytes : ℕ → List ℕ
folded_bytes c = encode_utf8_all (full_fold c)

pub encode_utf8_all-default_case_fold : (cs : List ℕ) → encode_utf8_all (default_case_fold cs) ≡ flat_map folded_bytes cs
unfolding default_case_fold
encode_utf8_all-default_case_fold [] = refl
encode_utf8_all-default_case_fold (c ∷ cs) =
    encodes-append (full_fold c) (flat_map full_fold cs) ∙ ap (λ l. folded_bytes c ++ l) (encode_utf8_all-default_case_fold cs)

or_itself-some : (c : ℕ) (table : List ℕ) → 0 < length (encode_utf8_all (or_itself c table))
or_itself-some c [] = omega (arith, length-append (encode_utf8 c) [], length-encode c, len_utf8_bounds c)
or_itself-some c (x ∷ xs) = omega (arith, length-append (encode_utf8 x) (encode_utf8_all xs), length-encode x, len_utf8_bounds x)

abbrev is_plain : ℕ → Bool
is_plain c = not (eqb c star || eqb c backslash)

-- no folding makes a star or a backslash
full_folding-plain : (c : ℕ) → list_all is_plain (full_folding c) ≡ true
unfolding tables values_ok full_folding_stepped
full_folding-plain c = Stepped-at_values full_folding full_folding_stepped (list_all is_plain) refl c

IsPlain-from_test : (c : ℕ) → is_plain c ≡ true → IsPlain c
IsPlain-from_test c h =
    let neither = or_parts (eqb c star) (eqb c backslash) (not-true (eqb c star || eqb c backslash) h) in
    (eqb-false c star neither.0, eqb-false c backslash neither.1)

All-plain : (cs : List ℕ) → list_all is_plain cs ≡ true → All IsPlain cs
All-plain [] h = All-nil IsPlain
All-plain (c ∷ cs) h =
    let parts = and_parts (is_plain c) (list_all is_plain cs) h in
    All-cons IsPlain c cs (IsPlain-from_test c parts.0) (All-plain cs parts.1)

or_itself-plain : (c : ℕ) (table : List ℕ) → IsPlain c → All IsPlain table → All IsPlain (or_itself c table)
or_itself-plain c [] plain all = All-cons IsPlain c [] plain (All-nil IsPlain)
or_itself-plain c (x ∷ xs) plain all = all

encode_utf8-plain : (c : ℕ) → IsPlain c → All IsPlain (encode_utf8 c)
encode_utf8-plain c plain k d below =
    let whole = sym (append-nil (encode_utf8 c)) in
    subst IsPlain (get_or_default (encode_utf8 c) k 0 d below) (
      λ e. plain.0 (inside_one c [] (encode_utf8 c) k whole below (omega arith) ∙ e),
      λ e. plain.1 (inside_one c [] (encode_utf8 c) k whole below (omega arith) ∙ e),
    )

encode_utf8_all-plain : (cs : List ℕ) → All IsPlain cs → All IsPlain (encode_utf8_all cs)
encode_utf8_all-plain [] all = All-nil IsPlain
encode_utf8_all-plain (c ∷ cs) all =
    All-append IsPlain (encode_utf8 c) (encode_utf8_all cs) (encode_utf8-plain c (All-head IsPlain c cs all)) (encode_utf8_all-plain cs (All-tail IsPlain c cs all))

KeepsSigns-folded_bytes : KeepsSigns folded_bytes
unfolding ucd_case encode_utf8
KeepsSigns-folded_bytes =
    record {
      at_star = refl;
      at_backslash = refl;
      plain = λ c plain. encode_utf8_all-plain (full_fold c) (or_itself-plain c (full_folding c) plain (All-plain (full_folding c) (full_folding-plain c)));
      some = λ c. or_itself-some c (full_folding c);
    }

map-folded_bytes : (parts : List (List ℕ)) → map (flat_map folded_bytes) parts ≡ map encode_utf8_all (map default_case_fold parts)
map-folded_bytes [] = refl
map-folded_bytes (part ∷ parts) = ap₂ ◌∷◌ (sym (encode_utf8_all-default_case_fold part)) (map-folded_bytes parts)

-- the parts of a folded text are the folded parts
pub plain_parts-folded : (text : List ℕ) → plain_parts (encode_utf8_all (folded text)) ≡ map encode_utf8_all (folded_parts text)
unfolding folded folded_parts
plain_parts-folded text =
    let cs : List ℕ = trimmed (chars text) in
    ap plain_parts (encode_utf8_all-default_case_fold cs) ∙ plain_parts-flat_map folded_bytes KeepsSigns-folded_bytes cs ∙ map-folded_bytes (plain_parts cs)

length-folded : (cs : List ℕ) → eqb (length (encode_utf8_all (default_case_fold cs))) 0 ≡ eqb (length cs) 0
length-folded [] = ap (λ l. eqb (length l) 0) (encode_utf8_all-default_case_fold [])
length-folded (c ∷ cs) =
    let bytes = ap length (encode_utf8_all-default_case_fold (c ∷ cs)) ∙ length-append (folded_bytes c) (flat_map folded_bytes cs) in
    ne_eqb (length (encode_utf8_all (default_case_fold (c ∷ cs)))) 0 (λ none. absurd (omega (arith, or_itself-some c (full_folding c))))
    ∙ sym (ne_eqb (length (c ∷ cs)) 0 (λ none. absurd (omega arith)))

-- a text is blank where nothing is compared
pub is_blank-folded : (text : List ℕ) → eqb (length (encode_utf8_all (folded text))) 0 ≡ is_blank text
unfolding folded is_blank
is_blank-folded text = length-folded (trimmed (chars text))

-- ---- no text has a gap

encode_utf8-below : (c : ℕ) → c < 1114112 → All (λ b. b < gap) (encode_utf8 c)
unfolding encode_utf8
encode_utf8-below c h =
    let P : ℕ → Type 0 = λ b. b < gap in
    let two : List ℕ = (192 + c / 64) ∷ next c ∷ [] in
    let three : List ℕ = (224 + c / 4096) ∷ next (c / 64) ∷ next c ∷ [] in
    let four : List ℕ = (240 + c / 262144) ∷ next (c / 4096) ∷ next (c / 64) ∷ next c ∷ [] in
    cond_both (ltb c 128) (c ∷ []) (cond (ltb c 2048) two (cond (ltb c 65536) three four)) (All P)
    (λ t. All-from_recursion P (c ∷ []) (omega (arith, ltb-true c 128 t), tt))
    (λ _. cond_both (ltb c 2048) two (cond (ltb c 65536) three four) (All P)
    (λ t. All-from_recursion P two (omega (arith, ltb-true c 2048 t), (omega arith, tt)))
    (λ _. cond_both (ltb c 65536) three four (All P)
    (λ t. All-from_recursion P three (omega (arith, ltb-true c 65536 t), (omega arith, (omega arith, tt))))
    (λ _. All-from_recursion P four (omega arith, (omega arith, (omega arith, (omega arith, tt)))))))

encode_utf8_all-below : (cs : List ℕ) → scalars cs ≡ true → All (λ b. b < gap) (encode_utf8_all cs)
encode_utf8_all-below [] h = All-nil (λ b. b < gap)
encode_utf8_all-below (c ∷ cs) h =
    let parts = and_parts (scalar c) (scalars cs) h in
    let small : c < 1114112 = ⊎_elim (λ low. omega arith) (λ high. omega arith) (scalar_cases c parts.0) in
    All-append (λ b. b < gap) (encode_utf8 c) (encode_utf8_all cs) (encode_utf8-below c small) (encode_utf8_all-below cs parts.1)

pub All-below_gap : (bs : List ℕ) → IsUtf8 bs → All (λ b. b < gap) bs
All-below_gap bs text = subst (All (λ b. b < gap)) text.1.1 (encode_utf8_all-below text.0 text.1.0)
