-- Characters within a range of ASCII.
use Rattle.std.proofs.Common.{◌≡◌, ℕ, ◌<◌, ◌≤◌, Bool, true, false, not, ◌==◌, ◌&&◌, nat_le, List, [], ◌∷◌, map, encode_utf8_all, refl, ◌∙◌, arith, ◌⊎◌, inl, inr}
use Rattle.std.specs.List.{list_all}
use lib.Utf8.{scalar}
use Rattle.std.proofs.lemmas.Bool.{and_parts, and_from, ne_eqb, leb-true, le-leb, lt-ltb}
use Rattle.std.proofs.lemmas.Str.{encode_ascii}
use Rattle.gift_lex.specs.declared.block.Piece.TheVariants.{Plain}
use Rattle.gift_lex.specs.Blocks.{single}
use Rattle.gift_laws.proofs.ListLemmas.{list_all-implies}
use Rattle.gift_laws.proofs.ReadBackWriting.{Writes, Writes-ascii, scalars-all}

abbrev pub is_within : ℕ → ℕ → ℕ → Bool
is_within low high c = nat_le low c && nat_le c high

pub record IsRange (low high c : ℕ) : Type 0 where
  pub from : low ≤ c
  pub to : c ≤ high

pub within-range : (low high c : ℕ) → is_within low high c ≡ true → IsRange low high c
within-range low high c is = let parts = and_parts (nat_le low c) (nat_le c high) is in record { from = leb-true low c parts.0; to = leb-true c high parts.1 }

range-within : (low high c : ℕ) → low ≤ c → c ≤ high → is_within low high c ≡ true
range-within low high c from to = and_from (nat_le low c) (nat_le c high) (le-leb low c from) (le-leb c high to)

-- a wider range
pub within-wider : (low high lower higher : ℕ) → lower ≤ low → high ≤ higher → (cs : List ℕ) → list_all (is_within low high) cs ≡ true → list_all (is_within lower higher) cs ≡ true
within-wider low high lower higher less more cs all =
    list_all-implies (is_within low high) (is_within lower higher) (λ c is. let range = within-range low high c is in range-within lower higher c (omega (arith, range.from)) (omega (arith, range.to))) cs all

-- no other character is among them
pub within-other : (low high d : ℕ) → (d < low) ⊎ (high < d) → (cs : List ℕ) → list_all (is_within low high) cs ≡ true → list_all (λ c. not (c == d)) cs ≡ true
within-other low high d outside cs all = list_all-implies (is_within low high) (λ c. not (c == d)) (λ c is. go c (within-range low high c is) outside) cs all
  where
    go : (c : ℕ) → IsRange low high c → (d < low) ⊎ (high < d) → not (c == d) ≡ true
    go c range (inl less) = rw (ne_eqb c d (λ e. omega (arith, range.from))) refl
    go c range (inr more) = rw (ne_eqb c d (λ e. omega (arith, range.to))) refl

-- their bytes
pub within-bytes : (low high : ℕ) → high < 128 → (cs : List ℕ) → list_all (is_within low high) cs ≡ true → encode_utf8_all cs ≡ cs
within-bytes low high ascii [] all = refl
within-bytes low high ascii (c ∷ cs) all =
    let parts = and_parts (is_within low high c) (list_all (is_within low high) cs) all in
    let range = within-range low high c parts.0 in
    rw (encode_ascii c (omega (arith, range.to)), within-bytes low high ascii cs parts.1) refl

-- as they are written
pub Writes-within : (low high : ℕ) → 13 < low → high < 92 → (cs : List ℕ) → list_all (is_within low high) cs ≡ true → Writes cs cs (map single cs)
Writes-within low high from to cs all =
    Writes-ascii cs (within-bytes low high (omega arith) cs all)
    (scalars-all cs ∙ list_all-implies (is_within low high) scalar (λ c is. let range = within-range low high c is in rw (lt-ltb c 55296 (omega (arith, range.to))) refl) cs all)
    (within-other low high 13 (inl (omega arith)) cs all) (within-other low high 10 (inl (omega arith)) cs all) (within-other low high 92 (inr (omega arith)) cs all)

-- as marks, where no sign is within the range
pub plain-single : (c : ℕ) → 35 < c → c < 61 → (c == 58) ≡ false → single c ≡ Plain c
plain-single c from to other =
    rw (ne_eqb c 126 (λ e. omega arith), ne_eqb c 61 (λ e. omega arith), ne_eqb c 35 (λ e. omega arith), ne_eqb c 123 (λ e. omega arith), ne_eqb c 125 (λ e. omega arith), other) refl

pub within-plain : (low high : ℕ) → 35 < low → high < 58 → (cs : List ℕ) → list_all (is_within low high) cs ≡ true → map single cs ≡ map Plain cs
within-plain low high from to [] all = refl
within-plain low high from to (c ∷ cs) all =
    let parts = and_parts (is_within low high c) (list_all (is_within low high) cs) all in
    let range = within-range low high c parts.0 in
    rw (plain-single c (omega (arith, range.from)) (omega (arith, range.to)) (ne_eqb c 58 (λ e. omega (arith, range.to))), within-plain low high from to cs parts.1) refl
