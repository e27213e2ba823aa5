-- Characters beyond ASCII, taken by their bytes.
use Rattle.std.proofs.Common.{◌≡◌, ℕ, ◌+◌, ◌/◌, ◌≤◌, cond, ltb, List, [], ◌∷◌, flat_map, refl, arith}
use Rattle.std.specs.Char.{encode_utf8}
use Rattle.std.proofs.lemmas.Bool.{cond_both, ltb-true}
use lib.Utf8.{next}

-- no byte of it is below 128, so it is written as it is where such bytes are
pub flat_map-wide : (f : ℕ → List ℕ) → ((b : ℕ) → 128 ≤ b → f b ≡ b ∷ []) → (c : ℕ) → 128 ≤ c → flat_map f (encode_utf8 c) ≡ encode_utf8 c
unfolding encode_utf8
flat_map-wide f plain c wide =
    let P : List ℕ → Type 0 = λ bs. flat_map f bs ≡ bs in
    let two : List ℕ = (192 + c / 64) ∷ next c ∷ [] in
    let three : List ℕ = (224 + c / 4096) ∷ next (c / 64) ∷ next c ∷ [] in
    let four : List ℕ = (240 + c / 262144) ∷ next (c / 4096) ∷ next (c / 64) ∷ next c ∷ [] in
    let more = λ (n : ℕ). plain (next n) (omega arith) in
    cond_both (ltb c 128) (c ∷ []) (cond (ltb c 2048) two (cond (ltb c 65536) three four)) P (λ t. absurd (omega (arith, ltb-true c 128 t)))
    (λ _. cond_both (ltb c 2048) two (cond (ltb c 65536) three four) P (λ _. rw (plain (192 + c / 64) (omega arith), more c) refl)
    (λ _. cond_both (ltb c 65536) three four P (λ _. rw (plain (224 + c / 4096) (omega arith), more (c / 64), more c) refl)
    (λ _. rw (plain (240 + c / 262144) (omega arith), more (c / 4096), more (c / 64), more c) refl)))
