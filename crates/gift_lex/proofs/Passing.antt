-- Characters that pass a test, by their bytes.
use Rattle.std.proofs.Common.{◌≡◌, ℕ, ◌<◌, ◌≤◌, Bool, true, List, [], ◌∷◌, take, refl, sym, ap, ◌∙◌, arith, inl, inr}
use Rattle.std.specs.List.{list_all, prefix_len}
use Rattle.std.specs.Str.{IsUtf8, chars, encode_utf8_all}
use Rattle.std.specs.Prelude.{encode_utf8}
use Rattle.std.proofs.lemmas.Bool.{and_parts, and_from, cases_lt}
use Rattle.std.proofs.lemmas.List.{get_or-take, length-take}
use Rattle.std.proofs.lemmas.List.Folds.{list_all-append}
use Rattle.std.proofs.lemmas.List.Sums.{list_all-from_AllPass, prefix_len_passes}
use Rattle.std.proofs.lemmas.Str.{encode_ascii, encodes-chars}

-- the front of those that pass
pub list_all-front : {X : Type 0} (p : X → Bool) (xs : List X) → list_all p (take (prefix_len p xs) xs) ≡ true
list_all-front {X} p xs =
    let n = prefix_len p xs in
    list_all-from_AllPass p (take n xs) (λ k d lt. let short : k < n = omega (arith, length-take n xs) in rw (get_or-take n xs k d short) (prefix_len_passes p xs k d short))

list_all-encodes : (p : ℕ → Bool) → ((c : ℕ) → 128 ≤ c → p c ≡ true) → (cs : List ℕ) → list_all p (encode_utf8_all cs) ≡ true → list_all p cs ≡ true
list_all-encodes p high [] e = refl
list_all-encodes p high (c ∷ cs) e =
    let parts = and_parts (list_all p (encode_utf8 c)) (list_all p (encode_utf8_all cs)) (sym (list_all-append p (encode_utf8 c) (encode_utf8_all cs)) ∙ e) in
    let first : p c ≡ true =
    elim (cases_lt c 128) [ inl low ↦ (and_parts (p c) true (rw (encode_ascii c low) at parts.0)).0 | inr le ↦ high c le ] in
    and_from (p c) (list_all p cs) first (list_all-encodes p high cs parts.1)

-- a test that each character beyond ASCII passes, and each byte, is passed by each character
pub list_all-chars : (p : ℕ → Bool) → ((c : ℕ) → 128 ≤ c → p c ≡ true) → (bs : List ℕ) → IsUtf8 bs → list_all p bs ≡ true → list_all p (chars bs) ≡ true
list_all-chars p high bs utf8 e = list_all-encodes p high (chars bs) (ap (list_all p) (encodes-chars bs utf8) ∙ e)
