-- Items that are gathered one by one, and the texts and numbers made of them.
use Rattle.std.proofs.Common.{◌≡◌, ℕ, ◌-◌, ◌≤◌, true, false, ◌==◌, List, [], ◌∷◌, ◌++◌, length, take, drop, get_or, Option, Some, None, refl, sym, ap, ◌∙◌, append_assoc, arith}
use Rattle.std.specs.Prelude.{option_map}
use Rattle.std.proofs.lemmas.Bool.Decides.{nat_tests}
use Rattle.std.proofs.lemmas.List.{take_all}
use Rattle.qz_wire.specs.Words.{onto, escape_of, unescaped}

-- what is gathered stands before what is still to come, if that is there
abbrev pub in_front : List ℕ → Option (List ℕ) → Option (List ℕ)
in_front items rest = option_map (λ more. items ++ more) rest

in_front-onto : (items : List ℕ) (x : ℕ) (rest : Option (List ℕ)) → in_front items (onto (Some x) rest) ≡ in_front (items ++ x ∷ []) rest
in_front-onto items x (Some more) = ap (λ (t : List ℕ). Some t) (sym (append_assoc items (x ∷ []) more))
in_front-onto items x None = refl

module _ (items : List ℕ) (now rest all : Option (List ℕ)) (so_far : in_front items now ≡ all) where
  pub one_more : (x : ℕ) → now ≡ onto (Some x) rest → in_front (items ++ x ∷ []) rest ≡ all
  one_more x first = sym (in_front-onto items x rest) ∙ ap (in_front items) (sym first) ∙ so_far

-- ---- texts with escapes

-- what stands behind the first byte
abbrev pub rest_of : List ℕ → List ℕ
rest_of text = take (length text - 1) (drop 1 text)

rest-cons : (c : ℕ) (cs : List ℕ) → rest_of (c ∷ cs) ≡ cs
rest-cons c cs = take_all (length (c ∷ cs) - 1) cs (omega arith)

pub plain-byte : (c : ℕ) (cs : List ℕ) → (c == 92) ≡ false → unescaped (c ∷ cs) ≡ onto (Some c) (unescaped cs)
plain-byte c [] plain = rw plain refl
plain-byte c (d ∷ cs) plain = rw plain refl

pub plain-first : (text : List ℕ) → 1 ≤ length text → ¬ (get_or text 0 0 ≡ 92) → unescaped text ≡ onto (Some (get_or text 0 0)) (unescaped (rest_of text))
plain-first [] some other = absurd (omega (arith, some))
plain-first (c ∷ cs) some other =
    let test : (c == 92) ≡ false = grind (arith, nat_tests) in
    rw (rest-cons c cs) (plain-byte c cs test)

pub escape-first : (text : List ℕ) (b : ℕ) → 1 ≤ length (rest_of text) → get_or text 0 0 ≡ 92 → Some b ≡ escape_of (get_or (rest_of text) 0 0) → unescaped text ≡ onto (Some b) (unescaped (rest_of (rest_of text)))
escape-first [] b more is stands = absurd (omega (arith, more))
escape-first (c ∷ []) b more is stands = absurd (omega (arith, more))
escape-first (c ∷ d ∷ cs) b more is stands =
    let one = rest-cons c (d ∷ cs) in
    let stands_for = rw one at stands in
    let test : (c == 92) ≡ true = grind (arith, nat_tests) in
    rw (test, one, rest-cons d cs, ← stands_for) refl
