-- Words that stand one behind the other on a line.
use Rattle.std.proofs.Common.{◌≡◌, ◌^◌, ◌<◌, ℕ, true, false, ◌==◌, List, [], ◌∷◌, ◌++◌, decimal, refl, ap, ◌∙◌, arith}
use Rattle.std.specs.Char.{is_ascii_digit}
use Rattle.std.specs.Str.{all_ascii_digits}
use Rattle.std.proofs.lemmas.Bool.{and_parts}
use Rattle.std.proofs.lemmas.Bool.Decides.{nat_tests}
use Rattle.std.proofs.lemmas.Fmt.{digits_decimal}
use Rattle.std.proofs.lemmas.List.{append-nil}
use Rattle.std.proofs.lemmas.Str.Parse.{numerals_by_value, tells_all_ascii_digits}
use Rattle.qz_wire.specs.Words.{words_of, words_after}
use Rattle.qz_wire.proofs.PartLemmas.{glued, parts-append, some_part}

glued-space : (w : List ℕ) (ws more : List (List ℕ)) → glued (w ∷ ws) ([] ∷ more) ≡ (w ∷ ws) ++ more
glued-space w [] more = ap (λ (v : List ℕ). v ∷ more) (append-nil w)
glued-space w (v ∷ vs) more = ap (λ (l : List (List ℕ)). w ∷ l) (glued-space v vs more)

-- a word more, in which no space stands
pub word-more : (line w : List ℕ) → words_of w ≡ w ∷ [] → words_after (line ++ 32 ∷ w) ≡ words_after line ++ w ∷ []
word-more [] w one = one
word-more (c ∷ cs) w one =
    let some = some_part 32 cs in
    parts-append 32 cs (32 ∷ w) ∙ rw (some.2, one) (glued-space some.0 some.1 (w ∷ []))

pub word-added : (old new w : List ℕ) → new ≡ old ++ 32 ∷ w → words_of w ≡ w ∷ [] → words_after new ≡ words_after old ++ w ∷ []
word-added old new w is one = rw is (word-more old w one)

-- ---- digits

digits-one : (ds : List ℕ) → all_ascii_digits ds ≡ true → words_of ds ≡ ds ∷ []
digits-one [] all = refl
digits-one (d ∷ ds) all =
    let both = and_parts (is_ascii_digit d) (all_ascii_digits ds) all in
    let other : (d == 32) ≡ false = grind (arith, nat_tests) in
    rw (other, digits-one ds both.1) refl

pub number-one : (n : ℕ) → n < 2 ^ 64 → words_of (decimal n) ≡ decimal n ∷ []
number-one n small = digits-one (decimal n) (digits_decimal (numerals_by_value _ tells_all_ascii_digits) n small)
