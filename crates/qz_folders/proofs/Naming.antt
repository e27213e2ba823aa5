-- The names of the files of a folder.
use Rattle.std.proofs.Common.{◌≡◌, ◌∙◌, ℕ, ◌+◌, ◌-◌, ◌/◌, ◌%◌, ◌<◌, ⊎_elim, List, [], ◌∷◌, ◌++◌, length, replicate, ap, refl, sym, get_or, arith}
use Rattle.std.specs.Prelude.{codes}
use Rattle.std.specs.Fmt.{decimal, styled_decimal, format_spec}
use Rattle.std.proofs.Padding.{padded_integral_zeros}
use Rattle.std.proofs.lemmas.Bool.{cases_lt}
use Rattle.std.proofs.lemmas.Fmt.{decimal_digit, decimal_step}
use Rattle.qz_grading.specs.Words.{in_digits}
use Rattle.qz_folders.specs.Names.{catalog_name, part_name}

pub two_digits : (n : ℕ) → n < 100 → in_digits 2 n ≡ (48 + n / 10) ∷ (48 + n % 10) ∷ []
two_digits n below = ⊎_elim
    (λ one.
    let digit = decimal_digit n one in
    let tens : 48 ≡ 48 + n / 10 = omega arith in
    let ones : n ≡ n % 10 = omega arith in
    ap (λ (d : List ℕ). replicate (2 - length d) 48 ++ d) digit ∙ ap (λ t. t ∷ (48 + n) ∷ []) tens ∙ ap (λ u. (48 + n / 10) ∷ (48 + u) ∷ []) ones)
    (λ two.
    let both = decimal_step n two (omega arith) ∙ ap (λ (d : List ℕ). d ++ ((48 + n % 10) ∷ [])) (decimal_digit (n / 10) (omega arith)) in
    ap (λ (d : List ℕ). replicate (2 - length d) 48 ++ d) both)
    (cases_lt n 10)

pub names_apart : (shard other : ℕ) → shard < 100 → other < 100 → part_name shard ≡ part_name other → shard ≡ other
names_apart shard other low below same =
    let digits = sym (ap (λ (d : List ℕ). codes "part-" ++ d ++ codes ".jnl") (two_digits shard low)) ∙ same ∙ ap (λ (d : List ℕ). codes "part-" ++ d ++ codes ".jnl") (two_digits other below) in
    let tens : 48 + shard / 10 ≡ 48 + other / 10 = ap (λ (l : List ℕ). get_or l 5 0) digits in
    let ones : 48 + shard % 10 ≡ 48 + other % 10 = ap (λ (l : List ℕ). get_or l 6 0) digits in
    omega arith

unlike : (a b : ℕ) → a ≡ b → a ≡ 112 → b ≡ 99 → ⊥
unlike a b same first second = omega arith

pub none_is_the_catalogue : (shard : ℕ) → part_name shard ≡ catalog_name → ⊥
none_is_the_catalogue shard same = unlike _ _ (ap (λ (l : List ℕ). get_or l 0 0) same) refl refl

-- what a format of two digits with zeros in front writes
pub padded_to_two : (n : ℕ) → styled_decimal (format_spec 32 0 4 2 18446744073709551615) n ≡ in_digits 2 n
padded_to_two n = padded_integral_zeros (format_spec 32 0 4 2 18446744073709551615) (decimal n) refl refl
