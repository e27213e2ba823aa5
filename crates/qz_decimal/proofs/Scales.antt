-- Products and quotients by powers of ten, where they are whole and short.
use Rattle.std.proofs.Common.{◌≡◌, ℕ, zero, suc, ◌+◌, ◌-◌, ◌*◌, ◌/◌, ◌%◌, ◌^◌, ◌<◌, ◌≤◌, Bool, true, false, cond, ◌==◌, nat_lt, Some, None, refl, sym, ap, ◌∙◌, arith}
use Rattle.std.proofs.lemmas.Bool.{ne_eqb, eqb-true, ltb-true, le-ltb, lt-ltb}
use Rattle.std.proofs.lemmas.Option.{cond_some}
use Rattle.std.proofs.lemmas.Nat.{pow-add}
use Rattle.std.proofs.Math.Nat.{mul-div-mul_right, mul-mod_left, mul-div_left, mul-add-mod_self_right, mod-eq_of_lt, one-le-pow, mul-le-mul_right, mul-lt-mul_of_pos_right}
use Rattle.qz_decimal.specs.Decimals.{short_size, short_quotient, exact_size}
use Rattle.qz_decimal.proofs.DigitRuns.{pow10-le}

pub pow10-pos : (k : ℕ) → 0 < 10 ^ k
pow10-pos k = one-le-pow k 10 (omega arith)

mod-times : (n d c : ℕ) → 0 < d → 0 < c → (n * c) % (d * c) ≡ n % d * c
mod-times n d c some_d some_c =
    let split : n / d * d + n % d ≡ n = omega arith in
    let product : n * c ≡ n / d * (d * c) + n % d * c = ap (λ k. k * c) (sym split) ∙ omega arith in
    let less : n % d * c < d * c = mul-lt-mul_of_pos_right (omega arith) some_c in
    ap (λ k. k % (d * c)) product ∙ mul-add-mod_self_right (n / d) (d * c) (n % d * c) ∙ mod-eq_of_lt less

same_test : (n c : ℕ) → 0 < c → (n * c == 0) ≡ (n == 0)
same_test zero c some = let none : 0 * c ≡ 0 = omega arith in rw none refl
same_test (suc n) c some = ne_eqb (suc n * c) 0 (λ e. omega arith) ∙ sym (ne_eqb (suc n) 0 (λ e. omega arith))

-- a common factor goes
short_quotient-times : (n d c : ℕ) → 0 < d → 0 < c → short_quotient (n * c) (d * c) ≡ short_quotient n d
short_quotient-times n d c some_d some_c = rw (mod-times n d c some_d some_c, same_test (n % d) c some_c, mul-div-mul_right n d some_c) refl

-- more tens above than below
pub exact_size-up : (number up down : ℕ) → down ≤ up → exact_size number up down ≡ short_size (number * 10 ^ (up - down))
unfolding exact_size
exact_size-up number up down le =
    let powers : 10 ^ up ≡ 10 ^ (up - down) * 10 ^ down = ap (λ k. 10 ^ k) (omega arith) ∙ pow-add 10 (up - down) down in
    let product : number * 10 ^ up ≡ number * 10 ^ (up - down) * 10 ^ down = ap (λ p. number * p) powers ∙ omega arith in
    ap (λ n. short_quotient n (10 ^ down)) product ∙ rw (mul-mod_left (number * 10 ^ (up - down)) (10 ^ down), mul-div_left (number * 10 ^ (up - down)) (pow10-pos down)) refl

-- more tens below than above
pub exact_size-down : (number up down : ℕ) → up ≤ down → exact_size number up down ≡ short_quotient number (10 ^ (down - up))
unfolding exact_size
exact_size-down number up down le =
    let powers : 10 ^ down ≡ 10 ^ (down - up) * 10 ^ up = ap (λ k. 10 ^ k) (omega arith) ∙ pow-add 10 (down - up) up in
    ap (short_quotient (number * 10 ^ up)) powers ∙ short_quotient-times number (10 ^ (down - up)) (10 ^ up) (pow10-pos (down - up)) (pow10-pos up)

-- ---- which numbers are short

pub long-by_tens : (number tens : ℕ) → 0 < number → 25 ≤ tens → 10 ^ 25 ≤ number * 10 ^ tens
long-by_tens number tens some many = omega (arith, pow10-le many, mul-le-mul_right (10 ^ tens) some)

sum-to_25 : (tens : ℕ) → tens ≤ 25 → 25 - tens + tens ≡ 25
sum-to_25 tens few = omega arith

powers-to_25 : (tens : ℕ) → tens ≤ 25 → 10 ^ (25 - tens) * 10 ^ tens ≡ 10 ^ 25
powers-to_25 tens few = sym (pow-add 10 (25 - tens) tens) ∙ ap (λ k. 10 ^ k) (sum-to_25 tens few)

pub long-by_digits : (number tens : ℕ) → tens ≤ 25 → 10 ^ (25 - tens) ≤ number → 10 ^ 25 ≤ number * 10 ^ tens
long-by_digits number tens few long = omega (arith, powers-to_25 tens few, mul-le-mul_right (10 ^ tens) long)

pub short-by_digits : (number tens : ℕ) → tens ≤ 25 → number < 10 ^ (25 - tens) → number * 10 ^ tens < 10 ^ 25
short-by_digits number tens few short = omega (arith, powers-to_25 tens few, mul-lt-mul_of_pos_right short (pow10-pos tens))

pub short_size-long : (size : ℕ) → 10 ^ 25 ≤ size → short_size size ≡ None
short_size-long size long = rw (le-ltb size (10 ^ 25) long) refl

pub short_size-short : (size : ℕ) → size < 10 ^ 25 → short_size size ≡ Some size
short_size-short size short = rw (lt-ltb size (10 ^ 25) short) refl

-- a number below the divisor is no multiple of it
pub short_quotient-below : (number d : ℕ) → 0 < number → number < d → short_quotient number d ≡ None
short_quotient-below number d some below = rw (mod-eq_of_lt below, ne_eqb number 0 (λ e. omega arith)) refl

-- ---- an exact quotient

short_size-found : (n size : ℕ) → short_size n ≡ Some size → (n ≡ size) × (size < 10 ^ 25)
short_size-found n size e =
    let found = cond_some (nat_lt n (10 ^ 25)) n size e in
    let short = ltb-true n (10 ^ 25) found.0 in
    (found.1, omega (arith, short, found.1))

short_quotient-found : (n d size : ℕ) → 0 < d → short_quotient n d ≡ Some size → (size * d ≡ n) × (size < 10 ^ 25)
short_quotient-found n d size some e = go (n % d == 0) refl e
  where
    go : (whole : Bool) → (n % d == 0) ≡ whole → cond whole (short_size (n / d)) None ≡ Some size → (size * d ≡ n) × (size < 10 ^ 25)
    go true is_whole e =
        let found = short_size-found (n / d) size e in
        let none = eqb-true (n % d) 0 is_whole in
        let split : n / d * d + n % d ≡ n = omega arith in
        (ap (λ q. q * d) (sym found.0) ∙ omega arith, found.1)
    go false rest e = absurd cc

pub exact_size-found : (number up down size : ℕ) → exact_size number up down ≡ Some size → (size * 10 ^ down ≡ number * 10 ^ up) × (size < 10 ^ 25)
unfolding exact_size
exact_size-found number up down size e = short_quotient-found (number * 10 ^ up) (10 ^ down) size (pow10-pos down) e

pub exact_size-of : (number up down size : ℕ) → size * 10 ^ down ≡ number * 10 ^ up → size < 10 ^ 25 → exact_size number up down ≡ Some size
unfolding exact_size
exact_size-of number up down size exact short =
    ap (λ n. short_quotient n (10 ^ down)) (sym exact) ∙ rw (mul-mod_left size (10 ^ down), mul-div_left size (pow10-pos down)) (short_size-short size short)
