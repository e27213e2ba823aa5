-- Decimals without the zeros at their end.
use Rattle.std.proofs.Common.{◌≡◌, ◌≢◌, ℕ, zero, suc, ◌+◌, ◌-◌, ◌*◌, ◌/◌, ◌%◌, ◌^◌, ◌<◌, ◌≤◌, inl, inr, Bool, true, false, cond, ◌&&◌, ◌==◌, eqb, List, [], ◌∷◌, ◌++◌, length, replicate, refl, sym, ap, ◌∙◌, append_assoc, append-nil, arith}
use Rattle.std.specs.Prelude.{codes}
use Rattle.std.proofs.Math.Nat.{pow-suc}
use Rattle.std.proofs.lemmas.Bool.{cases_lt, ne_eqb}
use Rattle.std.specs.Fmt.{decimal}
use Rattle.std.proofs.lemmas.Bool.Decides.{nat_tests}
use Rattle.std.proofs.lemmas.Fmt.{decimal_step, decimal_digit, decimal_nonempty}
use Rattle.std.proofs.lemmas.List.{length-append}
use Rattle.qz_grading.specs.Words.{in_digits, is_nothing, without_zeros, behind_point, short_natural}

-- ---- from the front

zeros-push : (ds : List ℕ) → without_zeros (ds ++ 48 ∷ []) ≡ without_zeros ds
zeros-push [] = refl
zeros-push (d ∷ ds) = rw (zeros-push ds) refl

nothing-push : (ds : List ℕ) (d : ℕ) → is_nothing (ds ++ d ∷ []) ≡ false
nothing-push ds d = ne_eqb (length (ds ++ d ∷ [])) 0 (λ e. omega (arith, length-append ds (d ∷ []), e))

other-push : (ds : List ℕ) (d : ℕ) → (d == 48) ≡ false → without_zeros (ds ++ d ∷ []) ≡ ds ++ d ∷ []
other-push [] d e = rw e refl
other-push (a ∷ ds) d e = rw (other-push ds d e, nothing-push ds d) (go (a == 48))
  where
    go : (b : Bool) → cond (b && false) [] (a ∷ (ds ++ d ∷ [])) ≡ a ∷ (ds ++ d ∷ [])
    go true = refl
    go false = refl

-- ---- numbers with so many places

-- one digit more
pub in_digits-step : (k n : ℕ) → 10 ≤ n → n < 2 ^ 64 → 0 < k → in_digits k n ≡ in_digits (k - 1) (n / 10) ++ (48 + n % 10) ∷ []
in_digits-step k n long fits some =
    let step = decimal_step n long fits in
    let longer : length (decimal n) ≡ length (decimal (n / 10)) + 1 = ap length step ∙ length-append (decimal (n / 10)) ((48 + n % 10) ∷ []) in
    let zeros : k - length (decimal n) ≡ k - 1 - length (decimal (n / 10)) = omega arith in
    ap (λ (z : ℕ). replicate z 48 ++ decimal n) zeros ∙ ap (λ (ds : List ℕ). replicate (k - 1 - length (decimal (n / 10))) 48 ++ ds) step
    ∙ sym (append_assoc (replicate (k - 1 - length (decimal (n / 10))) 48) (decimal (n / 10)) ((48 + n % 10) ∷ []))

-- the last digit stands last
record EndsWith (digits : List ℕ) (last : ℕ) : Type 0 where
  front : List ℕ
  split : digits ≡ front ++ last ∷ []

in_digits-last : (k n : ℕ) → 0 < k → n < 2 ^ 64 → EndsWith (in_digits k n) (48 + n % 10)
in_digits-last k n some fits = elim (cases_lt n 10) [
  | inl short ↦
      let one : n % 10 ≡ n = omega arith in
      record { front = replicate (k - 1) 48; split = rw (decimal_digit n short, one) refl }
  | inr long ↦ record { front = in_digits (k - 1) (n / 10); split = in_digits-step k n long fits some }
]

pub some_place : (k n : ℕ) → 0 < n → n < 10 ^ k → 0 < k
some_place zero n some fits = absurd (omega arith)
some_place (suc k) n some fits = omega arith

pub nonzero_places : (k n : ℕ) → 0 < n → n < 10 ^ k → eqb k 0 ≡ false
nonzero_places zero n some fits = absurd (omega arith)
nonzero_places (suc k) n some fits = grind (arith, nat_tests)

pub tenth_fits : (k n : ℕ) → 0 < n → n < 10 ^ k → n / 10 < 10 ^ (k - 1)
tenth_fits zero n some fits = absurd (omega arith)
tenth_fits (suc k) n some fits =
    let power : 10 ^ suc k ≡ 10 ^ k * 10 = pow-suc 10 k in
    let less : suc k - 1 ≡ k = omega arith in
    rw less (omega arith)

-- a zero at the end goes
pub drop_zero : (k n : ℕ) → 0 < k → 0 < n → n < 2 ^ 64 → n % 10 ≡ 0 → without_zeros (in_digits (k - 1) (n / 10)) ≡ without_zeros (in_digits k n)
drop_zero k n places some fits ends =
    let step = in_digits-step k n (omega arith) fits places in
    let zero_is : 48 + n % 10 ≡ 48 = omega arith in
    sym (ap without_zeros (rw zero_is at step) ∙ zeros-push (in_digits (k - 1) (n / 10)))

-- any other digit stays
pub keep_last : (k n : ℕ) → 0 < k → n < 2 ^ 64 → n % 10 ≢ 0 → without_zeros (in_digits k n) ≡ in_digits k n
keep_last k n places fits other =
    let last = in_digits-last k n places fits in
    rw last.split (other-push last.front (48 + n % 10) (ne_eqb (48 + n % 10) 48 (λ e. other (omega arith))))

zeros_are_nothing : (k : ℕ) → without_zeros (replicate k 48) ≡ []
zeros_are_nothing zero = refl
zeros_are_nothing (suc k) = rw (zeros_are_nothing k) refl

-- a zero has no decimals
pub no_decimals : (k : ℕ) → without_zeros (in_digits k 0) ≡ []
no_decimals k = rw (decimal_digit 0 (omega arith)) (zeros-push (replicate (k - 1) 48) ∙ zeros_are_nothing (k - 1))

behind_point-some : (ds : List ℕ) → 0 < length ds → behind_point ds ≡ codes "." ++ ds
behind_point-some [] some = absurd (omega arith)
behind_point-some (d ∷ ds) some = refl

pub behind_point-digits : (k n : ℕ) → n < 2 ^ 64 → behind_point (in_digits k n) ≡ codes "." ++ in_digits k n
behind_point-digits k n fits =
    behind_point-some (in_digits k n) (omega (arith, length-append (replicate (k - length (decimal n)) 48) (decimal n), decimal_nonempty n fits))

-- a number without decimals
pub whole_number : (places n : ℕ) → n % 10 ^ places ≡ 0 → short_natural places n ≡ decimal (n / 10 ^ places)
whole_number places n none = rw none (ap (λ (ds : List ℕ). decimal (n / 10 ^ places) ++ behind_point ds) (no_decimals places) ∙ append-nil (decimal (n / 10 ^ places)))
