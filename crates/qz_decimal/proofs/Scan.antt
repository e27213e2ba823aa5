-- How far a text begins a number: a machine that reads one byte after the other.
use Rattle.std.proofs.Common.{◌≡◌, ℕ, zero, suc, ◌-◌, ◌<◌, ◌≤◌, Bool, true, false, cond, ◌==◌, List, [], ◌∷◌, ◌++◌, length, Option, Some, None, refl, sym, ap, ◌∙◌, arith, inl, inr, ◌⊎◌, ℤ}
use Rattle.std.specs.Prelude.{option_and_then, IfSome}
use Rattle.std.specs.Char.{is_ascii_digit}
use Rattle.std.specs.Str.{all_ascii_digits}
use Rattle.std.specs.Float.Numeral.{minus, dot}
use Rattle.std.proofs.lemmas.Bool.{and_parts}
use Rattle.std.proofs.lemmas.Bool.Decides.{nat_tests}
use Rattle.qz_decimal.specs.declared.reading.Form.{Form}
use Rattle.qz_decimal.specs.Reading.{Parts, sign_text, point_text, text_of, IsDigits, IsFormed, IsSpelled, Begins}

-- what has come: nothing, the sign, whole digits or decimals, where so many more may come, or the point
pub data Scan : Type 0 where
  nothing : Scan
  sign : Scan
  whole : ℕ → Scan
  point : Scan
  decimal : ℕ → Scan

abbrev pub digit_step : (ℕ → Scan) → ℕ → ℕ → Option Scan
digit_step next zero b = None
digit_step next (suc room) b = cond (is_ascii_digit b) (Some (next room)) None

abbrev pub step : Form → Scan → ℕ → Option Scan
step form nothing b = cond (b == minus) (Some sign) (digit_step whole form.whole b)
step form sign b = digit_step whole form.whole b
step form (whole room) b = cond (b == dot) (Some point) (digit_step whole room b)
step form point b = digit_step decimal form.places b
step form (decimal room) b = digit_step decimal room b

-- a number may end here
abbrev pub accepts : Form → Scan → Bool
accepts form nothing = false
accepts form sign = false
accepts form (whole room) = true
accepts form point = form.bare_point
accepts form (decimal room) = true

abbrev pub run : Form → Scan → List ℕ → Option Scan
run form state [] = Some state
run form state (b ∷ bs) = option_and_then (λ next. run form next bs) (step form state b)

pub run-append : (form : Form) (state : Scan) (front back : List ℕ) → run form state (front ++ back) ≡ option_and_then (λ next. run form next back) (run form state front)
run-append form state [] back = refl
run-append form state (b ∷ front) back = go (step form state b) (λ next. run-append form next front back)
  where
    go : (o : Option Scan) → ((next : Scan) → run form next (front ++ back) ≡ option_and_then (λ next. run form next back) (run form next front)) → option_and_then (λ next. run form next (front ++ back)) o ≡ option_and_then (λ next. run form next back) (option_and_then (λ next. run form next front) o)
    go None others = refl
    go (Some next) others = others next

-- the states after parts in order
pub run-then : (form : Form) (a b c : Scan) (front back : List ℕ) → run form a front ≡ Some b → run form b back ≡ Some c → run form a (front ++ back) ≡ Some c
run-then form a b c front back p q = run-append form a front back ∙ rw p q

-- ---- digits

not_dot : (b : ℕ) → is_ascii_digit b ≡ true → (b == dot) ≡ false
not_dot b digit = grind (arith, nat_tests)

pub not_minus : (b : ℕ) → is_ascii_digit b ≡ true → (b == minus) ≡ false
not_minus b digit = grind (arith, nat_tests)

pub run-whole : (form : Form) (digits : List ℕ) (room : ℕ) → all_ascii_digits digits ≡ true → length digits ≤ room → run form (whole room) digits ≡ Some (whole (room - length digits))
run-whole form [] room each few = ap (λ n. Some (whole n)) (omega arith)
run-whole form (d ∷ ds) zero each few = absurd (omega arith)
run-whole form (d ∷ ds) (suc room) each few =
    let parts = and_parts (is_ascii_digit d) (all_ascii_digits ds) each in
    rw (not_dot d parts.0, parts.0) (run-whole form ds room parts.1 (omega arith) ∙ ap (λ n. Some (whole n)) (omega arith))

pub run-decimals : (form : Form) (digits : List ℕ) (room : ℕ) → all_ascii_digits digits ≡ true → length digits ≤ room → run form (decimal room) digits ≡ Some (decimal (room - length digits))
run-decimals form [] room each few = ap (λ n. Some (decimal n)) (omega arith)
run-decimals form (d ∷ ds) zero each few = absurd (omega arith)
run-decimals form (d ∷ ds) (suc room) each few =
    let parts = and_parts (is_ascii_digit d) (all_ascii_digits ds) each in
    rw parts.0 (run-decimals form ds room parts.1 (omega arith) ∙ ap (λ n. Some (decimal n)) (omega arith))

digit_step-some : (next : ℕ → Scan) (room b : ℕ) → 0 < room → is_ascii_digit b ≡ true → digit_step next room b ≡ Some (next (room - 1))
digit_step-some next zero b some digit = absurd (omega arith)
digit_step-some next (suc room) b some digit = rw digit (ap (λ n. Some (next n)) (omega arith))

-- no digit may come, or this is none
pub digit_step-none : (next : ℕ → Scan) (room b : ℕ) → (room ≡ 0) ⊎ (is_ascii_digit b ≡ false) → digit_step next room b ≡ None
digit_step-none next zero b h = refl
digit_step-none next (suc room) b (inl full) = absurd (omega arith)
digit_step-none next (suc room) b (inr other) = rw other refl

-- ---- the parts of a number

abbrev pub after_sign : Bool → Scan
after_sign true = sign
after_sign false = nothing

pub run-sign : (form : Form) (negative : Bool) → run form nothing (sign_text negative) ≡ Some (after_sign negative)
run-sign form true = refl
run-sign form false = refl

pub run-first : (form : Form) (negative : Bool) (digits : List ℕ) → IsDigits form.whole digits → 0 < length digits → run form (after_sign negative) digits ≡ Some (whole (form.whole - length digits))
run-first form negative [] h some = absurd (omega arith)
run-first form negative (d ∷ ds) h some =
    let parts = and_parts (is_ascii_digit d) (all_ascii_digits ds) h.each in
    rw (first negative d parts.0 (omega (arith, h.few))) (run-whole form ds (form.whole - 1) parts.1 (omega (arith, h.few)) ∙ ap (λ n. Some (whole n)) (omega arith))
  where
    first : (negative : Bool) (d : ℕ) → is_ascii_digit d ≡ true → 0 < form.whole → step form (after_sign negative) d ≡ Some (whole (form.whole - 1))
    first true d digit room = digit_step-some whole form.whole d room digit
    first false d digit room = rw (not_minus d digit) (digit_step-some whole form.whole d room digit)

pub run-point : (form : Form) (digits : List ℕ) → IsDigits form.places digits → 0 < length digits → run form point digits ≡ Some (decimal (form.places - length digits))
run-point form [] h some = absurd (omega arith)
run-point form (d ∷ ds) h some =
    let parts = and_parts (is_ascii_digit d) (all_ascii_digits ds) h.each in
    rw (digit_step-some decimal form.places d (omega (arith, h.few)) parts.0) (run-decimals form ds (form.places - 1) parts.1 (omega (arith, h.few)) ∙ ap (λ n. Some (decimal n)) (omega arith))

-- a number's text is read to an end
pub record Arrives (form : Form) (text : List ℕ) : Type 0 where
  pub state : Scan
  pub reached : run form nothing text ≡ Some state
  pub accepted : accepts form state ≡ true

formed-arrives : (form : Form) (parts : Parts) → IsFormed form parts → Arrives form (text_of parts)
formed-arrives form parts h =
    let sign_read = run-sign form parts.negative in
    let whole_read = run-first form parts.negative parts.whole h.whole h.some_whole in
    go parts.decimals h.decimals h.some_decimals (λ state tail tail_read. run-then form nothing (after_sign parts.negative) state (sign_text parts.negative) (parts.whole ++ tail) sign_read (run-then form (after_sign parts.negative) (whole (form.whole - length parts.whole)) state parts.whole tail whole_read tail_read))
  where
    go : (decimals : Option (List ℕ)) → IfSome decimals (IsDigits form.places) → IfSome decimals (λ ds. (0 < length ds) ⊎ (form.bare_point ≡ true))
        → ((state : Scan) (tail : List ℕ) → run form (whole (form.whole - length parts.whole)) tail ≡ Some state → run form nothing (sign_text parts.negative ++ (parts.whole ++ tail)) ≡ Some state)
        → Arrives form (sign_text parts.negative ++ (parts.whole ++ point_text decimals))
    go None each some reads = record { state = whole (form.whole - length parts.whole); reached = reads _ [] refl; accepted = refl }
    go (Some []) each (inl some) reads = absurd (omega arith)
    go (Some []) each (inr bare) reads = record { state = point; reached = reads point (dot ∷ []) refl; accepted = bare }
    go (Some (d ∷ ds)) each some reads = record { state = decimal (form.places - length (d ∷ ds)); reached = reads _ (dot ∷ d ∷ ds) (run-point form (d ∷ ds) each (omega arith)); accepted = refl }

pub spelled-arrives : (form : Form) (text : List ℕ) (units : ℤ) → IsSpelled form text units → Arrives form text
spelled-arrives form text units h = rw h.text_is (formed-arrives form h.parts h.formed)

-- what begins a number is read to its own end
pub begins-reads : (form : Form) (front : List ℕ) → Begins form front → run form nothing front ≡ None → ⊥
begins-reads form front h fails =
    let arrives = spelled-arrives form (front ++ h.more) h.units h.spelled in
    let e : ◌≡◌ {A = Option Scan} None (Some arrives.state) = sym (run-append form nothing front h.more ∙ rw fails refl) ∙ arrives.reached in
    absurd cc
