-- Where a text that spells no number goes wrong.
use Rattle.std.proofs.Common.{◌≡◌, ℕ, ◌+◌, ◌<◌, ◌≤◌, Bool, false, List, [], ◌∷◌, ◌++◌, length, take, drop, Some, None, refl, sym, ap, ◌∙◌, arith, append_assoc, inl, inr, ℤ}
use Rattle.std.specs.Float.Numeral.{dot}
use Rattle.std.proofs.lemmas.List.{append-nil, take_at, length-append, take-append-drop, take_all, take-take}
use Rattle.std.proofs.lemmas.Option.{same_Some}
use Rattle.std.proofs.lemmas.Bool.{both_ways, cases_lt}
use Rattle.qz_decimal.specs.declared.reading.Form.{Form}
use Rattle.qz_decimal.specs.Reading.{Parts, sign_text, text_of, units_of, IsDigits, IsFormed, IsSpelled, Begins, Stuck}
use Rattle.qz_decimal.proofs.Scan.{Scan, nothing, step, accepts, run, run-append, spelled-arrives, begins-reads}

-- ---- fronts of numbers

pub begins : (form : Form) (parts : Parts) (front more : List ℕ) → IsFormed form parts → front ++ more ≡ text_of parts → Begins form front
begins form parts front more h e = record { more = more; units = units_of form.places parts; spelled = record { parts = parts; formed = h; text_is = e; units_are = refl } }

-- each form lets a digit come
pub record IsUsual (form : Form) : Type 0 where
  pub some_whole : 0 < form.whole
  pub some_places : 0 < form.places

zero_digit : (most : ℕ) → 0 < most → IsDigits most (48 ∷ [])
zero_digit most some = record { each = refl; few = some }

pub begins-sign : (form : Form) (negative : Bool) → IsUsual form → Begins form (sign_text negative)
begins-sign form negative usual =
    begins form (record { negative = negative; whole = 48 ∷ []; decimals = None }) (sign_text negative) (48 ∷ [])
    (record { whole = zero_digit form.whole usual.some_whole; some_whole = omega arith; decimals = tt; some_decimals = tt })
    refl

-- whole digits behind a sign
pub record HasWhole (form : Form) (digits : List ℕ) : Type 0 where
  pub formed : IsDigits form.whole digits
  pub some : 0 < length digits

pub begins-whole : (form : Form) (negative : Bool) (digits : List ℕ) → HasWhole form digits → Begins form (sign_text negative ++ digits)
begins-whole form negative digits h =
    begins form (record { negative = negative; whole = digits; decimals = None }) (sign_text negative ++ digits) []
    (record { whole = h.formed; some_whole = h.some; decimals = tt; some_decimals = tt })
    (append_assoc (sign_text negative) digits [])

-- decimals behind the point, so far
pub begins-decimals : (form : Form) (negative : Bool) (digits decimals : List ℕ) → IsUsual form → HasWhole form digits → IsDigits form.places decimals → Begins form ((sign_text negative ++ (digits ++ dot ∷ [])) ++ decimals)
begins-decimals form negative digits [] usual h few =
    begins form (record { negative = negative; whole = digits; decimals = Some (48 ∷ []) }) ((sign_text negative ++ (digits ++ dot ∷ [])) ++ []) (48 ∷ [])
    (record { whole = h.formed; some_whole = h.some; decimals = zero_digit form.places usual.some_places; some_decimals = inl (omega arith) })
    (ap (λ (t : List ℕ). t ++ 48 ∷ []) (append-nil (sign_text negative ++ (digits ++ dot ∷ []))) ∙ append_assoc (sign_text negative) (digits ++ dot ∷ []) (48 ∷ []) ∙ ap (λ (t : List ℕ). sign_text negative ++ t) (append_assoc digits (dot ∷ []) (48 ∷ [])))
begins-decimals form negative digits (d ∷ ds) usual h few =
    begins form (record { negative = negative; whole = digits; decimals = Some (d ∷ ds) }) ((sign_text negative ++ (digits ++ dot ∷ [])) ++ d ∷ ds) []
    (record { whole = h.formed; some_whole = h.some; decimals = few; some_decimals = inl (omega arith) })
    (append-nil ((sign_text negative ++ (digits ++ dot ∷ [])) ++ d ∷ ds) ∙ append_assoc (sign_text negative) (digits ++ dot ∷ []) (d ∷ ds) ∙ ap (λ (t : List ℕ). sign_text negative ++ t) (append_assoc digits (dot ∷ []) (d ∷ ds)))

-- ---- stuck

-- no number goes on with the byte b
pub stuck-inside : (form : Form) (front : List ℕ) (b : ℕ) (rest : List ℕ) (state : Scan) → Begins form front → run form nothing front ≡ Some state → step form state b ≡ None → Stuck form (front ++ b ∷ rest) (length front)
stuck-inside form front b rest state starts reached fails =
    let next : take (length front + 1) (front ++ b ∷ rest) ≡ front ++ b ∷ [] =
    ap (take (length front + 1)) (sym (append_assoc front (b ∷ []) rest)) ∙ take_at (front ++ b ∷ []) rest (length front + 1) (length-append front (b ∷ [])) in
    let none : run form nothing (front ++ b ∷ []) ≡ None = run-append form nothing front (b ∷ []) ∙ rw (reached, fails) refl in
    record {
      so_far = rw (take_at front (b ∷ rest) (length front) refl) starts;
      no_further = inl (omega (arith, length-append front (b ∷ rest)), λ further. begins-reads form (front ++ b ∷ []) (rw next at further) none);
    }

-- the text ends, and no number ends there
pub stuck-at_end : (form : Form) (front : List ℕ) (state : Scan) → Begins form front → run form nothing front ≡ Some state → accepts form state ≡ false → Stuck form front (length front)
stuck-at_end form front state starts reached refused = record {
  so_far = rw (take_all (length front) front (omega arith)) starts;
  no_further = inr (
    refl,
    λ units spelled.
        let arrives = spelled-arrives form front units spelled in
        let same : state ≡ arrives.state = same_Some state arrives.state (sym reached ∙ arrives.reached) in
        both_ways (accepts form state) refused (rw same arrives.accepted),
  );
}

-- ---- a text spells a number or is stuck, and not both; and it is stuck at one place

pub not_both : (form : Form) (text : List ℕ) (units : ℤ) (place : ℕ) → IsSpelled form text units → Stuck form text place → ⊥
not_both form text units place spelled stuck =
    elim stuck.no_further [
      | inl next ↦ next.1 (record { more = drop (place + 1) text; units = units; spelled = rw (take-append-drop (place + 1) text) spelled })
      | inr ended ↦ ended.1 units spelled
    ]

-- an earlier part of a front is a front
begins-earlier : (form : Form) (text : List ℕ) (i k : ℕ) → i ≤ k → Begins form (take k text) → Begins form (take i text)
begins-earlier form text i k le starts = record {
  more = drop i (take k text) ++ starts.more;
  units = starts.units;
  spelled = rw (sym (append_assoc (take i text) (drop i (take k text)) starts.more) ∙ ap (λ (t : List ℕ). t ++ starts.more) (ap (λ (t : List ℕ). t ++ drop i (take k text)) (sym (take-take i k text le)) ∙ take-append-drop i (take k text))) starts.spelled;
}

within : (form : Form) (text : List ℕ) (place : ℕ) → Stuck form text place → place ≤ length text
within form text place stuck = elim stuck.no_further [ inl next ↦ omega (arith, next.0) | inr ended ↦ omega (arith, ended.0) ]

stuck-first : (form : Form) (text : List ℕ) (i k : ℕ) → Stuck form text i → Stuck form text k → i ≤ k
stuck-first form text i k a b =
    elim (cases_lt k i) [
      | inl less ↦ elim b.no_further [
        | inl next ↦ absurd (next.1 (begins-earlier form text (k + 1) i (omega arith) a.so_far))
        | inr ended ↦ omega (arith, ended.0, within form text i a)
      ]
      | inr le ↦ le
    ]

pub stuck-once : (form : Form) (text : List ℕ) (i k : ℕ) → Stuck form text i → Stuck form text k → i ≡ k
stuck-once form text i k a b = omega (arith, stuck-first form text i k a b, stuck-first form text k i b a)
