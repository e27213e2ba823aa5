-- Reading from the left finds exactly the number that is spelled.
use Rattle.std.proofs.Common.{◌≡◌, ℕ, ◌+◌, ◌-◌, ◌*◌, ◌^◌, ◌<◌, ◌≤◌, Bool, true, false, cond, ◌==◌, ◌||◌, nat_lt, List, [], ◌∷◌, ◌++◌, length, take, Option, Some, None, refl, sym, ap, ◌∙◌, subst, arith, ℤ, append_assoc}
use Rattle.std.specs.Prelude.{◌↔◌, IsNone, IfSome, unwrap_or, if◌then◌else◌}
use Rattle.std.specs.Char.{is_ascii_digit}
use Rattle.std.specs.List.{prefix_len, list_all}
use Rattle.std.specs.Str.{all_ascii_digits}
use Rattle.std.specs.Str.Parse.{digits_value}
use Rattle.std.specs.Float.Numeral as byte
use Rattle.std.proofs.lemmas.Bool.{eqb-true, eqb-false, ltb-false, ne_eqb, and_parts, or_parts}
use Rattle.std.proofs.lemmas.Bool.Decides.{nat_tests}
use Rattle.std.proofs.lemmas.List.{take-append-drop, append-nil, nil_from_length, length-append, drop_at}
use Rattle.std.proofs.lemmas.Option.{same_Some}
use Rattle.qz_decimal.specs.declared.decimal.Digits.{Digits}
use Rattle.qz_decimal.specs.declared.decimal.Tens.{Tens}
use Rattle.qz_decimal.specs.Numbers.{signed}
use Rattle.qz_decimal.specs.Reading.{IsDigits, point_text, first_digits, after_digits, has_minus}
use Rattle.qz_decimal.specs.Decimals.{Sign, bare, plus, minus, Exponent, sign_bytes, is_minus, exponent_text, digits_of, no_tens, signed_tens, tens_of, is_space, IsDecimal, after_blanks, after_sign, first_decimals, after_decimals, digits_in, tens_in, exponent_in, exact_size, ◌>>=◌, decimal_in}
use Rattle.qz_decimal.proofs.Fronts.{front-passes, prefix_len-of, stops-at, first-fails}
use Rattle.qz_decimal.proofs.DigitRuns.{first_digits-each, first_digits-few, first_digits-append, first_digits-of, after_digits-of, all_ascii_digits-append, all_ascii_digits-parts}
use Rattle.qz_decimal.proofs.Exact.{none-exactly}
use Rattle.qz_decimal.proofs.Scales.{exact_size-found, exact_size-of}

-- ---- blanks

blanks : List ℕ → List ℕ
blanks text = take (prefix_len is_space text) text

blanks-each : (text : List ℕ) → list_all is_space (blanks text) ≡ true
unfolding blanks
blanks-each text = front-passes is_space (prefix_len is_space text) text (omega arith)

blanks-split : (text : List ℕ) → blanks text ++ after_blanks text ≡ text
unfolding blanks
blanks-split text = take-append-drop (prefix_len is_space text) text

after_blanks-of : (before rest : List ℕ) → list_all is_space before ≡ true → prefix_len is_space rest ≡ 0 → after_blanks (before ++ rest) ≡ rest
after_blanks-of before rest each stops = drop_at before rest (prefix_len is_space (before ++ rest)) (sym (prefix_len-of is_space before rest each stops))

after_blanks-all : (after : List ℕ) → list_all is_space after ≡ true → after_blanks after ≡ []
after_blanks-all after each = ap after_blanks (sym (append-nil after)) ∙ after_blanks-of after [] each refl

all-blank : (text : List ℕ) → length (after_blanks text) ≡ 0 → list_all is_space text ≡ true
all-blank text none =
    let whole : blanks text ≡ text = sym (append-nil (blanks text)) ∙ ap (λ (t : List ℕ). blanks text ++ t) (sym (nil_from_length (after_blanks text) none)) ∙ blanks-split text in
    rw whole at (blanks-each text)

-- ---- the sign

abbrev is_sign : ℕ → Bool
is_sign b = b == byte.minus || b == byte.plus

record HasSign (text : List ℕ) : Type 0 where
  pub sign : Sign
  pub text_is : text ≡ sign_bytes sign ++ after_sign text
  pub negative : has_minus text ≡ is_minus sign

sign-split : (text : List ℕ) → HasSign text
sign-split [] = record { sign = bare; text_is = refl; negative = refl }
sign-split (b ∷ rest) = go (b == byte.minus) refl (b == byte.plus) refl
  where
    go : (m : Bool) → (b == byte.minus) ≡ m → (p : Bool) → (b == byte.plus) ≡ p → HasSign (b ∷ rest)
    go true e p f = record { sign = minus; text_is = rw e (ap (λ c. c ∷ rest) (eqb-true b byte.minus e)); negative = e }
    go false e true f = record { sign = plus; text_is = rw (e, f) (ap (λ c. c ∷ rest) (eqb-true b byte.plus f)); negative = e }
    go false e false f = record { sign = bare; text_is = rw (e, f) refl; negative = e }

-- no sign stands first
no_minus : (text : List ℕ) → prefix_len is_sign text ≡ 0 → has_minus text ≡ false
no_minus [] none = refl
no_minus (b ∷ rest) none = (or_parts (b == byte.minus) (b == byte.plus) (first-fails is_sign b rest none)).0

no_sign : (text : List ℕ) → prefix_len is_sign text ≡ 0 → after_sign text ≡ text
no_sign [] none = refl
no_sign (b ∷ rest) none = rw (first-fails is_sign b rest none) refl

after_sign-of : (sign : Sign) (text : List ℕ) → prefix_len is_sign text ≡ 0 → after_sign (sign_bytes sign ++ text) ≡ text
after_sign-of bare text none = no_sign text none
after_sign-of plus text none = refl
after_sign-of minus text none = refl

has_minus-of : (sign : Sign) (text : List ℕ) → prefix_len is_sign text ≡ 0 → has_minus (sign_bytes sign ++ text) ≡ is_minus sign
has_minus-of bare text none = no_minus text none
has_minus-of plus text none = refl
has_minus-of minus text none = refl

-- ---- the digits and the point

-- what the digits at the front of a text are, and what follows them
record HasDigits (text : List ℕ) (found : Digits) (rest : List ℕ) : Type 0 where
  pub whole : List ℕ
  pub decimals : Option (List ℕ)
  pub text_is : text ≡ whole ++ (point_text decimals ++ rest)
  pub number : found.number ≡ digits_value 10 (whole ++ unwrap_or decimals [])
  pub count : found.decimals ≡ length (unwrap_or decimals [])
  pub formed : IsDigits 30 (whole ++ unwrap_or decimals [])
  pub some : 0 < length (whole ++ unwrap_or decimals [])

-- the decimals, where there is a point
record HasDecimals (most : ℕ) (text : List ℕ) : Type 0 where
  pub decimals : Option (List ℕ)
  pub text_is : text ≡ point_text decimals ++ after_decimals most text
  pub found : first_decimals most text ≡ unwrap_or decimals []
  pub formed : IsDigits most (unwrap_or decimals [])

decimals-split : (most : ℕ) (text : List ℕ) → HasDecimals most text
decimals-split most [] = record { decimals = None; text_is = refl; found = refl; formed = record { each = refl; few = omega arith } }
decimals-split most (b ∷ rest) = go (b == byte.dot) refl
  where
    go : (is_dot : Bool) → (b == byte.dot) ≡ is_dot → HasDecimals most (b ∷ rest)
    go true e = record {
      decimals = Some (first_digits most rest);
      text_is = rw e (rw (eqb-true b byte.dot e) (ap (λ (t : List ℕ). byte.dot ∷ t) (sym (first_digits-append most rest))));
      found = rw e refl;
      formed = record { each = first_digits-each most rest; few = first_digits-few most rest };
    }
    go false e = record { decimals = None; text_is = rw e refl; found = rw e refl; formed = record { each = refl; few = omega arith } }

unless-some : {A : Type 0} (b : Bool) (x y : A) → cond b None (Some x) ≡ Some y → (b ≡ false) × (x ≡ y)
unless-some true x y e = absurd cc
unless-some false x y e = (refl, same_Some x y e)

digits-found : (text : List ℕ) (found : Digits) (rest : List ℕ) → digits_in text ≡ Some (found, rest) → HasDigits text found rest
unfolding digits_in
digits-found text found rest e =
    let whole = first_digits 30 text in
    let behind = after_digits 30 text in
    let most = 30 - length whole in
    let split = decimals-split most behind in
    let first : Digits = record { number = digits_value 10 (whole ++ first_decimals most behind); decimals = length (first_decimals most behind) } in
    let both : Digits × List ℕ = (first, after_decimals most behind) in
    let given = unless-some (length whole + length (first_decimals most behind) == 0) both (found, rest) e in
    let some = eqb-false _ _ given.0 in
    let size = length-append whole (unwrap_or split.decimals []) in
    let here : HasDigits text first (after_decimals most behind) = record {
      whole = whole;
      decimals = split.decimals;
      text_is = sym (first_digits-append 30 text) ∙ ap (λ (t : List ℕ). whole ++ t) split.text_is;
      number = ap (λ (ds : List ℕ). digits_value 10 (whole ++ ds)) split.found;
      count = ap (λ (ds : List ℕ). length ds) split.found;
      formed = record { each = all_ascii_digits-append whole (unwrap_or split.decimals []) (first_digits-each 30 text) split.formed.each; few = omega (arith, size, split.formed.few, first_digits-few 30 text) };
      some = omega (arith, size, some, ap (λ (ds : List ℕ). length ds) split.found);
    } in
    subst (λ (p : Digits × List ℕ). HasDigits text p.0 p.1) given.1 here

first_decimals-of : (most : ℕ) (decimals : Option (List ℕ)) (rest : List ℕ) → IsDigits most (unwrap_or decimals []) → prefix_len is_ascii_digit rest ≡ 0 → prefix_len (λ b. b == byte.dot) rest ≡ 0 → first_decimals most (point_text decimals ++ rest) ≡ unwrap_or decimals []
first_decimals-of most None [] h no_digit no_dot = refl
first_decimals-of most None (b ∷ rest) h no_digit no_dot = rw (first-fails (λ b. b == byte.dot) b rest no_dot) refl
first_decimals-of most (Some ds) rest h no_digit no_dot = first_digits-of most ds rest h.each h.few no_digit

after_decimals-of : (most : ℕ) (decimals : Option (List ℕ)) (rest : List ℕ) → IsDigits most (unwrap_or decimals []) → prefix_len is_ascii_digit rest ≡ 0 → prefix_len (λ b. b == byte.dot) rest ≡ 0 → after_decimals most (point_text decimals ++ rest) ≡ rest
after_decimals-of most None [] h no_digit no_dot = refl
after_decimals-of most None (b ∷ rest) h no_digit no_dot = rw (first-fails (λ b. b == byte.dot) b rest no_dot) refl
after_decimals-of most (Some ds) rest h no_digit no_dot = after_digits-of most ds rest h.each h.few no_digit

stops-point : (decimals : Option (List ℕ)) (rest : List ℕ) → prefix_len is_ascii_digit rest ≡ 0 → prefix_len is_ascii_digit (point_text decimals ++ rest) ≡ 0
stops-point None rest no_digit = no_digit
stops-point (Some ds) rest no_digit = refl

-- the same digits are found again, whatever follows that can't go on with them
digits-of : (whole : List ℕ) (decimals : Option (List ℕ)) (rest : List ℕ) → IsDigits 30 (whole ++ unwrap_or decimals []) → 0 < length (whole ++ unwrap_or decimals []) → prefix_len is_ascii_digit rest ≡ 0 → prefix_len (λ b. b == byte.dot) rest ≡ 0
    → digits_in (whole ++ (point_text decimals ++ rest)) ≡ Some (record { number = digits_value 10 (whole ++ unwrap_or decimals []); decimals = length (unwrap_or decimals []) }, rest)
unfolding digits_in
digits-of whole decimals rest formed some no_digit no_dot =
    let each = all_ascii_digits-parts whole (unwrap_or decimals []) formed.each in
    let size = length-append whole (unwrap_or decimals []) in
    let few : length whole ≤ 30 = omega (arith, size, formed.few) in
    let behind : IsDigits (30 - length whole) (unwrap_or decimals []) = record { each = each.1; few = omega (arith, size, formed.few) } in
    let stops = stops-point decimals rest no_digit in
    let count : (length whole + length (unwrap_or decimals []) == 0) ≡ false = ne_eqb _ 0 (λ e. omega arith) in
    rw (first_digits-of 30 whole (point_text decimals ++ rest) each.0 few stops, after_digits-of 30 whole (point_text decimals ++ rest) each.0 few stops, first_decimals-of (30 - length whole) decimals rest behind no_digit no_dot, after_decimals-of (30 - length whole) decimals rest behind no_digit no_dot, count) refl

-- ---- the exponent

abbrev letter : Bool → ℕ
letter capital = if capital then byte.upper_e else byte.lower_e

record HasExponent (text : List ℕ) (found : Tens) (rest : List ℕ) : Type 0 where
  pub exponent : Option Exponent
  pub text_is : text ≡ exponent_text exponent ++ rest
  pub tens : found ≡ tens_of exponent
  pub formed : IfSome exponent (λ e. IsDigits 3 e.digits)
  pub some : IfSome exponent (λ e. 0 < length e.digits)

tens-found : (capital : Bool) (text : List ℕ) (found : Tens) (rest : List ℕ) → tens_in text ≡ Some (found, rest) → HasExponent (letter capital ∷ text) found rest
unfolding tens_in
tens-found capital text found rest e =
    let digits = first_digits 3 (after_sign text) in
    let behind = after_digits 3 (after_sign text) in
    let tens : Tens = signed_tens (has_minus text) (digits_value 10 digits) in
    let both : Tens × List ℕ = (tens, behind) in
    let given = unless-some (length digits == 0) both (found, rest) e in
    let some = eqb-false _ _ given.0 in
    let split = sign-split text in
    let text_is : text ≡ (sign_bytes split.sign ++ digits) ++ behind =
    split.text_is ∙ ap (λ (t : List ℕ). sign_bytes split.sign ++ t) (sym (first_digits-append 3 (after_sign text))) ∙ sym (append_assoc (sign_bytes split.sign) digits behind) in
    let here : HasExponent (letter capital ∷ text) tens behind = record {
      exponent = Some (record { capital = capital; sign = split.sign; digits = digits });
      text_is = ap (λ (t : List ℕ). letter capital ∷ t) text_is;
      tens = ap (λ negative. signed_tens negative (digits_value 10 digits)) split.negative;
      formed = record { each = first_digits-each 3 (after_sign text); few = first_digits-few 3 (after_sign text) };
      some = omega arith;
    } in
    subst (λ (p : Tens × List ℕ). HasExponent (letter capital ∷ text) p.0 p.1) given.1 here

no_exponent : (text : List ℕ) (found : Tens) (rest : List ℕ) → ◌≡◌ {A = Option (Tens × List ℕ)} (Some (no_tens, text)) (Some (found, rest)) → HasExponent text found rest
no_exponent text found rest e =
    let both : Tens × List ℕ = (no_tens, text) in
    let here : HasExponent text no_tens text = record { exponent = None; text_is = refl; tens = refl; formed = tt; some = tt } in
    subst (λ (p : Tens × List ℕ). HasExponent text p.0 p.1) (same_Some both (found, rest) e) here

exponent-found : (text : List ℕ) (found : Tens) (rest : List ℕ) → exponent_in text ≡ Some (found, rest) → HasExponent text found rest
exponent-found [] found rest e = no_exponent [] found rest e
exponent-found (b ∷ text) found rest e = go (b == byte.lower_e) refl (b == byte.upper_e) refl e
  where
    go : (lower : Bool) → (b == byte.lower_e) ≡ lower → (upper : Bool) → (b == byte.upper_e) ≡ upper → cond (lower || upper) (tens_in text) (Some (no_tens, b ∷ text)) ≡ Some (found, rest) → HasExponent (b ∷ text) found rest
    go true is_lower upper f e = rw (eqb-true b byte.lower_e is_lower) (tens-found false text found rest e)
    go false other true is_upper e = rw (eqb-true b byte.upper_e is_upper) (tens-found true text found rest e)
    go false other false another e = no_exponent (b ∷ text) found rest e

-- what a blank isn't
blank_no_digit : (b : ℕ) → is_space b ≡ true → is_ascii_digit b ≡ false
blank_no_digit b blank = grind (arith, nat_tests)

blank_no_dot : (b : ℕ) → is_space b ≡ true → (b == byte.dot) ≡ false
blank_no_dot b blank = grind (arith, nat_tests)

blank_no_letter : (b : ℕ) → is_space b ≡ true → (b == byte.lower_e || b == byte.upper_e) ≡ false
blank_no_letter b blank = grind (arith, nat_tests)

digit_no_sign : (b : ℕ) → is_ascii_digit b ≡ true → is_sign b ≡ false
digit_no_sign b digit = grind (arith, nat_tests)

digit_no_blank : (b : ℕ) → is_ascii_digit b ≡ true → is_space b ≡ false
digit_no_blank b digit = grind (arith, nat_tests)

stops-blanks : (p : ℕ → Bool) → ((b : ℕ) → is_space b ≡ true → p b ≡ false) → (after : List ℕ) → list_all is_space after ≡ true → prefix_len p after ≡ 0
stops-blanks p fails [] each = refl
stops-blanks p fails (b ∷ after) each = stops-at p b after (fails b (and_parts (is_space b) (list_all is_space after) each).0)

stops-digits : (p : ℕ → Bool) → ((b : ℕ) → is_ascii_digit b ≡ true → p b ≡ false) → (digits rest : List ℕ) → all_ascii_digits digits ≡ true → 0 < length digits → prefix_len p (digits ++ rest) ≡ 0
stops-digits p fails [] rest each some = absurd (omega arith)
stops-digits p fails (d ∷ ds) rest each some = stops-at p d (ds ++ rest) (fails d (and_parts (is_ascii_digit d) (all_ascii_digits ds) each).0)

-- the same exponent is found again, where blanks follow
tens-of : (sign : Sign) (digits after : List ℕ) → IsDigits 3 digits → 0 < length digits → list_all is_space after ≡ true → tens_in (sign_bytes sign ++ (digits ++ after)) ≡ Some (signed_tens (is_minus sign) (digits_value 10 digits), after)
unfolding tens_in
tens-of sign digits after h some blank =
    let no_sign = stops-digits is_sign digit_no_sign digits after h.each some in
    let stops = stops-blanks is_ascii_digit blank_no_digit after blank in
    let count : (length digits == 0) ≡ false = ne_eqb _ 0 (λ e. omega arith) in
    rw (after_sign-of sign (digits ++ after) no_sign, has_minus-of sign (digits ++ after) no_sign, first_digits-of 3 digits after h.each h.few stops, after_digits-of 3 digits after h.each h.few stops, count) refl

exponent-of : (exponent : Option Exponent) (after : List ℕ) → IfSome exponent (λ e. IsDigits 3 e.digits) → IfSome exponent (λ e. 0 < length e.digits) → list_all is_space after ≡ true → exponent_in (exponent_text exponent ++ after) ≡ Some (tens_of exponent, after)
exponent-of None [] formed some blank = refl
exponent-of None (b ∷ after) formed some blank = rw (blank_no_letter b (and_parts (is_space b) (list_all is_space after) blank).0) refl
exponent-of (Some e) after formed some blank =
    let inner : tens_in ((sign_bytes e.sign ++ e.digits) ++ after) ≡ Some (signed_tens (is_minus e.sign) (digits_value 10 e.digits), after) = rw append_assoc (tens-of e.sign e.digits after formed some blank) in
    go e.capital ∙ inner
  where
    go : (capital : Bool) → exponent_in (letter capital ∷ ((sign_bytes e.sign ++ e.digits) ++ after)) ≡ tens_in ((sign_bytes e.sign ++ e.digits) ++ after)
    go true = refl
    go false = refl

-- ---- the whole text

bind_some : {A B : Type 0} (o : Option A) (f : A → Option B) (y : B) → (o >>= f) ≡ Some y → (x : A) × (o ≡ Some x) × (f x ≡ Some y)
bind_some None f y e = absurd cc
bind_some (Some x) f y e = (x, refl, e)

-- nothing but blanks is left, and the size is found
ended : (after : List ℕ) (o : Option ℕ) (size : ℕ) → cond (nat_lt 0 (length (after_blanks after))) None o ≡ Some size → (list_all is_space after ≡ true) × (o ≡ Some size)
ended after o size e = go (nat_lt 0 (length (after_blanks after))) refl e
  where
    go : (more : Bool) → nat_lt 0 (length (after_blanks after)) ≡ more → cond more None o ≡ Some size → (list_all is_space after ≡ true) × (o ≡ Some size)
    go true m e = absurd cc
    go false m e = (all-blank after (omega (arith, ltb-false 0 (length (after_blanks after)) m)), e)

regroup : (a b c d e : List ℕ) → (a ++ (b ++ (c ++ d))) ++ e ≡ a ++ (b ++ (c ++ (d ++ e)))
regroup a b c d e = simp append_assoc

exact-as : (size number count m k : ℕ) (tens t : Tens) → number ≡ m → count ≡ k → tens ≡ t → size * 10 ^ (count + tens.down) ≡ number * 10 ^ (10 + tens.up) → size * 10 ^ (k + t.down) ≡ m * 10 ^ (10 + t.up)
exact-as size number count m k tens t number_is count_is tens_is exact = rw (number_is, count_is, tens_is) at exact

is_decimal : (text : List ℕ) (units : ℤ) → decimal_in text ≡ Some units → IsDecimal text units
unfolding decimal_in
is_decimal text units e =
    let signed_text = after_blanks text in
    let sign = sign-split signed_text in
    let first = bind_some (digits_in (after_sign signed_text)) _ units e in
    let d = first.0 in
    let second = bind_some (exponent_in d.1) _ units first.2 in
    let t = second.0 in
    let third = bind_some (cond (nat_lt 0 (length (after_blanks t.1))) None (exact_size d.0.number (10 + t.0.up) (d.0.decimals + t.0.down))) _ units second.2 in
    let size = third.0 in
    let end = ended t.1 (exact_size d.0.number (10 + t.0.up) (d.0.decimals + t.0.down)) size third.1 in
    let found = exact_size-found d.0.number (10 + t.0.up) (d.0.decimals + t.0.down) size end.1 in
    let digits = digits-found (after_sign signed_text) d.0 d.1 first.1 in
    let exponent = exponent-found d.1 t.0 t.1 second.1 in
    let sb = sign_bytes sign.sign in
    let pt = point_text digits.decimals in
    let inner : signed_text ≡ sb ++ (digits.whole ++ (pt ++ (exponent_text exponent.exponent ++ t.1))) =
    sign.text_is ∙ ap (λ (x : List ℕ). sb ++ x) (digits.text_is ∙ ap (λ (x : List ℕ). digits.whole ++ (pt ++ x)) exponent.text_is) in
    record {
      before = blanks text;
      parts = record { sign = sign.sign; whole = digits.whole; decimals = digits.decimals; exponent = exponent.exponent };
      after = t.1;
      text_is = sym (blanks-split text) ∙ ap (λ (x : List ℕ). blanks text ++ x) (inner ∙ sym (regroup sb digits.whole pt (exponent_text exponent.exponent) t.1));
      blank_before = blanks-each text;
      blank_after = end.0;
      formed = record { digits = digits.formed; some_digits = digits.some; exponent = exponent.formed; some_exponent = exponent.some };
      size = size;
      exact = exact-as size d.0.number d.0.decimals (digits_value 10 (digits.whole ++ unwrap_or digits.decimals [])) (length (unwrap_or digits.decimals [])) t.0 (tens_of exponent.exponent) digits.number digits.count exponent.tens found.0;
      small = found.1;
      units_are = sym (same_Some (signed (has_minus signed_text) size) units third.2) ∙ ap (λ negative. signed negative size) sign.negative;
    }

-- ---- the way back

number-starts : (p : ℕ → Bool) → ((b : ℕ) → is_ascii_digit b ≡ true → p b ≡ false) → p byte.dot ≡ false → (whole : List ℕ) (decimals : Option (List ℕ)) (rest : List ℕ) → all_ascii_digits whole ≡ true → 0 < length (whole ++ unwrap_or decimals []) → prefix_len p (whole ++ (point_text decimals ++ rest)) ≡ 0
number-starts p digit dot [] None rest each some = absurd (omega arith)
number-starts p digit dot [] (Some ds) rest each some = stops-at p byte.dot (ds ++ rest) dot
number-starts p digit dot (d ∷ ds) decimals rest each some = stops-at p d (ds ++ (point_text decimals ++ rest)) (digit d (and_parts (is_ascii_digit d) (all_ascii_digits ds) each).0)

sign-starts : (sign : Sign) (text : List ℕ) → prefix_len is_space text ≡ 0 → prefix_len is_space (sign_bytes sign ++ text) ≡ 0
sign-starts bare text none = none
sign-starts plus text none = refl
sign-starts minus text none = refl

exponent-starts : (p : ℕ → Bool) → ((b : ℕ) → is_space b ≡ true → p b ≡ false) → p byte.lower_e ≡ false → p byte.upper_e ≡ false → (exponent : Option Exponent) (after : List ℕ) → list_all is_space after ≡ true → prefix_len p (exponent_text exponent ++ after) ≡ 0
exponent-starts p blank lower upper None after each = stops-blanks p blank after each
exponent-starts p blank lower upper (Some e) after each = go e.capital
  where
    go : (capital : Bool) → prefix_len p (letter capital ∷ ((sign_bytes e.sign ++ e.digits) ++ after)) ≡ 0
    go true = stops-at p byte.upper_e ((sign_bytes e.sign ++ e.digits) ++ after) upper
    go false = stops-at p byte.lower_e ((sign_bytes e.sign ++ e.digits) ++ after) lower

decimal-read : (text : List ℕ) (units : ℤ) → IsDecimal text units → decimal_in text ≡ Some units
unfolding decimal_in
decimal-read text units h =
    let sign = h.parts.sign in
    let whole = h.parts.whole in
    let decimals = h.parts.decimals in
    let exponent = h.parts.exponent in
    let tail = exponent_text exponent ++ h.after in
    let number = whole ++ (point_text decimals ++ tail) in
    let each = (all_ascii_digits-parts whole (unwrap_or decimals []) h.formed.digits.each).0 in
    let text_is : text ≡ h.before ++ (sign_bytes sign ++ number) = h.text_is ∙ ap (λ (x : List ℕ). h.before ++ x) (regroup (sign_bytes sign) whole (point_text decimals) (exponent_text exponent) h.after) in
    let no_blank = sign-starts sign number (number-starts is_space digit_no_blank refl whole decimals tail each h.formed.some_digits) in
    let no_sign = number-starts is_sign digit_no_sign refl whole decimals tail each h.formed.some_digits in
    let no_digit = exponent-starts is_ascii_digit blank_no_digit refl refl exponent h.after h.blank_after in
    let no_dot = exponent-starts (λ b. b == byte.dot) blank_no_dot refl refl exponent h.after h.blank_after in
    let start : after_blanks text ≡ sign_bytes sign ++ number = ap after_blanks text_is ∙ after_blanks-of h.before (sign_bytes sign ++ number) h.blank_before no_blank in
    rw (start, after_sign-of sign number no_sign, has_minus-of sign number no_sign, digits-of whole decimals tail h.formed.digits h.formed.some_digits no_digit no_dot, exponent-of exponent h.after h.formed.exponent h.formed.some_exponent h.blank_after, after_blanks-all h.after h.blank_after, exact_size-of (digits_value 10 (digits_of h.parts)) (10 + (tens_of exponent).up) (length (unwrap_or decimals []) + (tens_of exponent).down) h.size h.exact h.small) (ap (λ z. Some z) (sym h.units_are))

pub decimal-found : (text : List ℕ) (units : ℤ) → (decimal_in text ≡ Some units) ↔ IsDecimal text units
decimal-found text units = ((λ e. is_decimal text units e), (λ h. decimal-read text units h))

pub decimal-none : (text : List ℕ) → IsNone (decimal_in text) ↔ ((units : ℤ) → ¬ IsDecimal text units)
decimal-none text = none-exactly (decimal_in text) (IsDecimal text) (decimal-found text)
