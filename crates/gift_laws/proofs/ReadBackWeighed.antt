-- Answers with a weight before them, read back.
use Rattle.std.proofs.Common.{◌≡◌, ℕ, suc, ◌+◌, ◌/◌, ◌%◌, ◌^◌, ◌<◌, ◌≤◌, Bool, true, false, cond, not, ◌==◌, ◌&&◌, nat_lt, nat_le, List, [], ◌∷◌, ◌++◌, map, length, take, drop, encode_utf8_all, Some, refl, sym, ap, ◌∙◌, append_assoc, arith, ℤ, pos, negsuc, codes, inl, inr}
use Rattle.std.specs.Char.{is_ascii_digit}
use Rattle.std.specs.Fmt.{decimal}
use Rattle.std.specs.List.{list_all}
use Rattle.std.specs.Str.{all_ascii_digits}
use Rattle.std.proofs.lemmas.Bool.{and_parts, and_from, not-true, ne_eqb, leb-true, lt-ltb}
use Rattle.std.proofs.lemmas.Bool.Decides.{nat_tests}
use Rattle.std.proofs.lemmas.Int.{ints}
use Rattle.std.proofs.lemmas.Fmt.{digits_decimal, decimal_nonempty}
use Rattle.std.proofs.lemmas.List.{map-append, length-append, length-map, take_at, drop_at}
use Rattle.std.proofs.lemmas.List.Folds.{list_all-append}
use Rattle.gift_lex.specs.declared.block.Piece.TheVariants.{Plain}
use Rattle.qz_decimal.specs.Numbers.{one}
use Rattle.qz_decimal.specs.Percent.{weight_in}
use Rattle.qz_decimal.proofs.Weights.{weight-found}
use Rattle.qz_grading.specs.Canonical.{behind_point, short_natural, short_number, weight_text}
use Rattle.qz_grading.specs.Questions.{is_weight}
use Rattle.gift_read.specs.declared.places.Landmark.TheVariants as landmark
use Rattle.gift_read.specs.Places.{Marks, characters_at, is_at}
use Rattle.gift_read.specs.Texts.{spelled}
use Rattle.gift_read.specs.Values.{without_minus, is_figure, is_figures, percent_marks, is_weighed, weight_marks, unweighed, weight_told}
use Rattle.gift_laws.proofs.ReadBackPlaces.{Passes, passes-nil, passes-cons, found-before, found-occurs}
use Rattle.gift_laws.proofs.ReadBackMarks.{plain-characters}
use Rattle.gift_laws.proofs.ReadBackWriting.{Writes}
use Rattle.gift_laws.proofs.ReadBackRanges.{is_within, within-wider, within-other, within-bytes, Writes-within, within-plain}
use Rattle.gift_laws.proofs.ReadBackWeights.{numerals, size-spelled, places, IsSized, is_places, sized-weight}

-- ---- the weight is told

weight-bound : (n : ℕ) → is_weight (pos n) ≡ true → n ≤ one
weight-bound n is = leb-true n one is

weight-bound_negative : (n : ℕ) → is_weight (negsuc n) ≡ true → suc n ≤ one
weight-bound_negative n is = let parts = and_parts (nat_le n 9999999) true is in let le : n ≤ 9999999 = leb-true n 9999999 parts.0 in omega arith

weight-told : (w : ℤ) → is_weight w ≡ true → weight_in (weight_text w) ≡ Some w
weight-told (pos n) is =
    let le = weight-bound n is in
    (weight-found (weight_text (pos n)) (pos n)).1 (record { number = short_natural 5 n; text_is = refl; spelled = size-spelled false n le; in_range = (omega (arith, ints), omega (arith, ints)) })
weight-told (negsuc n) is =
    let le = weight-bound_negative n is in
    (weight-found (weight_text (negsuc n)) (negsuc n)).1 (record { number = codes "-" ++ short_natural 5 (suc n); text_is = refl; spelled = size-spelled true (suc n) le; in_range = (omega (arith, ints), omega (arith, ints)) })

-- ---- the characters of a number

-- a minus, a point or a digit
abbrev is_inner : ℕ → Bool
is_inner = is_within 45 57

-- or a percent sign
abbrev is_low : ℕ → Bool
is_low = is_within 37 57

digit-inner : (c : ℕ) → is_ascii_digit c ≡ true → is_inner c ≡ true
digit-inner c digit = grind (arith, nat_tests)

digits-inner : (ds : List ℕ) → all_ascii_digits ds ≡ true → list_all is_inner ds ≡ true
digits-inner [] each = refl
digits-inner (d ∷ ds) each =
    let parts = and_parts (is_ascii_digit d) (all_ascii_digits ds) each in and_from (is_inner d) (list_all is_inner ds) (digit-inner d parts.0) (digits-inner ds parts.1)

behind-inner : (ds : List ℕ) → all_ascii_digits ds ≡ true → list_all is_inner (behind_point ds) ≡ true
behind-inner [] each = refl
behind-inner (d ∷ ds) each = digits-inner (d ∷ ds) each

pub natural-inner : (k n : ℕ) → IsSized k n → list_all is_inner (short_natural k n) ≡ true
natural-inner k n is =
    list_all-append is_inner (decimal (n / 10 ^ k)) (behind_point (places k (n % 10 ^ k)))
    ∙ and_from _ _ (digits-inner (decimal (n / 10 ^ k)) (digits_decimal numerals (n / 10 ^ k) is.whole)) (behind-inner (places k (n % 10 ^ k)) (is_places k n is).each)

pub natural_some : (k n : ℕ) → IsSized k n → 0 < length (short_natural k n)
natural_some k n is = omega (arith, length-append (decimal (n / 10 ^ k)) (behind_point (places k (n % 10 ^ k))), decimal_nonempty (n / 10 ^ k) is.whole)

-- ---- of a weight

number-inner : (w : ℤ) → is_weight w ≡ true → list_all is_inner (short_number 5 w) ≡ true
number-inner (pos n) is = natural-inner 5 n (sized-weight n (weight-bound n is))
number-inner (negsuc n) is = natural-inner 5 (suc n) (sized-weight (suc n) (weight-bound_negative n is))

pub weight-greater : (w : ℤ) → is_weight w ≡ true → list_all (λ c. not (c == 62)) (short_number 5 w) ≡ true
weight-greater w is = within-other 45 57 62 (inr (omega arith)) (short_number 5 w) (number-inner w is)

weight-low : (w : ℤ) → is_weight w ≡ true → list_all is_low (weight_text w) ≡ true
weight-low w is =
    list_all-append is_low (short_number 5 w) (37 ∷ [])
    ∙ rw (within-wider 45 57 37 57 (omega arith) (omega arith) (short_number 5 w) (number-inner w is)) refl

abbrev pub weight_marks_of : ℤ → Marks
weight_marks_of w = map Plain (weight_text w)

pub Writes-weight : (w : ℤ) → is_weight w ≡ true → Writes (weight_text w) (weight_text w) (weight_marks_of w)
Writes-weight w is =
    let low = weight-low w is in
    let writes = Writes-within 37 57 (omega arith) (omega arith) (weight_text w) low in
    rw (within-plain 37 57 (omega arith) (omega arith) (weight_text w) low) at writes

-- ---- figures

figures-digits : (ds : List ℕ) → all_ascii_digits ds ≡ true → list_all is_figure (map Plain ds) ≡ true
figures-digits [] each = refl
figures-digits (d ∷ ds) each = let parts = and_parts (is_ascii_digit d) (all_ascii_digits ds) each in rw (parts.0, figures-digits ds parts.1) refl

figures-behind : (ds : List ℕ) → all_ascii_digits ds ≡ true → list_all is_figure (map Plain (behind_point ds)) ≡ true
figures-behind [] each = refl
figures-behind (d ∷ ds) each = figures-digits (d ∷ ds) each

figures-natural : (n : ℕ) → n ≤ one → list_all is_figure (map Plain (short_natural 5 n)) ≡ true
figures-natural n le =
    let whole = decimal (n / 10 ^ 5) in
    let ds = places 5 (n % 10 ^ 5) in
    let is = sized-weight n le in
    ap (list_all is_figure) (map-append Plain whole (behind_point ds))
    ∙ list_all-append is_figure (map Plain whole) (map Plain (behind_point ds))
    ∙ and_from _ _ (figures-digits whole (digits_decimal numerals (n / 10 ^ 5) is.whole)) (figures-behind ds (is_places 5 n is).each)

-- a number without a minus begins with a digit
no_minus : (ds ys : List ℕ) → all_ascii_digits ds ≡ true → 0 < length ds → without_minus (map Plain (ds ++ ys)) ≡ map Plain (ds ++ ys)
no_minus [] ys each some = absurd (omega arith)
no_minus (d ∷ ds) ys each some =
    let parts = and_parts (is_ascii_digit d) (all_ascii_digits ds) each in
    rw (ne_eqb d 45 (λ e. let none : is_ascii_digit d ≡ false = rw e refl in cc)) refl

natural-long : (n : ℕ) → n ≤ one → 0 < length (map Plain (short_natural 5 n))
natural-long n le = omega (arith, length-map (short_natural 5 n) Plain, natural_some 5 n (sized-weight n le))

natural-figures : (n : ℕ) → n ≤ one → is_figures (map Plain (short_natural 5 n)) ≡ true
natural-figures n le =
    let whole = (sized-weight n le).whole in
    let same = no_minus (decimal (n / 10 ^ 5)) (behind_point (places 5 (n % 10 ^ 5))) (digits_decimal numerals (n / 10 ^ 5) whole) (decimal_nonempty (n / 10 ^ 5) whole) in
    ap (λ (m : Marks). nat_lt 0 (length m) && list_all is_figure m) same
    ∙ and_from _ _ (lt-ltb 0 (length (map Plain (short_natural 5 n))) (natural-long n le)) (figures-natural n le)

number-figures : (w : ℤ) → is_weight w ≡ true → is_figures (map Plain (short_number 5 w)) ≡ true
number-figures (pos n) is = natural-figures n (weight-bound n is)
number-figures (negsuc n) is =
    let le = weight-bound_negative n is in
    and_from _ _ (lt-ltb 0 (length (map Plain (short_natural 5 (suc n)))) (natural-long (suc n) le)) (figures-natural (suc n) le)

-- ---- the weight and the answer behind it

-- a character that isn't among them is found nowhere
pub passes-without : (d : ℕ) (ds cs : List ℕ) → list_all (λ c. not (c == d)) cs ≡ true → Passes (characters_at (d ∷ ds)) (map Plain cs)
passes-without d ds [] none = passes-nil (characters_at (d ∷ ds))
passes-without d ds (c ∷ cs) none =
    let parts = and_parts (not (c == d)) (list_all (λ c. not (c == d)) cs) none in
    passes-cons (characters_at (d ∷ ds)) (Plain c) (map Plain cs) (λ ys. rw (not-true (c == d) parts.0) refl) (passes-without d ds cs parts.1)

passes-percent : (w : ℤ) → is_weight w ≡ true → Passes (is_at landmark.Percent) (map Plain (short_number 5 w))
passes-percent w is = passes-without 37 [] (short_number 5 w) (within-other 45 57 37 (inl (omega arith)) (short_number 5 w) (number-inner w is))

pub weight-split : (w : ℤ) (rest : Marks) → weight_marks_of w ++ rest ≡ Plain 37 ∷ (map Plain (short_number 5 w) ++ (Plain 37 ∷ rest))
weight-split w rest =
    ap (λ (t : Marks). Plain 37 ∷ (t ++ rest)) (map-append Plain (short_number 5 w) (37 ∷ []))
    ∙ ap (λ (t : Marks). Plain 37 ∷ t) (append_assoc (map Plain (short_number 5 w)) (Plain 37 ∷ []) rest)

percent-between : (w : ℤ) (rest : Marks) → is_weight w ≡ true → percent_marks (weight_marks_of w ++ rest) ≡ map Plain (short_number 5 w)
percent-between w rest is =
    ap percent_marks (weight-split w rest)
    ∙ found-before (is_at landmark.Percent) (map Plain (short_number 5 w)) (Plain 37) rest (passes-percent w is) refl

pub weighed-is : (w : ℤ) (rest : Marks) → is_weight w ≡ true → is_weighed (weight_marks_of w ++ rest) ≡ true
weighed-is w rest is =
    let number = map Plain (short_number 5 w) in
    let between = percent-between w rest is in
    let closes = found-occurs (is_at landmark.Percent) number (Plain 37) rest (passes-percent w is) refl in
    ap is_weighed (weight-split w rest)
    ∙ ap (λ (b : Bool). b && is_figures (percent_marks (Plain 37 ∷ (number ++ (Plain 37 ∷ rest))))) closes
    ∙ ap is_figures (ap percent_marks (sym (weight-split w rest)) ∙ between)
    ∙ number-figures w is

weight-length : (w : ℤ) → length (weight_marks_of w) ≡ length (map Plain (short_number 5 w)) + 2
weight-length w =
    omega (arith, length-map (weight_text w) Plain, length-map (short_number 5 w) Plain, length-append (short_number 5 w) (37 ∷ []))

pub weighed-told : (w : ℤ) (rest : Marks) → is_weight w ≡ true → weight_told (weight_marks_of w ++ rest) ≡ Some w
weighed-told w rest is =
    let between = percent-between w rest is in
    let front : weight_marks (weight_marks_of w ++ rest) ≡ weight_marks_of w =
    ap (λ (m : Marks). take (length m + 2) (weight_marks_of w ++ rest)) between ∙ take_at (weight_marks_of w) rest (length (map Plain (short_number 5 w)) + 2) (weight-length w) in
    ap (λ (m : Marks). weight_in (spelled m)) front
    ∙ ap (λ (cs : List ℕ). weight_in (encode_utf8_all cs)) (plain-characters (weight_text w))
    ∙ ap weight_in (within-bytes 37 57 (omega arith) (weight_text w) (weight-low w is))
    ∙ weight-told w is

pub weighed-rest : (w : ℤ) (rest : Marks) → is_weight w ≡ true → unweighed (weight_marks_of w ++ rest) ≡ rest
weighed-rest w rest is =
    ap (λ (b : Bool). cond b (drop (length (percent_marks (weight_marks_of w ++ rest)) + 2) (weight_marks_of w ++ rest)) (weight_marks_of w ++ rest)) (weighed-is w rest is)
    ∙ ap (λ (m : Marks). drop (length m + 2) (weight_marks_of w ++ rest)) (percent-between w rest is)
    ∙ drop_at (weight_marks_of w) rest (length (map Plain (short_number 5 w)) + 2) (weight-length w)
