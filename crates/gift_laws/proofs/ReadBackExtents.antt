-- The numbers of a numerical answer are read as they are written.
use Rattle.std.proofs.Common.{◌≡◌, ◌≢◌, ℕ, suc, ◌/◌, ◌%◌, ◌^◌, ◌<◌, Bool, true, false, cond, not, ◌==◌, ◌&&◌, List, [], ◌∷◌, ◌++◌, map, length, encode_utf8_all, Some, refl, sym, ap, ◌∙◌, append_assoc, append-nil, arith, codes, inr, ℤ, pos, negsuc, int_le}
use Rattle.std.specs.Char.{is_ascii_digit}
use Rattle.std.specs.Fmt.{decimal}
use Rattle.std.specs.List.{list_all}
use Rattle.std.specs.Ordering.{int_eq}
use Rattle.std.specs.Prelude.{bytes_eq}
use Rattle.std.specs.Str.{all_ascii_digits}
use Rattle.std.proofs.lemmas.Bool.{and_parts, and_from, eqb-true, ne_eqb}
use Rattle.std.proofs.lemmas.Bool.Decides.{Decides-int_eq, nat_tests}
use Rattle.std.proofs.lemmas.Fmt.{digits_decimal}
use Rattle.std.proofs.lemmas.List.{map-append}
use Rattle.std.proofs.lemmas.List.Folds.{list_all-append}
use Rattle.std.proofs.lemmas.Slice.Eq.{bytes_eq-Decides}
use Rattle.gift_lex.specs.declared.block.Piece.TheVariants.{Sign, Plain}
use Rattle.gift_lex.specs.Blocks.{single}
use Rattle.qz_decimal.specs.Decimals.{decimal_in}
use Rattle.qz_grading.specs.declared.question.Extent.{Extent}
use Rattle.qz_grading.specs.declared.question.Extent.TheVariants as extent
use Rattle.qz_grading.specs.Canonical.{behind_point, short_natural, decimal_text, extent_text}
use Rattle.qz_grading.specs.Grading as grading
use Rattle.qz_grading.specs.Questions.{is_short_number, is_extent}
use Rattle.gift_read.specs.declared.places.Landmark.TheVariants as landmark
use Rattle.gift_read.specs.Places.{Marks, is_at, are_blank, trimmed}
use Rattle.gift_read.specs.Texts.{spells}
use Rattle.gift_read.specs.Values.{number_of, extent_of}
use Rattle.gift_laws.specs.Written as written
use Rattle.gift_laws.proofs.ReadBackPlaces.{Passes, passes-nil, passes-cons, passes-append, passes-occurs, found-occurs, found-before, found-from, begins_ink, ends_ink, trimmed-ink}
use Rattle.gift_laws.proofs.ReadBackMarks.{plain-characters, single-character, single-characters}
use Rattle.gift_laws.proofs.ReadBackWriting.{Writes}
use Rattle.gift_laws.proofs.ReadBackRanges.{is_within, IsRange, within-range, within-wider, within-other, within-bytes, Writes-within, plain-single, within-plain}
use Rattle.gift_laws.proofs.ReadBackWeights.{numerals, IsSized, places, is_places}
use Rattle.gift_laws.proofs.ReadBackWeighed.{natural-inner, natural_some, passes-without}
use Rattle.gift_laws.proofs.ReadBackDecimals.{sized-number, number-size, number-size_negative, decimal-told}
use Rattle.gift_laws.proofs.ReadBackAnswers.{is_uncut, are_uncut}

-- ---- one number

abbrev number_marks : ℤ → Marks
number_marks v = map Plain (decimal_text v)

record IsFigured (v : ℤ) : Type 0 where
  inner : list_all (is_within 45 57) (decimal_text v) ≡ true
  some : 0 < length (decimal_text v)
  no_points : Passes (is_at landmark.Points) (map Plain (decimal_text v))

no_point : (d : ℕ) → is_ascii_digit d ≡ true → (d == 46) ≡ false
no_point d digit = grind (arith, nat_tests)

digits-points : (ds : List ℕ) → all_ascii_digits ds ≡ true → Passes (is_at landmark.Points) (map Plain ds)
digits-points [] each = passes-nil (is_at landmark.Points)
digits-points (d ∷ ds) each =
    let parts = and_parts (is_ascii_digit d) (all_ascii_digits ds) each in
    passes-cons (is_at landmark.Points) (Plain d) (map Plain ds) (λ ys. rw (no_point d parts.0) refl) (digits-points ds parts.1)

-- a digit stands behind the point
behind-points : (ds : List ℕ) → all_ascii_digits ds ≡ true → Passes (is_at landmark.Points) (map Plain (behind_point ds))
behind-points [] each = passes-nil (is_at landmark.Points)
behind-points (d ∷ ds) each =
    let parts = and_parts (is_ascii_digit d) (all_ascii_digits ds) each in
    passes-cons (is_at landmark.Points) (Plain 46) (map Plain (d ∷ ds)) (λ ys. rw (no_point d parts.0) refl) (digits-points (d ∷ ds) each)

natural-points : (n : ℕ) → IsSized 10 n → Passes (is_at landmark.Points) (map Plain (short_natural 10 n))
natural-points n is =
    let whole = decimal (n / 10 ^ 10) in
    let rest = behind_point (places 10 (n % 10 ^ 10)) in
    rw (map-append Plain whole rest) (passes-append (is_at landmark.Points) (map Plain whole) (map Plain rest) (digits-points whole (digits_decimal numerals (n / 10 ^ 10) is.whole)) (behind-points (places 10 (n % 10 ^ 10)) (is_places 10 n is).each))

is_figured : (v : ℤ) → is_short_number v ≡ true → IsFigured v
is_figured (pos n) is =
    let sized = sized-number n (number-size n is) in
    record { inner = natural-inner 10 n sized; some = natural_some 10 n sized; no_points = natural-points n sized }
is_figured (negsuc n) is =
    let sized = sized-number (suc n) (number-size_negative n is) in
    record {
      inner = natural-inner 10 (suc n) sized;
      some = omega arith;
      no_points = passes-cons (is_at landmark.Points) (Plain 45) (map Plain (short_natural 10 (suc n))) (λ ys. refl) (natural-points (suc n) sized);
    }

number-read : (v : ℤ) → is_short_number v ≡ true → number_of (number_marks v) ≡ Some v
number-read v is =
    ap (λ (cs : List ℕ). decimal_in (encode_utf8_all cs)) (plain-characters (decimal_text v))
    ∙ ap decimal_in (within-bytes 45 57 (omega arith) (decimal_text v) (is_figured v is).inner)
    ∙ decimal-told v is

number-colon : (v : ℤ) → is_short_number v ≡ true → Passes (is_at landmark.Colon) (number_marks v)
number-colon v is = passes-without 58 [] (decimal_text v) (within-other 45 57 58 (inr (omega arith)) (decimal_text v) (is_figured v is).inner)

number-single : (v : ℤ) → is_short_number v ≡ true → map single (decimal_text v) ≡ number_marks v
number-single v is = within-plain 45 57 (omega arith) (omega arith) (decimal_text v) (is_figured v is).inner

-- ---- the characters of an extent

abbrev is_narrow : ℕ → Bool
is_narrow = is_within 42 58

abbrev pub extent_marks : Extent → Marks
extent_marks e = map single (extent_text e)

number-narrow : (v : ℤ) → is_short_number v ≡ true → list_all is_narrow (decimal_text v) ≡ true
number-narrow v is = within-wider 45 57 42 58 (omega arith) (omega arith) (decimal_text v) (is_figured v is).inner

abbrev slack_text : Bool → ℤ → List ℕ
slack_text none slack = cond none [] (codes ":" ++ decimal_text slack)

slack-narrow : (none : Bool) (slack : ℤ) → is_short_number slack ≡ true → list_all is_narrow (slack_text none slack) ≡ true
slack-narrow true slack is = refl
slack-narrow false slack is = number-narrow slack is

record IsNear (centre slack : ℤ) : Type 0 where
  centre_is : is_short_number centre ≡ true
  slack_is : is_short_number slack ≡ true
  order : int_le (pos 0) slack ≡ true

near-parts : (centre slack : ℤ) → is_extent (extent.Near centre slack) ≡ true → IsNear centre slack
near-parts centre slack is =
    let parts = and_parts (is_short_number centre) (is_short_number slack && int_le (pos 0) slack) is in
    let more = and_parts (is_short_number slack) (int_le (pos 0) slack) parts.1 in
    record { centre_is = parts.0; slack_is = more.0; order = more.1 }

record IsBetween (low high : ℤ) : Type 0 where
  low_is : is_short_number low ≡ true
  high_is : is_short_number high ≡ true
  order : int_le low high ≡ true

between-parts : (low high : ℤ) → is_extent (extent.Between low high) ≡ true → IsBetween low high
between-parts low high is =
    let parts = and_parts (is_short_number low) (is_short_number high && int_le low high) is in
    let more = and_parts (is_short_number high) (int_le low high) parts.1 in
    record { low_is = parts.0; high_is = more.0; order = more.1 }

extent-narrow : (e : Extent) → is_extent e ≡ true → list_all is_narrow (extent_text e) ≡ true
extent-narrow extent.Any is = refl
extent-narrow (extent.Near centre slack) is =
    let parts = near-parts centre slack is in
    let none = int_eq slack (pos 0) in
    list_all-append is_narrow (decimal_text centre) (slack_text none slack) ∙ and_from _ _ (number-narrow centre parts.centre_is) (slack-narrow none slack parts.slack_is)
extent-narrow (extent.Between low high) is =
    let parts = between-parts low high is in
    let first : list_all is_narrow (decimal_text low ++ codes "..") ≡ true = list_all-append is_narrow (decimal_text low) (codes "..") ∙ rw (number-narrow low parts.low_is) refl in
    list_all-append is_narrow (decimal_text low ++ codes "..") (decimal_text high) ∙ and_from _ _ first (number-narrow high parts.high_is)

front_some : (xs ys : List ℕ) → 0 < length xs → xs ++ ys ≢ []
front_some [] ys some none = omega arith
front_some (x ∷ xs) ys some none = cc

extent_some : (e : Extent) → is_extent e ≡ true → extent_text e ≢ []
extent_some extent.Any is none = cc
extent_some (extent.Near centre slack) is none = front_some (decimal_text centre) (slack_text (int_eq slack (pos 0)) slack) (is_figured centre (near-parts centre slack is).centre_is).some none
extent_some (extent.Between low high) is none =
    front_some (decimal_text low) (codes ".." ++ decimal_text high) (is_figured low (between-parts low high is).low_is).some (sym (append_assoc (decimal_text low) (codes "..") (decimal_text high)) ∙ none)

-- ---- marks of such characters

single-uncut : (c : ℕ) → IsRange 42 58 c → is_uncut (single c) ≡ true
single-uncut c range = go (c == 58) refl
  where
    go : (b : Bool) → (c == 58) ≡ b → is_uncut (single c) ≡ true
    go true e = rw (eqb-true c 58 e) refl
    go false e = rw (plain-single c (omega (arith, range.from)) (omega (arith, range.to)) e) refl

narrow-uncut : (cs : List ℕ) → list_all is_narrow cs ≡ true → are_uncut (map single cs) ≡ true
narrow-uncut [] all = refl
narrow-uncut (c ∷ cs) all =
    let parts = and_parts (is_narrow c) (list_all is_narrow cs) all in
    and_from _ _ (single-uncut c (within-range 42 58 c parts.0)) (narrow-uncut cs parts.1)

narrow_ink : (c : ℕ) → is_narrow c ≡ true → grading.is_space c ≡ false
narrow_ink c narrow =
    let range = within-range 42 58 c narrow in
    rw (ne_eqb c 32 (λ e. omega (arith, range.from)), ne_eqb c 9 (λ e. omega (arith, range.from)), ne_eqb c 10 (λ e. omega (arith, range.from))) refl

narrow-begins : (cs : List ℕ) → list_all is_narrow cs ≡ true → written.begins_ink cs ≡ true
narrow-begins [] all = refl
narrow-begins (c ∷ cs) all = ap not (narrow_ink c (and_parts (is_narrow c) (list_all is_narrow cs) all).0)

narrow-ends : (cs : List ℕ) → list_all is_narrow cs ≡ true → written.ends_ink cs ≡ true
narrow-ends [] all = refl
narrow-ends (c ∷ []) all = ap not (narrow_ink c (and_parts (is_narrow c) true all).0)
narrow-ends (c ∷ d ∷ cs) all = narrow-ends (d ∷ cs) (and_parts (is_narrow c) (list_all is_narrow (d ∷ cs)) all).1

-- what is known of the marks of an extent
pub record IsExtentMarks (marks : Marks) : Type 0 where
  pub uncut : are_uncut marks ≡ true
  pub begins : begins_ink marks ≡ true
  pub ends : ends_ink marks ≡ true
  pub some : marks ≢ []
  pub inked : are_blank marks ≡ false
  pub no_percent : is_at landmark.Percent marks ≡ false

narrow-marks : (cs : List ℕ) → cs ≢ [] → list_all is_narrow cs ≡ true → IsExtentMarks (map single cs)
narrow-marks [] some all = absurd (some refl)
narrow-marks (c ∷ cs) some all =
    let narrow = (and_parts (is_narrow c) (list_all is_narrow cs) all).0 in
    let same = single-characters (c ∷ cs) in
    let range = within-range 42 58 c narrow in
    record {
      uncut = narrow-uncut (c ∷ cs) all;
      begins = ap written.begins_ink same ∙ narrow-begins (c ∷ cs) all;
      ends = ap written.ends_ink same ∙ narrow-ends (c ∷ cs) all;
      some = λ none. cc;
      inked = rw (single-character c, narrow_ink c narrow) refl;
      no_percent = rw (single-character c, ne_eqb c 37 (λ e. omega (arith, range.from))) refl;
    }

pub extent-marks : (e : Extent) → is_extent e ≡ true → IsExtentMarks (extent_marks e)
extent-marks e is = narrow-marks (extent_text e) (extent_some e is) (extent-narrow e is)

pub Writes-extent : (e : Extent) → is_extent e ≡ true → Writes (extent_text e) (extent_text e) (extent_marks e)
Writes-extent e is = Writes-within 42 58 (omega arith) (omega arith) (extent_text e) (extent-narrow e is)

-- ---- an extent is read

-- what begins with a number isn't a star
not_star : (cs ds : List ℕ) → 0 < length cs → list_all (is_within 45 57) cs ≡ true → bytes_eq (cs ++ ds) (codes "*") ≡ false
not_star [] ds some all = absurd (omega arith)
not_star (c ∷ cs) ds some all = go (bytes_eq (c ∷ (cs ++ ds)) (codes "*")) refl
  where
    go : (b : Bool) → bytes_eq (c ∷ (cs ++ ds)) (codes "*") ≡ b → bytes_eq (c ∷ (cs ++ ds)) (codes "*") ≡ false
    go true e =
        let same = (bytes_eq-Decides (c ∷ (cs ++ ds)) (codes "*")).0 e in
        let is : c ≡ 42 = cc in
        let range = within-range 45 57 c (and_parts (is_within 45 57 c) (list_all (is_within 45 57) cs) all).0 in
        absurd (omega (arith, is, range.from))
    go false e = e

star-told : (cs : List ℕ) (marks : Marks) → map single cs ≡ marks → IsExtentMarks (map single cs) → bytes_eq cs (codes "*") ≡ false → spells (codes "*") (trimmed marks) ≡ false
star-told cs marks same are other =
    ap (λ (m : Marks). spells (codes "*") (trimmed m)) (sym same)
    ∙ ap (spells (codes "*")) (trimmed-ink (map single cs) are.begins are.ends)
    ∙ ap (λ (ds : List ℕ). bytes_eq ds (codes "*")) (single-characters cs)
    ∙ other

number-told : (xs : Marks) (c : ℤ) → spells (codes "*") (trimmed xs) ≡ false → Passes (is_at landmark.Points) xs → Passes (is_at landmark.Colon) xs → number_of xs ≡ Some c → extent_of xs ≡ Some (extent.Near c (pos 0))
number-told xs c star points colon number = rw (star, passes-occurs (is_at landmark.Points) xs points, passes-occurs (is_at landmark.Colon) xs colon, number) refl

near-told : (xs ys : Marks) (c s : ℤ) → spells (codes "*") (trimmed (xs ++ Sign 58 ∷ ys)) ≡ false → Passes (is_at landmark.Points) xs → Passes (is_at landmark.Points) ys → Passes (is_at landmark.Colon) xs
    → number_of xs ≡ Some c → number_of ys ≡ Some s → int_le (pos 0) s ≡ true → extent_of (xs ++ Sign 58 ∷ ys) ≡ Some (extent.Near c s)
near-told xs ys c s star points more colon first second order =
    let passes = passes-append (is_at landmark.Points) xs (Sign 58 ∷ ys) points (passes-cons (is_at landmark.Points) (Sign 58) ys (λ zs. refl) more) in
    rw (
      star,
      passes-occurs (is_at landmark.Points) (xs ++ Sign 58 ∷ ys) passes,
      found-occurs (is_at landmark.Colon) xs (Sign 58) ys colon refl,
      found-before (is_at landmark.Colon) xs (Sign 58) ys colon refl,
      found-from (is_at landmark.Colon) xs (Sign 58) ys colon refl,
      first,
      second,
      order,
    ) refl

between-told : (xs ys : Marks) (l h : ℤ) → spells (codes "*") (trimmed (xs ++ Plain 46 ∷ Plain 46 ∷ ys)) ≡ false → Passes (is_at landmark.Points) xs → number_of xs ≡ Some l → number_of ys ≡ Some h → int_le l h ≡ true
    → extent_of (xs ++ Plain 46 ∷ Plain 46 ∷ ys) ≡ Some (extent.Between l h)
between-told xs ys l h star points first second order =
    rw (
      star,
      found-occurs (is_at landmark.Points) xs (Plain 46) (Plain 46 ∷ ys) points refl,
      found-before (is_at landmark.Points) xs (Plain 46) (Plain 46 ∷ ys) points refl,
      found-from (is_at landmark.Points) xs (Plain 46) (Plain 46 ∷ ys) points refl,
      first,
      second,
      order,
    ) refl

near-read : (centre slack : ℤ) → is_extent (extent.Near centre slack) ≡ true → (none : Bool) → int_eq slack (pos 0) ≡ none → extent_of (map single (decimal_text centre ++ slack_text none slack)) ≡ Some (extent.Near centre slack)
near-read centre slack is true e =
    let parts = near-parts centre slack is in
    let figured = is_figured centre parts.centre_is in
    let no_slack : slack ≡ pos 0 = (Decides-int_eq slack (pos 0)).0 e in
    let text = decimal_text centre ++ [] in
    let same : map single text ≡ number_marks centre = ap (map single) (append-nil (decimal_text centre)) ∙ number-single centre parts.centre_is in
    let narrow = ap (list_all is_narrow) (append-nil (decimal_text centre)) ∙ number-narrow centre parts.centre_is in
    let star = star-told text (number_marks centre) same (narrow-marks text (front_some (decimal_text centre) [] figured.some) narrow) (not_star (decimal_text centre) [] figured.some figured.inner) in
    ap extent_of same ∙ number-told (number_marks centre) centre star figured.no_points (number-colon centre parts.centre_is) (number-read centre parts.centre_is) ∙ ap (λ (s : ℤ). Some (extent.Near centre s)) (sym no_slack)
near-read centre slack is false e =
    let parts = near-parts centre slack is in
    let figured = is_figured centre parts.centre_is in
    let text = decimal_text centre ++ (58 ∷ decimal_text slack) in
    let marks = number_marks centre ++ Sign 58 ∷ number_marks slack in
    let same : map single text ≡ marks = map-append single (decimal_text centre) (58 ∷ decimal_text slack) ∙ rw (number-single centre parts.centre_is, number-single slack parts.slack_is) refl in
    let narrow = list_all-append is_narrow (decimal_text centre) (58 ∷ decimal_text slack) ∙ and_from _ _ (number-narrow centre parts.centre_is) (number-narrow slack parts.slack_is) in
    let star = star-told text marks same (narrow-marks text (front_some (decimal_text centre) (58 ∷ decimal_text slack) figured.some) narrow) (not_star (decimal_text centre) (58 ∷ decimal_text slack) figured.some figured.inner) in
    ap extent_of same ∙ near-told (number_marks centre) (number_marks slack) centre slack star figured.no_points (is_figured slack parts.slack_is).no_points (number-colon centre parts.centre_is) (number-read centre parts.centre_is) (number-read slack parts.slack_is) parts.order

between-read : (low high : ℤ) → is_extent (extent.Between low high) ≡ true → extent_of (map single ((decimal_text low ++ codes "..") ++ decimal_text high)) ≡ Some (extent.Between low high)
between-read low high is =
    let parts = between-parts low high is in
    let figured = is_figured low parts.low_is in
    let behind : List ℕ = 46 ∷ 46 ∷ decimal_text high in
    let text = (decimal_text low ++ codes "..") ++ decimal_text high in
    let split : text ≡ decimal_text low ++ behind = append_assoc (decimal_text low) (codes "..") (decimal_text high) in
    let marks = number_marks low ++ Plain 46 ∷ Plain 46 ∷ number_marks high in
    let same : map single text ≡ marks = ap (map single) split ∙ map-append single (decimal_text low) behind ∙ rw (number-single low parts.low_is, number-single high parts.high_is) refl in
    let other = ap (λ (cs : List ℕ). bytes_eq cs (codes "*")) split ∙ not_star (decimal_text low) behind figured.some figured.inner in
    let star = star-told text marks same (extent-marks (extent.Between low high) is) other in
    ap extent_of same ∙ between-told (number_marks low) (number_marks high) low high star figured.no_points (number-read low parts.low_is) (number-read high parts.high_is) parts.order

pub extent-read : (e : Extent) → is_extent e ≡ true → extent_of (extent_marks e) ≡ Some e
extent-read extent.Any is = refl
extent-read (extent.Near centre slack) is = near-read centre slack is (int_eq slack (pos 0)) refl
extent-read (extent.Between low high) is = between-read low high is
