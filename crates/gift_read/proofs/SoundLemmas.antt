-- What the question of a block keeps where no rule is broken.
use Rattle.std.proofs.Common.{◌≡◌, ℕ, zero, suc, ◌+◌, ◌^◌, Bool, true, false, cond, not, ◌&&◌, ◌||◌, eqb, List, [], ◌∷◌, drop, map, ℤ, pos, neg_ℤ, Option, Some, None, refl, sym, ◌∙◌}
use Rattle.std.specs.Prelude.{codes, int_le, unsigned_abs, unwrap_or}
use Rattle.std.specs.List.{list_all}
use Rattle.std.proofs.Math.Dec.{T}
use Rattle.std.proofs.lemmas.Bool.{and_from, or_parts, not-false, lt-ltb}
use Rattle.std.proofs.lemmas.List.Folds.{list_all-append}
use Rattle.qz_decimal.specs.Decimals.{is_minus, IsDecimal}
use Rattle.qz_decimal.specs.Numbers.{one, signed, IsWithin}
use Rattle.qz_decimal.specs.Percent.{weight_in, IsWeight}
use Rattle.qz_decimal.proofs.DecimalTexts.{decimal-found}
use Rattle.qz_decimal.proofs.Weights.{weight-found}
use Rattle.qz_grading.specs.declared.question.Choice.{Choice}
use Rattle.qz_grading.specs.declared.question.Extent.{Extent}
use Rattle.qz_grading.specs.declared.question.Extent.TheVariants as extent
use Rattle.qz_grading.specs.declared.question.Format.{Format}
use Rattle.qz_grading.specs.declared.question.Kind.{Kind}
use Rattle.qz_grading.specs.declared.question.Kind.TheVariants as kind
use Rattle.qz_grading.specs.declared.question.Num.{Num}
use Rattle.qz_grading.specs.declared.question.Short.{Short}
use Rattle.qz_grading.specs.Questions.{is_weight, is_short_number, is_extent, has_numbers_in_range, has_stem}
use Rattle.gift_read.specs.declared.parts.Sort.{Sort}
use Rattle.gift_read.specs.declared.parts.Sort.TheVariants as sort
use Rattle.gift_read.specs.declared.places.Landmark.TheVariants as landmark
use Rattle.gift_read.specs.Places.{Marks, is_at, before, from, occurs, trimmed}
use Rattle.gift_read.specs.Texts.{spelled, spells}
use Rattle.gift_read.specs.Parts.{Part, pieces_of, answer_marks}
use Rattle.gift_read.specs.Values.{is_weighed, weight_told, weight_marks, unweighed, own_weight, weight_of, choice_of, short_of, number_of, near, between, extent_of, num_of, other_of, others, kind_in}
use Rattle.gift_read.specs.Faults.{is_matching, lacks_piece}

-- ---- weights

holds : (b : Bool) → T b → b ≡ true
holds true t = refl
holds false t = elim t [ ]

in_range-weight : (w : ℤ) → IsWithin (neg_ℤ (pos one)) (pos one) w → is_weight w ≡ true
in_range-weight w within = and_from _ _ (holds _ within.0.le) (holds _ within.1.le)

told-weight : (text : List ℕ) (told : Option ℤ) → told ≡ weight_in text → is_weight (unwrap_or told (pos 0)) ≡ true
told-weight text None e = refl
told-weight text (Some w) e =
    let weight : IsWeight text w = (weight-found text w).0 (sym e) in
    in_range-weight w weight.in_range

own_weight-weight : (sign : ℕ) → is_weight (own_weight sign) ≡ true
own_weight-weight sign = go (eqb sign 61)
  where
    go : (b : Bool) → is_weight (cond b (pos one) (pos 0)) ≡ true
    go true = refl
    go false = refl

weight_of-weight : (sign : ℕ) (answer : Marks) → is_weight (weight_of sign answer) ≡ true
weight_of-weight sign answer = go (is_weighed answer)
  where
    go : (b : Bool) → is_weight (cond b (unwrap_or (weight_told answer) (pos 0)) (own_weight sign)) ≡ true
    go true = told-weight (spelled (weight_marks answer)) (weight_told answer) refl
    go false = own_weight-weight sign

-- ---- numbers

abbrev short_if_some : Option ℤ → Type 0
short_if_some None = Unit {0}
short_if_some (Some n) = is_short_number n ≡ true

signed-size : (negative : Bool) (size : ℕ) → unsigned_abs (signed negative size) ≡ size
signed-size true zero = refl
signed-size true (suc size) = refl
signed-size false size = refl

number_of-short : (marks : Marks) (told : Option ℤ) → told ≡ number_of marks → short_if_some told
number_of-short marks None e = tt
number_of-short marks (Some n) e =
    let number : IsDecimal (spelled marks) n = (decimal-found (spelled marks) n).0 (sym e) in
    rw (number.units_are, signed-size (is_minus number.parts.sign) number.size) (lt-ltb number.size (10 ^ (15 + 10)) number.small)

abbrev extent_if_some : Option Extent → Type 0
extent_if_some None = Unit {0}
extent_if_some (Some x) = is_extent x ≡ true

near-extent : (centre slack : Option ℤ) → short_if_some centre → short_if_some slack → extent_if_some (near centre slack)
near-extent None slack a b = tt
near-extent (Some centre) None a b = tt
near-extent (Some centre) (Some slack) a b = go (int_le (pos 0) slack) refl
  where
    go : (t : Bool) → int_le (pos 0) slack ≡ t → extent_if_some (cond t (Some (extent.Near centre slack)) None)
    go true e = and_from _ _ a (and_from _ _ b e)
    go false e = tt

between-extent : (low high : Option ℤ) → short_if_some low → short_if_some high → extent_if_some (between low high)
between-extent None high a b = tt
between-extent (Some low) None a b = tt
between-extent (Some low) (Some high) a b = go (int_le low high) refl
  where
    go : (t : Bool) → int_le low high ≡ t → extent_if_some (cond t (Some (extent.Between low high)) None)
    go true e = and_from _ _ a (and_from _ _ b e)
    go false e = tt

abbrev low_end : Marks → Marks
low_end marks = before (is_at landmark.Points) marks

abbrev high_end : Marks → Marks
high_end marks = drop 2 (from (is_at landmark.Points) marks)

abbrev middle : Marks → Marks
middle marks = before (is_at landmark.Colon) marks

abbrev tolerance : Marks → Marks
tolerance marks = drop 1 (from (is_at landmark.Colon) marks)

extent_of-extent : (marks : Marks) → extent_if_some (extent_of marks)
extent_of-extent marks = go (spells (codes "*") (trimmed marks)) (occurs (is_at landmark.Points) marks) (occurs (is_at landmark.Colon) marks)
  where
    short : (m : Marks) → short_if_some (number_of m)
    short m = number_of-short m (number_of m) refl

    go : (star range tolerant : Bool) → extent_if_some (cond star (Some extent.Any) (cond range (between (number_of (low_end marks)) (number_of (high_end marks)))
        (cond tolerant (near (number_of (middle marks)) (number_of (tolerance marks))) (near (number_of marks) (Some (pos 0))))))
    go true range tolerant = refl
    go false true tolerant = between-extent (number_of (low_end marks)) (number_of (high_end marks)) (short (low_end marks)) (short (high_end marks))
    go false false true = near-extent (number_of (middle marks)) (number_of (tolerance marks)) (short (middle marks)) (short (tolerance marks))
    go false false false = near-extent (number_of marks) (Some (pos 0)) (short marks) refl

or_any-extent : (x : Option Extent) → extent_if_some x → is_extent (unwrap_or x extent.Any) ≡ true
or_any-extent None a = refl
or_any-extent (Some x) a = a

-- ---- kinds

each-mapped : {X Y : Type 0} (p : Y → Bool) (f : X → Y) (xs : List X) → ((x : X) → p (f x) ≡ true) → list_all p (map f xs) ≡ true
each-mapped p f [] each = refl
each-mapped p f (x ∷ xs) each = and_from _ _ (each x) (each-mapped p f xs each)

choice-weight : (f : Format) (p : Part) → is_weight (choice_of f p).weight ≡ true
choice-weight f (sign, piece) = weight_of-weight sign (answer_marks piece)

short-weight : (f : Format) (p : Part) → is_weight (short_of f p).weight ≡ true
short-weight f (sign, piece) = weight_of-weight sign (answer_marks piece)

num-range : (f : Format) (p : Part) → (is_weight (num_of f p).weight && is_extent (num_of f p).extent) ≡ true
num-range f (sign, piece) = and_from _ _ (weight_of-weight sign (answer_marks piece)) (or_any-extent (extent_of (unweighed (answer_marks piece))) (extent_of-extent (unweighed (answer_marks piece))))

other-range : (f : Format) (marks : Marks) → list_all (λ (n : Num). is_weight n.weight && is_extent n.extent) (other_of f marks) ≡ true
other-range f [] = refl
other-range f (m ∷ marks) = refl

-- numbers of each kind are in range
pub kind_in-numbers : (f : Format) (answers : Marks) (s : Sort) → has_numbers_in_range (kind_in f answers s) ≡ true
kind_in-numbers f answers sort.Description = refl
kind_in-numbers f answers sort.Essay = refl
kind_in-numbers f answers (sort.TrueFalse right) = refl
kind_in-numbers f answers sort.One = each-mapped (λ (c : Choice). is_weight c.weight) (choice_of f) (pieces_of sort.One answers) (choice-weight f)
kind_in-numbers f answers sort.Several = each-mapped (λ (c : Choice). is_weight c.weight) (choice_of f) (pieces_of sort.Several answers) (choice-weight f)
kind_in-numbers f answers sort.Matching = refl
kind_in-numbers f answers sort.ShortAnswer = each-mapped (λ (a : Short). is_weight a.weight) (short_of f) (pieces_of sort.ShortAnswer answers) (short-weight f)
kind_in-numbers f answers sort.Numerical =
    let p = λ (n : Num). is_weight n.weight && is_extent n.extent in
    list_all-append p (map (num_of f) (pieces_of sort.Numerical answers)) (other_of f (others answers))
    ∙ and_from _ _ (each-mapped p (num_of f) (pieces_of sort.Numerical answers) (num-range f)) (other-range f (others answers))

-- rules 6 and 8 tell of too few pieces and blank ones
pub pieces-whole : (k : Kind) → (not (is_matching k) && lacks_piece k) ≡ false → (is_matching k && (lacks_piece k || not (has_stem k))) ≡ false
    → (lacks_piece k ≡ false) × (has_stem k ≡ true)
pieces-whole (kind.Matching pairs) others matching =
    let parts = or_parts (lacks_piece (kind.Matching pairs)) _ matching in (parts.0, not-false _ parts.1)
pieces-whole kind.Description others matching = (others, refl)
pieces-whole kind.Essay others matching = (others, refl)
pieces-whole (kind.TrueFalse right a b) others matching = (others, refl)
pieces-whole (kind.One choices) others matching = (others, refl)
pieces-whole (kind.Several choices) others matching = (others, refl)
pieces-whole (kind.ShortAnswer answers) others matching = (others, refl)
pieces-whole (kind.Numerical answers) others matching = (others, refl)
