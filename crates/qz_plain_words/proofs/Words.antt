-- Words without a byte that is written with an escape.
use Rattle.std.proofs.Common.{◌≡◌, ℕ, zero, suc, ◌+◌, ◌-◌, ◌<◌, ◌/◌, ◌%◌, Bool, true, false, ◌==◌, List, [], ◌∷◌, ◌++◌, length, Option, Some, None, ℤ, pos, negsuc, map, decimal, codes, cond, refl, ◌∙◌, arith}
use Rattle.std.specs.Fmt.{digit_glyph, digits, digits_onto}
use Rattle.std.specs.List.{list_all}
use Rattle.std.specs.Prelude.{is_none, nat_lt, replicate}
use Rattle.std.proofs.lemmas.Bool.{and_parts, ltb-true, ltb-false, ne_eqb}
use Rattle.std.proofs.lemmas.List.Folds.{list_all-append}
use Rattle.qz_decimal.specs.Numbers.{grade_one, one}
use Rattle.qz_grading.specs.declared.outcome.Behaviour.{Behaviour}
use Rattle.qz_grading.specs.declared.outcome.Behaviour.TheVariants as behaviour
use Rattle.qz_grading.specs.declared.outcome.State.{State}
use Rattle.qz_grading.specs.declared.outcome.State.TheVariants as state
use Rattle.qz_grading.specs.declared.refusal.AttemptId.{AttemptId}
use Rattle.qz_grading.specs.Words.{attempt_word, behaviour_word, grade_text, grade_units_text, in_digits, kind_word, mark_text, state_word, units_text}
use Rattle.qz_wire.specs.Escapes.{escaped, text_word, written_for}

abbrev pub is_plain : ℕ → Bool
is_plain c = is_none (written_for c)

-- a word that is written as it is
abbrev pub is_word : List ℕ → Bool
is_word [] = false
is_word (c ∷ cs) = list_all is_plain (c ∷ cs)

plain-first : (c : ℕ) (cs : List ℕ) (r : Option (List ℕ)) → written_for c ≡ r → is_none r ≡ true → escaped cs ≡ cs → escaped (c ∷ cs) ≡ c ∷ cs
plain-first c cs None is none later = rw (is, later) refl
plain-first c cs (Some w) is none later = absurd cc

plain-escaped : (w : List ℕ) → list_all is_plain w ≡ true → escaped w ≡ w
plain-escaped [] all = refl
plain-escaped (c ∷ cs) all =
    let both = and_parts (is_plain c) (list_all is_plain cs) all in
    plain-first c cs (written_for c) refl both.0 (plain-escaped cs both.1)

pub as_it_is : (w : List ℕ) → is_word w ≡ true → text_word w ≡ w
as_it_is [] word = absurd cc
as_it_is (c ∷ cs) word = plain-escaped (c ∷ cs) word

pub word-all : (w : List ℕ) → is_word w ≡ true → list_all is_plain w ≡ true
word-all [] word = absurd cc
word-all (c ∷ cs) word = word

pub word-append : (v w : List ℕ) → is_word v ≡ true → list_all is_plain w ≡ true → is_word (v ++ w) ≡ true
word-append [] w front rest = absurd cc
word-append (c ∷ cs) w front rest = list_all-append is_plain (c ∷ cs) w ∙ rw (front, rest) refl

cond-word : (b : Bool) (x y : List ℕ) → is_word x ≡ true → is_word y ≡ true → is_word (cond b x y) ≡ true
cond-word true x y first second = first
cond-word false x y first second = second

-- ---- numbers

high-plain : (c : ℕ) → 32 < c → ¬ (c ≡ 92) → is_plain c ≡ true
high-plain c high other = rw (ne_eqb c 32 (λ e. omega arith), ne_eqb c 10 (λ e. omega arith), ne_eqb c 9 (λ e. omega arith), ne_eqb c 13 (λ e. omega arith), ne_eqb c 92 other) refl

glyph-by : (d : ℕ) (low : Bool) → nat_lt d 10 ≡ low → is_plain (digit_glyph false d) ≡ true
glyph-by d true low = let small : d < 10 = ltb-true d 10 low in rw low (high-plain (48 + d) (omega arith) (λ e. omega arith))
glyph-by d false low = rw low (high-plain (87 + d) (omega arith) (λ e. omega (arith, ltb-false d 10 low)))

digits-word : (k n : ℕ) (after : List ℕ) → list_all is_plain after ≡ true → is_word (digits_onto (suc k) 10 false n after) ≡ true
digits-word zero n after all =
    let here : is_word (digit_glyph false (n % 10) ∷ after) ≡ true = rw (glyph-by (n % 10) _ refl, all) refl in
    cond-word (n / 10 == 0) _ _ here here
digits-word (suc k) n after all =
    let here : is_word (digit_glyph false (n % 10) ∷ after) ≡ true = rw (glyph-by (n % 10) _ refl, all) refl in
    cond-word (n / 10 == 0) _ _ here (digits-word k (n / 10) (digit_glyph false (n % 10) ∷ after) here)

pub decimal-word : (n : ℕ) → is_word (decimal n) ≡ true
unfolding digits
decimal-word n = digits-word 63 n [] refl

zeros-plain : (k : ℕ) → list_all is_plain (replicate k 48) ≡ true
zeros-plain zero = refl
zeros-plain (suc k) = zeros-plain k

in_digits-plain : (k n : ℕ) → list_all is_plain (in_digits k n) ≡ true
in_digits-plain k n = list_all-append is_plain (replicate (k - length (decimal n)) 48) (decimal n) ∙ rw (zeros-plain, word-all (decimal n) (decimal-word n)) refl

units-word : (n : ℕ) → is_word (units_text n) ≡ true
units-word n = word-append (decimal (n / one) ++ codes ".") (in_digits 7 (n % one)) (word-append (decimal (n / one)) (codes ".") (decimal-word (n / one)) refl) (in_digits-plain 7 (n % one))

grade_units-word : (n : ℕ) → is_word (grade_units_text n) ≡ true
grade_units-word n = word-append (decimal (n / grade_one) ++ codes ".") (in_digits 5 (n % grade_one)) (word-append (decimal (n / grade_one)) (codes ".") (decimal-word (n / grade_one)) refl) (in_digits-plain 5 (n % grade_one))

pub mark-word : (m : ℤ) → is_word (mark_text m) ≡ true
mark-word (pos n) = units-word n
mark-word (negsuc n) = word-all (units_text (suc n)) (units-word (suc n))

pub grade-word : (g : ℤ) → is_word (grade_text g) ≡ true
grade-word (pos n) = grade_units-word n
grade-word (negsuc n) = word-all (grade_units_text (suc n)) (grade_units-word (suc n))

-- ---- other words

pub attempt-word : (a : AttemptId) → is_word (attempt_word a) ≡ true
attempt-word a = word-append (decimal a.user) (codes "." ++ decimal a.nth) (decimal-word a.user) (word-all (decimal a.nth) (decimal-word a.nth))

pub state-word : (s : State) → is_word (state_word s) ≡ true
state-word state.Todo = refl
state-word state.Complete = refl
state-word state.Invalid = refl
state-word state.NeedsGrading = refl
state-word state.Finished = refl
state-word state.GaveUp = refl
state-word state.GradedWrong = refl
state-word state.GradedPartial = refl
state-word state.GradedRight = refl
state-word state.MangrWrong = refl
state-word state.MangrPartial = refl
state-word state.MangrRight = refl

pub behaviour-word : (b : Behaviour) → is_word (behaviour_word b) ≡ true
behaviour-word behaviour.Deferred = refl
behaviour-word behaviour.Immediate = refl
behaviour-word behaviour.Interactive = refl
behaviour-word behaviour.Adaptive = refl
behaviour-word behaviour.AdaptiveNoPenalty = refl
behaviour-word behaviour.DeferredCbm = refl
behaviour-word behaviour.ImmediateCbm = refl
behaviour-word behaviour.Manual = refl
behaviour-word behaviour.Information = refl

pub kind-word : (n : ℕ) → is_word (kind_word n) ≡ true
kind-word n = cond-word (n == 0) _ _ refl (cond-word (n == 1) _ _ refl (cond-word (n == 2) _ _ refl (cond-word (n == 3) _ _ refl (cond-word (n == 4) _ _ refl (cond-word (n == 5) _ _ refl (cond-word (n == 6) _ _ refl refl))))))

-- words one by one
pub each-stands : (ws : List (List ℕ)) → list_all is_word ws ≡ true → map text_word ws ≡ ws
each-stands [] all = refl
each-stands (w ∷ ws) all =
    let parts = and_parts (is_word w) (list_all is_word ws) all in
    rw (as_it_is w parts.0, each-stands ws parts.1) refl
