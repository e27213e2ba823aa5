-- The grade by the highest total is at least that of each total alone: a greater total has no lesser grade.
use Rattle.std.specs.Ordering.{int_eq}
use Rattle.std.proofs.Common.{Bool, true, false, if◌then◌else◌, ◌≡◌, ℕ, zero, suc, ◌+◌, ◌*◌, ◌/◌, ◌<◌, ◌≤◌, List, [], ◌∷◌, ◌++◌, Option, Some, ℤ, pos, negsuc, ◌+ℤ◌, ◌*ℤ◌, ap, ◌∙◌, sym, arith}
use Rattle.std.specs.Prelude.{◌≤ℤ◌, neg_ℤ, unsigned_abs, filter_map, fold, option_to_list}
use Rattle.std.specs.Int.{int_max}
use Rattle.std.proofs.lemmas.Int.{ints, int_max_is}
use Rattle.std.proofs.lemmas.List.Elements.{filter_map-append}
use Rattle.std.proofs.lemmas.Nat.{le-div}
use Rattle.std.proofs.Math.Nat.{mul-le-mul_right, div-mul-le_self, div-zero}
use Rattle.qz_decimal.specs.Numbers.{nearest_natural, nearest, grade_of}
use Rattle.qz_terms.specs.declared.grades.Method.{Method}
use Rattle.qz_terms.specs.declared.grades.Method.TheVariants as method
use Rattle.qz_terms.specs.declared.grades.Policy.{Policy}
use Rattle.qz_terms.specs.Rows.{row_of, greatest_total, graded_by}
use Rattle.qz_terms.specs.Laws.{HighestIsHighest}

-- ---- the nearest quotient doesn't fall

nearest_natural-more : (n m d : ℕ) → 0 < d → n ≤ m → nearest_natural n d ≤ nearest_natural m d
nearest_natural-more n m d positive le =
    let positive2 : 0 < 2 * d = omega arith in
    let low : (2 * n + d) / (2 * d) * (2 * d) ≤ 2 * n + d = div-mul-le_self (2 * n + d) (2 * d) in
    le-div ((2 * n + d) / (2 * d)) (2 * m + d) (2 * d) positive2 (omega arith)

nearest-more : (a b : ℤ) (d : ℕ) → 0 < d → a ≤ℤ b → nearest a d ≤ℤ nearest b d
nearest-more (pos a) (pos b) d positive le = let h = nearest_natural-more a b d positive (omega (arith, ints)) in omega (arith, ints)
nearest-more (negsuc a) (pos b) d positive le = omega (arith, ints)
nearest-more (pos a) (negsuc b) d positive le = absurd (omega (arith, ints))
nearest-more (negsuc a) (negsuc b) d positive le = let h = nearest_natural-more (suc b) (suc a) d positive (omega (arith, ints)) in omega (arith, ints)

times-more : (a b : ℤ) (g : ℕ) → a ≤ℤ b → (a *ℤ pos g) ≤ℤ (b *ℤ pos g)
times-more (pos a) (pos b) g le = let le' : a ≤ b = omega (arith, ints) in let h = mul-le-mul_right g le' in omega (arith, ints)
times-more (negsuc a) (pos b) g le = omega (arith, ints)
times-more (pos a) (negsuc b) g le = absurd (omega (arith, ints))
times-more (negsuc a) (negsuc b) g le = let le' : suc b ≤ suc a = omega (arith, ints) in let h = mul-le-mul_right g le' in omega (arith, ints)

-- a quotient by 0 is 0
nearest-none : (a : ℤ) → nearest a 0 ≡ pos 0
nearest-none (pos n) = ap pos (div-zero (2 * n + 0))
nearest-none (negsuc n) = ap (λ (k : ℕ). neg_ℤ (pos k)) (div-zero (2 * suc n + 0))

divided-more : (a b : ℤ) (d : ℕ) → a ≤ℤ b → nearest a d ≤ℤ nearest b d
divided-more a b zero le = rw (nearest-none a, nearest-none b) (omega (arith, ints))
divided-more a b (suc d) le = nearest-more a b (suc d) (omega arith) le

chosen-more : (zero_sum : Bool) (a b : ℤ) → a ≤ℤ b → (if zero_sum then pos 0 else a) ≤ℤ (if zero_sum then pos 0 else b)
chosen-more true a b le = omega (arith, ints)
chosen-more false a b le = le

grade_of-more : (a b grade sum : ℤ) → pos 0 ≤ℤ grade → a ≤ℤ b → grade_of a 1 grade sum ≤ℤ grade_of b 1 grade sum
grade_of-more a b (pos grade) sum least le = chosen-more (int_eq sum (pos 0)) _ _ (divided-more (a *ℤ pos grade) (b *ℤ pos grade) (1 * unsigned_abs sum) (times-more a b grade le))
grade_of-more a b (negsuc grade) sum least le = absurd (omega (arith, ints))

-- ---- the greatest of several

int_max-left : (a b : ℤ) → a ≤ℤ int_max a b
int_max-left a b = omega (arith, ints, int_max_is a b)

int_max-right : (a b : ℤ) → b ≤ℤ int_max a b
int_max-right a b = omega (arith, ints, int_max_is a b)

le-trans : (a b c : ℤ) → a ≤ℤ b → b ≤ℤ c → a ≤ℤ c
le-trans a b c h k = omega (arith, ints)

fold-from : (a : ℤ) (xs : List ℤ) → a ≤ℤ fold int_max a xs
fold-from a [] = omega (arith, ints)
fold-from a (x ∷ xs) = le-trans a (int_max a x) (fold int_max (int_max a x) xs) (int_max-left a x) (fold-from (int_max a x) xs)

fold-among : (a : ℤ) (xs : List ℤ) (t : ℤ) (ys : List ℤ) → t ≤ℤ fold int_max a (xs ++ t ∷ ys)
fold-among a [] t ys = le-trans t (int_max a t) (fold int_max (int_max a t) ys) (int_max-right a t) (fold-from (int_max a t) ys)
fold-among a (x ∷ xs) t ys = fold-among (int_max a x) xs t ys

-- ---- the row

zero-plus : (a : ℤ) → pos 0 +ℤ a ≡ a
zero-plus (pos a) = omega (arith, ints)
zero-plus (negsuc a) = omega (arith, ints)

graded-more : (grade sum a b g alone : ℤ) → pos 0 ≤ℤ grade → a ≤ℤ b → Some (grade_of (pos 0 +ℤ b) 1 grade sum) ≡ Some g → Some (grade_of (pos 0 +ℤ a) 1 grade sum) ≡ Some alone → alone ≤ℤ g
graded-more grade sum a b g alone least le e f =
    let more = grade_of-more (pos 0 +ℤ a) (pos 0 +ℤ b) grade sum least (rw (zero-plus a, zero-plus b) le) in
    let eg : grade_of (pos 0 +ℤ b) 1 grade sum ≡ g = cc in
    let ea : grade_of (pos 0 +ℤ a) 1 grade sum ≡ alone = cc in
    rw (← eg, ← ea) more

abbrev by_highest : ℤ → ℤ → Policy
by_highest grade sum = record { method = method.Highest; grade = grade; sum = sum }

taken-more : (grade sum : ℤ) (xs : List ℤ) (t : ℤ) (ys : List ℤ) (g alone : ℤ) → pos 0 ≤ℤ grade → graded_by (by_highest grade sum) (option_to_list (greatest_total (xs ++ t ∷ ys))) ≡ Some g → Some (grade_of (pos 0 +ℤ t) 1 grade sum) ≡ Some alone → alone ≤ℤ g
taken-more grade sum [] t ys g alone least e f = graded-more grade sum t (fold int_max t ys) g alone least (fold-from t ys) e f
taken-more grade sum (x ∷ xs) t ys g alone least e f = graded-more grade sum t (fold int_max x (xs ++ t ∷ ys)) g alone least (fold-among x xs t ys) e f

highest-more : (m : Method) (grade sum : ℤ) (front rest : List (Option ℤ)) (t g alone : ℤ) → m ≡ method.Highest → pos 0 ≤ℤ grade
    → row_of (record { method = m; grade = grade; sum = sum }) (front ++ Some t ∷ rest) ≡ Some g → row_of (record { method = m; grade = grade; sum = sum }) (Some t ∷ []) ≡ Some alone → alone ≤ℤ g
highest-more method.Highest grade sum front rest t g alone is least e f = taken-more grade sum (filter_map (λ o. o) front) t (filter_map (λ o. o) rest) g alone least (ap (λ (l : List ℤ). graded_by (by_highest grade sum) (option_to_list (greatest_total l))) (sym (filter_map-append (λ o. o) front (Some t ∷ rest))) ∙ e) f
highest-more method.Average grade sum front rest t g alone is least e f = absurd cc
highest-more method.First grade sum front rest t g alone is least e f = absurd cc
highest-more method.Last grade sum front rest t g alone is least e f = absurd cc

pub highest_law : HighestIsHighest
highest_law = record { row = λ policy front rest t g alone is least e f. highest-more policy.method policy.grade policy.sum front rest t g alone is least e f }
