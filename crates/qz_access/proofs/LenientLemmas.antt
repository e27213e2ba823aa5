-- The most lenient of what is set for the groups, one group more at a time.
use Rattle.std.proofs.Common.{◌≡◌, ℕ, zero, suc, ◌+◌, ◌<◌, max, Bool, true, false, List, [], ◌∷◌, ◌++◌, Option, Some, None, length, take, get_or, ltb, refl, sym, ap, ◌∙◌, arith, append-nil}
use Rattle.std.specs.List.{list_any}
use Rattle.std.specs.Prelude.{◌==◌, fold, filter_map, if◌then◌else◌, min, option_to_list}
use Rattle.std.proofs.lemmas.Bool.{eqb-true, ltb-true, ltb-false}
use Rattle.std.proofs.lemmas.Grind.{fold-append}
use Rattle.std.proofs.lemmas.List.Folds.{list_any-append}
use Rattle.std.proofs.lemmas.List.{get_or_default}
use Rattle.qz_terms.specs.declared.access.Override.{Override}
use Rattle.qz_terms.specs.Access.{lesser, longest}
use Rattle.qz_terms.specs.Lists.{greatest, least}
use Rattle.qz_terms.proofs.Walks.{all_kept}
use Rattle.qz_grading.proofs.StepLemmas.{or-false}
use Rattle.qz_access.specs.Lenient.{longer, more_lenient, most_lenient}

least-more : (xs : List ℕ) (o : Option ℕ) → least (xs ++ option_to_list o) ≡ lesser (least xs) o
least-more [] None = refl
least-more [] (Some y) = refl
least-more (x ∷ xs) None = ap least (append-nil (x ∷ xs))
least-more (x ∷ xs) (Some y) = ap Some (fold-append min x xs (y ∷ []))

-- ---- none at all, or the greatest

-- the greatest is above 0 where the first is
greatest-above : (x : ℕ) (xs : List ℕ) → 0 < x → 0 < fold max x xs
greatest-above x [] above = above
greatest-above x (y ∷ xs) above = greatest-above (max x y) xs (omega arith)

greater-told : (m y : ℕ) (b : Bool) → ltb m y ≡ b → Some (max m y) ≡ (if b then Some y else Some m)
greater-told m y true is = let less = ltb-true m y is in ap Some (omega arith)
greater-told m y false is = let not_less = ltb-false m y is in ap Some (omega arith)

not_zero : (m : ℕ) (b : Bool) → (m == 0) ≡ b → 0 < m → (m == 0) ≡ false
not_zero m true is above = let zero_is = eqb-true m 0 is in absurd (omega arith)
not_zero m false is above = is

longer-told : (m y : ℕ) (b : Bool) → (y == 0) ≡ b → (m == 0) ≡ false → (if y == 0 then Some 0 else Some (max m y)) ≡ longer (Some m) (Some y)
longer-told m y true is above = rw (is, above) (ap Some (sym (eqb-true y 0 is)))
longer-told m y false is above = rw (is, above) (greater-told m y (ltb m y) refl)

first-set : (y : ℕ) (b : Bool) → (y == 0) ≡ b → (if y == 0 then Some 0 else Some y) ≡ Some y
first-set y true is = rw is (ap Some (sym (eqb-true y 0 is)))
first-set y false is = rw is refl

-- the first of them is not 0 where none is
first-above : (x : ℕ) (xs : List ℕ) → list_any (λ n. n == 0) (x ∷ xs) ≡ false → 0 < x
first-above zero xs none = absurd cc
first-above (suc x) xs none = omega arith

longest-all_set : (xs : List ℕ) (y : ℕ) → list_any (λ n. n == 0) xs ≡ false → (if y == 0 then Some 0 else greatest (xs ++ y ∷ [])) ≡ longer (greatest xs) (Some y)
longest-all_set [] y none = first-set y (y == 0) refl
longest-all_set (x ∷ xs) y none = rw (fold-append max x xs (y ∷ [])) (longer-told (fold max x xs) y (y == 0) refl (not_zero (fold max x xs) (fold max x xs == 0) refl (greatest-above x xs (first-above x xs none))))

longest-told : (xs : List ℕ) (y : ℕ) (b : Bool) → list_any (λ n. n == 0) xs ≡ b → longest (xs ++ y ∷ []) ≡ longer (longest xs) (Some y)
longest-told xs y true is = rw (list_any-append (λ n. n == 0) xs (y ∷ []), is) refl
longest-told xs y false is = rw (list_any-append (λ n. n == 0) xs (y ∷ []), is, or-false) (longest-all_set xs y is)

longer-none : (o : Option ℕ) → longer o None ≡ o
longer-none None = refl
longer-none (Some x) = refl

longest-more : (xs : List ℕ) (o : Option ℕ) → longest (xs ++ option_to_list o) ≡ longer (longest xs) o
longest-more xs None = ap longest (append-nil xs) ∙ sym (longer-none (longest xs))
longest-more xs (Some y) = longest-told xs y (list_any (λ n. n == 0) xs) refl

-- ---- one group more

pub most_lenient-more : (groups : List Override) (i : ℕ) (d : Override) → i < length groups → most_lenient (take (i + 1) groups) ≡ more_lenient (most_lenient (take i groups)) (get_or groups i d)
most_lenient-more groups i d inside =
    let group = get_or groups i d in
    let is : group ≡ get_or groups i group = get_or_default groups i d group inside in
    let opens = ap least (all_kept (λ (o : Override). o.opens) groups i group inside is) ∙ least-more (filter_map (λ (o : Override). o.opens) (take i groups)) group.opens in
    let closes = ap longest (all_kept (λ (o : Override). o.closes) groups i group inside is) ∙ longest-more (filter_map (λ (o : Override). o.closes) (take i groups)) group.closes in
    let limit = ap longest (all_kept (λ (o : Override). o.limit) groups i group inside is) ∙ longest-more (filter_map (λ (o : Override). o.limit) (take i groups)) group.limit in
    let allowed = ap longest (all_kept (λ (o : Override). o.allowed) groups i group inside is) ∙ longest-more (filter_map (λ (o : Override). o.allowed) (take i groups)) group.allowed in
    cc
