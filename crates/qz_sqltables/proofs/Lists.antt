-- Rows whose rowids count from 1, and one row that takes its own place again.
use Rattle.std.proofs.Common.{◌≡◌, ℕ, ℤ, ◌+◌, ◌≤◌, ◌<ℤ◌, List, [], ◌∷◌, filter, length, Bool, true, false, not, cond, refl, sym, ap, ◌∙◌, arith, int_cmp, int_eq, Less, Equal, Greater, Ordering, true≢false, IsPermutation}
use Rattle.std.proofs.lemmas.Bool.{cond_both}
use Rattle.std.proofs.lemmas.Int.{ints}
use Rattle.std.proofs.lemmas.List.Sorted.{length_permutation}
use Rattle.std.specs.List.{AllByRecursion, enumerate_from}
use Rattle.std.specs.Ordering.{match_ordering}
use Rattle.sqlite.proofs.Callers.{one_permutation}
use Rattle.sqlite_keyed.specs.Keyed.{IsKeyedBy, insert_by}
use Rattle.sqlite_keyed.specs.Lists.{update_where, without_key}
use Rattle.sqlite_keyed.specs.Rules.{AreApart}
use Rattle.sqlite_keyed.proofs.KeyedLemmas.{same_int}
use Rattle.sqlite_keyed.proofs.ListLemmas.{all_weaker, filter_all, filter_none}

-- a change of the items changes no number
pub update-enumerate : {X : Type 0} (p : X → Bool) (f : X → X) (k : ℕ) (xs : List X)
    → update_where (λ (n : ℕ × X). p n.1) (λ n. (n.0, f n.1)) (enumerate_from k xs) ≡ enumerate_from k (update_where p f xs)
update-enumerate p f k [] = refl
update-enumerate {X} p f k (x ∷ xs) =
    let first : ◌≡◌ {A = ℕ × X} (cond (p x) (k, f x) (k, x)) (k, cond (p x) (f x) x) = elim (p x) as (λ b. ◌≡◌ {A = ℕ × X} (cond b (k, f x) (k, x)) (k, cond b (f x) x)) [ true ↦ refl | false ↦ refl ] in
    rw first (ap (λ l. (k, cond (p x) (f x) x) ∷ l) (update-enumerate p f (k + 1) xs))

module _ {X : Type 0} (key : X → ℤ) where
  first_of_all : (xs : List X) (new : X) → AllByRecursion (λ x. key new <ℤ key x) xs → insert_by key xs new ≡ new ∷ xs
  first_of_all [] new above = refl
  first_of_all (x ∷ xs) new above =
      let k = above.0 in
      let o : int_cmp (key x) (key new) ≡ Greater = grind (arith, ints) in
      ap (λ o. match_ordering o (x ∷ insert_by key xs new) (new ∷ xs) (new ∷ x ∷ xs)) o

  none_gone : (xs : List X) (id : ℤ) → AllByRecursion (λ x. id <ℤ key x) xs → without_key key xs id ≡ xs
  none_gone xs id above = filter_all (λ x. not (int_eq (key x) id)) xs (all_weaker _ (λ x. not (int_eq (key x) id) ≡ true) (λ x h. grind (arith, ints)) xs above)

  -- to take a row out first changes nothing
  pub put_again : (xs : List X) (new : X) → IsKeyedBy key xs → insert_by key (without_key key xs (key new)) new ≡ insert_by key xs new
  put_again [] new up = refl
  put_again (x ∷ xs) new up = go (int_cmp (key x) (key new)) refl (put_again xs new up.1)
    where
      go : (o : Ordering) → int_cmp (key x) (key new) ≡ o → insert_by key (without_key key xs (key new)) new ≡ insert_by key xs new
          → insert_by key (cond (not (int_eq (key x) (key new))) (x ∷ without_key key xs (key new)) (without_key key xs (key new))) new ≡ match_ordering (int_cmp (key x) (key new)) (x ∷ insert_by key xs new) (new ∷ xs) (new ∷ x ∷ xs)
      go Less e more =
          let other : int_eq (key x) (key new) ≡ false = grind (arith, ints) in
          rw other (rw e (ap (λ l. x ∷ l) more))
      go Equal e more =
          let same : int_eq (key x) (key new) ≡ true = grind (arith, ints) in
          let above = all_weaker _ (λ y. key new <ℤ key y) (λ y h. let k = same_int (key x) (key new) same in omega (arith, ints)) xs up.0 in
          rw same (rw e (ap (λ l. insert_by key l new) (none_gone xs (key new) above) ∙ first_of_all xs new above))
      go Greater e more =
          let other : int_eq (key x) (key new) ≡ false = grind (arith, ints) in
          let low : key new <ℤ key x = grind (arith, ints) in
          let above = all_weaker _ (λ y. key new <ℤ key y) (λ y h. omega (arith, ints)) xs up.0 in
          rw other (rw e (ap (λ l. new ∷ x ∷ l) (none_gone xs (key new) above)))

fails_if : (b : Bool) → (b ≡ true → ⊥) → b ≡ false
fails_if true h = absurd (h refl)
fails_if false h = refl

-- rows that are apart pass a test that fixes what they clash by at most once
pub at_most_one : {X : Type 0} (clash : X → X → Bool) (p : X → Bool) → ((x y : X) → p x ≡ true → p y ≡ true → clash x y ≡ true) → (xs : List X) → AreApart clash xs → length (filter p xs) ≤ 1
at_most_one clash p fixes [] apart = omega arith
at_most_one clash p fixes (x ∷ xs) apart =
    let fails = λ (here : p x ≡ true). all_weaker _ (λ y. p y ≡ false) (λ y no. fails_if (p y) (λ t. true≢false (sym (fixes x y here t) ∙ no))) xs apart.0 in
    cond_both (p x) (x ∷ filter p xs) (filter p xs) (λ l. length l ≤ 1) (λ here. rw (filter_none p xs (fails here)) (omega arith)) (λ _. at_most_one clash p fixes xs apart.1)

-- a list of at most one item has one order
pub one_order : {X : Type 0} (xs ys : List X) → length xs ≤ 1 → IsPermutation xs ys → ys ≡ xs
one_order [] [] low same = refl
one_order [] (y ∷ ys) low same = absurd (omega (arith, length_permutation _ _ same))
one_order (x ∷ []) ys low same = one_permutation x ys same
one_order (x ∷ z ∷ xs) ys low same = absurd (omega arith)
