-- What stays where one view changes, or one is added.
use Rattle.std.proofs.Common.{◌≡◌, ◌≢◌, ℕ, zero, suc, ◌+◌, ◌≤◌, ◌<◌, ◌⊎◌, inl, inr, ⊎_elim, List, [], ◌∷◌, ◌++◌, length, set, refl, ap, sym, ◌∙◌, subst, arith}
use Rattle.std.specs.List.{sum_by}
use Rattle.std.proofs.lemmas.List.Sums.{sum_by-cons}
use mathlib.Core.Option.{some, some-injective, some-ne-none}
use mathlib.Core.Logic.{dite}
use native.Mathlib.Decide.{ℕ_discrete}
use lib.ListN.{get_elem?}
use Rattle.atomic_table.specs.Table.{State}
use Rattle.atomic_table.proofs.Lists.{at_set, at_snoc, at_longer, set_else, set_here}
use Rattle.qz_turn.specs.declared.view.Tale.{Tale}
use Rattle.qz_turn.specs.declared.view.Stage.{Stage}
use Rattle.qz_turn.specs.declared.view.Stage.TheVariants.{Resting, Waiting}
use Rattle.qz_turn.specs.declared.view.View.{View}
use Rattle.qz_turn.specs.Rule.{Serves, IsHome, IsOut}

pub never_rests : (stage : Stage) → stage ≡ Resting → ¬ Serves stage
never_rests stage e s = let t = s.1 in cc

pub never_waits : (stage : Stage) (n : ℕ) → stage ≡ Waiting n → ¬ Serves stage
never_waits stage n e s = let t = s.1 in cc

module _ {A : Type 0} where
  pub one_there : (l : List A) (i : ℕ) (a b : A) → get_elem? l i ≡ some a → get_elem? l i ≡ some b → a ≡ b
  one_there l i a b p q = some-injective a b (sym p ∙ q)

  pub is_inside : (l : List A) (i : ℕ) (a : A) → get_elem? l i ≡ some a → i < length l
  is_inside [] i a e = absurd (some-ne-none a (sym e))
  is_inside (x ∷ xs) zero a e = omega arith
  is_inside (x ∷ xs) (suc i) a e = let h = is_inside xs i a e in omega arith

  -- a fact of each element, where one has changed
  pub all_set : (P : ℕ → A → Type 0) (l : List A) (i : ℕ) (w : A) → P i w → ((j : ℕ) (v : A) → j ≢ i → get_elem? l j ≡ some v → P j v) → (j : ℕ) (v : A) → get_elem? (set l i w) j ≡ some v → P j v
  all_set P l i w mine others j v e = ⊎_elim
      (λ (t : (j ≡ i) × (w ≡ v)). subst (λ (x : ℕ × A). P x.0 x.1) (λ k. (sym t.0 k, t.1 k)) mine)
      (λ (t : (j ≢ i) × (get_elem? l j ≡ some v)). others j v t.0 t.1)
      (at_set l i j w v e)

  pub sum_set : (f : A → ℕ) (l : List A) (i : ℕ) (v w : A) → get_elem? l i ≡ some v → sum_by f (set l i w) + f v ≡ sum_by f l + f w
  sum_set f [] i v w e = absurd (some-ne-none v (sym e))
  sum_set f (x ∷ xs) zero v w e = let same = ap f (some-injective x v e) in omega (arith, sum_by-cons f w xs, sum_by-cons f x xs, same)
  sum_set f (x ∷ xs) (suc i) v w e = omega (arith, sum_set f xs i v w e, sum_by-cons f x (set xs i w), sum_by-cons f x xs)

  pub sum_below : (f g : A → ℕ) (l : List A) → ((i : ℕ) (v : A) → get_elem? l i ≡ some v → f v ≤ g v) → sum_by f l ≤ sum_by g l
  sum_below f g [] h = omega arith
  sum_below f g (x ∷ xs) h = let one = h 0 x refl in let more = sum_below f g xs (λ i v e. h (suc i) v e) in omega (arith, sum_by-cons f x xs, sum_by-cons g x xs)

  pub sum_one : (f : A → ℕ) (l : List A) (i : ℕ) (v : A) → get_elem? l i ≡ some v → f v ≤ sum_by f l
  sum_one f [] i v e = absurd (some-ne-none v (sym e))
  sum_one f (x ∷ xs) zero v e = let same = ap f (some-injective x v e) in omega (arith, sum_by-cons f x xs, same)
  sum_one f (x ∷ xs) (suc i) v e = omega (arith, sum_one f xs i v e, sum_by-cons f x xs)

  pub sum_two : (f : A → ℕ) (l : List A) (i j : ℕ) (v u : A) → i ≢ j → get_elem? l i ≡ some v → get_elem? l j ≡ some u → f v + f u ≤ sum_by f l
  sum_two f [] i j v u ne e d = absurd (some-ne-none v (sym e))
  sum_two f (x ∷ xs) zero zero v u ne e d = absurd (ne refl)
  sum_two f (x ∷ xs) zero (suc j) v u ne e d = let same = ap f (some-injective x v e) in omega (arith, sum_one f xs j u d, sum_by-cons f x xs, same)
  sum_two f (x ∷ xs) (suc i) zero v u ne e d = let same = ap f (some-injective x u d) in omega (arith, sum_one f xs i v e, sum_by-cons f x xs, same)
  sum_two f (x ∷ xs) (suc i) (suc j) v u ne e d = omega (arith, sum_two f xs i j v u (λ h. ne (ap suc h)) e d, sum_by-cons f x xs)

  sum_none : (f : A → ℕ) (l : List A) → ((j : ℕ) (u : A) → get_elem? l j ≡ some u → f u ≡ 0) → sum_by f l ≡ 0
  sum_none f [] none = refl
  sum_none f (x ∷ xs) none = let one = none 0 x refl in omega (arith, sum_by-cons f x xs, one, sum_none f xs (λ j u e. none (suc j) u e))

  -- the sum is that of the one element that adds anything
  pub sum_alone : (f : A → ℕ) (l : List A) (i : ℕ) (v : A) → get_elem? l i ≡ some v → ((j : ℕ) (u : A) → j ≢ i → get_elem? l j ≡ some u → f u ≡ 0) → sum_by f l ≡ f v
  sum_alone f [] i v e none = absurd (some-ne-none v (sym e))
  sum_alone f (x ∷ xs) zero v e none =
      let same = ap f (some-injective x v e) in
      omega (arith, sum_by-cons f x xs, same, sum_none f xs (λ j u is. none (suc j) u (λ (h : suc j ≡ zero). omega arith) is))
  sum_alone f (x ∷ xs) (suc i) v e none =
      let one = none 0 x (λ (h : zero ≡ suc i). omega arith) refl in
      omega (arith, sum_by-cons f x xs, one, sum_alone f xs i v e (λ j u apart is. none (suc j) u (λ (h : suc j ≡ suc i). apart (omega arith)) is))

module _ {I K S : Type 0} (tells : S → Tale I) (fits : K → S → Type 0) (key : K) (tale : Tale I) where
  abbrev Value : State S (View I K) → Type 0
  Value s = IsHome tells fits key tale s ⊎ IsOut tale s

  abbrev pub changed : State S (View I K) → List ℕ → ℕ → View I K → State S (View I K)
  changed s words id w = record { words = words; homes = s.homes; views = set s.views id w }

  -- the value stays where it is, where one view changes that serves afterwards if it served, with what it found
  pub value_set : (s : State S (View I K)) (words : List ℕ) (id : ℕ) (v w : View I K) → get_elem? s.views id ≡ some v → (Serves v.stage → Serves w.stage × (w.found ≡ v.found)) → (Serves w.stage → Serves v.stage)
      → Value s → Value (changed s words id w)
  value_set s words id v w at on back now = ⊎_elim at_home out now
    where
      at_home : IsHome tells fits key tale s → Value (changed s words id w)
      at_home h = inl record {
        value = h.value;
        homes = h.homes;
        tells_tale = h.tells_tale;
        fits_key = h.fits_key;
        nobody = all_set (λ j u. ¬ Serves u.stage) s.views id w (λ serves. h.nobody id v at (back serves)) (λ j u apart e. h.nobody j u e);
      }

      out : IsOut tale s → Value (changed s words id w)
      out o = dite (ℕ_discrete o.server id)
          (λ (same : o.server ≡ id). let is = one_there s.views id o.view v (subst (λ j. get_elem? s.views j ≡ some o.view) same o.there) at in
          let still = on (subst (λ (u : View I K). Serves u.stage) is o.serves) in
          inr record { server = id; view = w; homes = o.homes; there = set_here s.views id w (is_inside s.views id v at); serves = still.0; finds = still.1 ∙ (sym (ap (λ (u : View I K). u.found) is) ∙ o.finds) })
          (λ (apart : o.server ≢ id). inr record { server = o.server; view = o.view; homes = o.homes; there = set_else s.views id o.server w apart ∙ o.there; serves = o.serves; finds = o.finds })

  pub value_push : (s : State S (View I K)) (w : View I K) → w.stage ≡ Resting → Value s → Value record { words = s.words; homes = s.homes; views = s.views ++ w ∷ [] }
  value_push s w rests now = ⊎_elim
      (λ (h : IsHome tells fits key tale s). inl record {
        value = h.value;
        homes = h.homes;
        tells_tale = h.tells_tale;
        fits_key = h.fits_key;
        nobody = λ j u e. ⊎_elim (λ (was : get_elem? s.views j ≡ some u). h.nobody j u was) (λ (is : w ≡ u). subst (λ (x : View I K). ¬ Serves x.stage) is (never_rests w.stage rests)) (at_snoc s.views w u j e);
      })
      (λ (o : IsOut tale s). inr record { server = o.server; view = o.view; homes = o.homes; there = at_longer s.views (w ∷ []) o.server o.view o.there; serves = o.serves; finds = o.finds })
      now
