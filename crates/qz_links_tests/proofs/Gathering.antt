-- All passes of a lock are joined, from the last one on.
use Rattle.std.proofs.Common.{◌≡◌, ℕ, zero, suc, ◌≤◌, ◌<◌, List, [], ◌∷◌, ◌++◌, length, map, take, drop, refl, ap, sym, ◌∙◌, subst, arith, length-append}
use Rattle.std.specs.Prelude.{Contains, slice_index_or}
use Rattle.std.proofs.lemmas.List.Elements.{Contains-append_left, Contains-append_right}
use Rattle.std.proofs.lemmas.List.FromFn.{length-map-range_with_len, get_or-map-range_with_len}
use mathlib.Core.Logic.{dite}
use native.Mathlib.Decide.{dec_le}
use Rattle.qz_turn.specs.Passes.{Lock, Standing}
use Rattle.qz_turn.specs.Rule.{HasEvery}
use Rattle.qz_turn.specs.declared.view.Tale.{Tale}
use Rattle.qz_turn.specs.Rule.{below}
use Rattle.qz_turn.specs.Turns.{new_pass}
use Rattle.qz_turn.specs.Callers.{AreNumbered, KeepRights}

module _ {A : Type 0} where
  front_at : (xs ys : List A) (i : ℕ) (d : A) → i < length xs → slice_index_or (xs ++ ys) i d ≡ slice_index_or xs i d
  front_at [] ys i d lt = absurd (omega arith)
  front_at (x ∷ xs) ys zero d lt = refl
  front_at (x ∷ xs) ys (suc i) d lt = front_at xs ys i d (omega arith)

  end_at : (xs : List A) (x d : A) → slice_index_or (xs ++ x ∷ []) (length xs) d ≡ x
  end_at [] x d = refl
  end_at (y ∷ xs) x d = end_at xs x d

first_of : (n m : ℕ) → n ≡ m → Contains (m ∷ []) n
first_of n m e = (0, omega arith, sym e)

module _ {I K : Type 0} (lock : Lock K) (seats : ℕ) where
  -- the pass has the numbers from the count of those that are left on
  pub record Gathers (pass : Standing I K) (left : List (Standing I K)) : Type 0 where
    pub own : pass.lock ≡ lock
    pub numbers : (n : ℕ) → length left ≤ n → n < seats → Contains pass.numbers n
    pub others : AreNumbered lock left

  fewer : (left : List (Standing I K)) (p : Standing I K) → AreNumbered lock (left ++ p ∷ []) → AreNumbered lock left
  fewer left p are = record { each = λ i d lt. subst (λ (q : Standing I K). (q.lock ≡ lock) × (q.numbers ≡ i ∷ [])) (front_at left (p ∷ []) i d lt) (are.each i d (let long = length-append left (p ∷ []) in omega arith)) }

  last_is : (left : List (Standing I K)) (p : Standing I K) → AreNumbered lock (left ++ p ∷ []) → (p.lock ≡ lock) × (p.numbers ≡ length left ∷ [])
  last_is left p are = subst (λ (q : Standing I K). (q.lock ≡ lock) × (q.numbers ≡ length left ∷ [])) (end_at left p p) (are.each (length left) p (let long = length-append left (p ∷ []) in omega arith))

  pub gathers_first : (all left : List (Standing I K)) (p : Standing I K) → all ≡ left ++ p ∷ [] → length all ≡ seats → AreNumbered lock all → Gathers p left
  gathers_first all left p is long are =
      let same = subst (AreNumbered lock) is are in
      let one = last_is left p same in
      let more = ap length is ∙ length-append left (p ∷ []) in record {
        own = one.0;
        numbers = λ n least lt. subst (λ ns. Contains ns n) (sym one.1) (first_of n (length left) (omega arith));
        others = fewer left p same;
      }

  pub gathers_next : (pass after p : Standing I K) (all left : List (Standing I K)) → Gathers pass all → all ≡ left ++ p ∷ [] → after.lock ≡ pass.lock → after.numbers ≡ pass.numbers ++ p.numbers → Gathers after left
  gathers_next pass after p all left was is same joined =
      let are = subst (AreNumbered lock) is was.others in
      let one = last_is left p are in
      let more = ap length is ∙ length-append left (p ∷ []) in record {
        own = same ∙ was.own;
        numbers = λ n least lt. subst (λ ns. Contains ns n) (sym joined) (dite (dec_le (length all) n)
            (λ had. Contains-append_left pass.numbers p.numbers n (was.numbers n had lt))
            (λ new. Contains-append_right pass.numbers p.numbers n (subst (λ ns. Contains ns n) (sym one.1) (first_of n (length left) (omega arith)))));
        others = fewer left p are;
      }

  -- the pass that was joined last
  pub next_own : (all left : List (Standing I K)) (pass p : Standing I K) → Gathers pass all → all ≡ left ++ p ∷ [] → p.lock ≡ lock
  next_own all left pass p was is = (last_is left p (subst (AreNumbered lock) is was.others)).0

  pub gathers_all : (pass : Standing I K) (left : List (Standing I K)) → Gathers pass left → left ≡ [] → HasEvery seats pass.numbers
  gathers_all pass left was none = let long = ap length none in record { number = λ n lt. was.numbers n (omega arith) lt }

take_front : {A : Type 0} (xs ys : List A) (n : ℕ) → n ≡ length xs → take n (xs ++ ys) ≡ xs
take_front [] ys zero e = refl
take_front [] ys (suc n) e = absurd (omega arith)
take_front (x ∷ xs) ys zero e = absurd (omega arith)
take_front (x ∷ xs) ys (suc n) e = ap (λ l. x ∷ l) (take_front xs ys n (omega arith))

module _ {I K : Type 0} where
  -- new passes that took turns, as a slice of their `Vec`
  pub numbered_still : (lock : Lock K) (tale : Tale I) (seats len : ℕ) (old now after : List (Standing I K)) → old ≡ map (new_pass lock tale) (below seats) → now ≡ old → len ≡ length old → KeepRights now after
      → AreNumbered lock (take len (after ++ drop (length after) old))
  numbered_still lock tale seats len old now after made lent long kept =
      let f = new_pass lock tale in
      let all = ap length made ∙ length-map-range_with_len f 0 seats in
      let as_long = ap length lent in
      let same_length = kept.len in
      subst (AreNumbered lock) (sym (take_front after _ len (omega arith))) record {
        each = λ i d lt.
            let is = ap (λ l. slice_index_or l i d) (lent ∙ made) ∙ get_or-map-range_with_len f 0 seats i i d (omega arith) (omega arith) in
            let kept_at = kept.each i d (omega arith) in
            (kept_at.0 ∙ ap (λ (p : Standing I K). p.lock) is, kept_at.1 ∙ ap (λ (p : Standing I K). p.numbers) is);
      }

-- 0 and 1 are all numbers below 2
two_of : (n : ℕ) → n < 2 → Contains (0 ∷ 1 ∷ []) n
two_of zero lt = (0, omega arith, refl)
two_of (suc zero) lt = (1, omega arith, refl)
two_of (suc (suc n)) lt = absurd (omega arith)

pub both_numbers : (seats : ℕ) (numbers : List ℕ) → seats ≡ 2 → numbers ≡ 0 ∷ 1 ∷ [] → HasEvery seats numbers
both_numbers seats numbers two is = record { number = λ n lt. subst (λ ns. Contains ns n) (sym is) (two_of n (omega arith)) }
