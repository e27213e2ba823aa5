-- Beginnings of one list, and tales that go on from one another.
use Rattle.std.proofs.Common.{◌≡◌, ◌≤◌, ◌⊎◌, inl, inr, List, [], ◌∷◌, ◌++◌, length, refl, ap, sym, ◌∙◌, arith, append_assoc, length-append, le_refl, le_trans, lt_of_not-le}
use Rattle.std.specs.Prelude.{if◌then◌else◌, nat_lt, true, false, Bool}
use Rattle.std.proofs.lemmas.Bool.{ltb-false}
use mathlib.Core.List.{IsPrefix}
use mathlib.Core.Logic.{dite}
use native.Mathlib.Decide.{dec_le}
use Rattle.qz_turn.specs.declared.view.Tale.{Tale}
use Rattle.qz_turn.specs.Tales.{Follows, blank, merged}

module _ {A : Type 0} where
  pub prefix_self : (xs : List A) → IsPrefix xs xs
  prefix_self [] = ([], refl)
  prefix_self (x ∷ xs) = (let r = prefix_self xs in r.0, ap (λ ys. x ∷ ys) (prefix_self xs).1)

  pub prefix_trans : (xs ys zs : List A) → IsPrefix xs ys → IsPrefix ys zs → IsPrefix xs zs
  prefix_trans xs ys zs p q = (p.0 ++ q.0, sym (append_assoc xs p.0 q.0) ∙ (ap (λ w. w ++ q.0) p.1 ∙ q.1))

  -- of two beginnings of one list the shorter begins the longer
  pub prefix_shorter : (xs ys zs : List A) → IsPrefix xs zs → IsPrefix ys zs → length xs ≤ length ys → IsPrefix xs ys
  prefix_shorter [] ys zs p q le = (ys, refl)
  prefix_shorter (x ∷ xs) [] zs p q le = absurd (omega arith)
  prefix_shorter (x ∷ xs) (y ∷ ys) [] p q le = absurd (cc (p.1))
  prefix_shorter (x ∷ xs) (y ∷ ys) (z ∷ zs) p q le =
      let heads : x ≡ y = cc (p.1, q.1) in
      let rest = prefix_shorter xs ys zs (p.0, cc (p.1)) (q.0, cc (q.1)) (omega arith) in
      (rest.0, cc (heads, rest.1))

  pub prefix_length : (xs ys : List A) → IsPrefix xs ys → length xs ≤ length ys
  prefix_length xs ys p = omega (arith, sym (ap length p.1) ∙ length-append xs p.0)

  pub one_of_two : (xs ys zs : List A) → IsPrefix xs zs → IsPrefix ys zs → IsPrefix xs ys ⊎ IsPrefix ys xs
  one_of_two xs ys zs p q = dite (dec_le (length xs) (length ys)) (λ le. inl (prefix_shorter xs ys zs p q le)) (λ no. let more = lt_of_not-le no in inr (prefix_shorter ys xs zs q p (omega arith)))

module _ {I : Type 0} where
  pub follows_self : (a : Tale I) → Follows a a
  follows_self a = record { begins = prefix_self a.list; faults = le_refl a.faults }

  pub follows_trans : (a b c : Tale I) → Follows a b → Follows b c → Follows a c
  follows_trans a b c p q = record { begins = prefix_trans a.list b.list c.list p.begins q.begins; faults = le_trans p.faults q.faults }

  pub follows_blank : (a : Tale I) → Follows blank a
  follows_blank a = record { begins = (a.list, refl); faults = omega arith }

  either_begins : (b : Bool) (x y t : Tale I) → Follows x t → Follows y t → IsPrefix (if b then y else x).list t.list
  either_begins true x y t p q = q.begins
  either_begins false x y t p q = p.begins

  -- what goes on from two tales goes on from the one that they make
  pub follows_merged : (a b t : Tale I) → Follows a t → Follows b t → Follows (merged a b) t
  follows_merged a b t p q = record { begins = either_begins (nat_lt (length a.list) (length b.list)) a b t p q; faults = let x = p.faults in let y = q.faults in omega arith }

  second_fits : (b : Bool) (x y : Tale I) → (b ≡ false → length y.list ≤ length x.list) → length y.list ≤ length (if b then y else x).list
  second_fits true x y h = le_refl (length y.list)
  second_fits false x y h = h refl

  -- the list of two tales together is as long as the second, at least
  pub merged_second : (a b : Tale I) → length b.list ≤ length (merged a b).list
  merged_second a b = second_fits (nat_lt (length a.list) (length b.list)) a b (ltb-false (length a.list) (length b.list))
