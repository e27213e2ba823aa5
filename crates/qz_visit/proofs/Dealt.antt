-- Passes that give their first numbers away, one after the other.
use Rattle.std.proofs.Common.{◌≡◌, ℕ, ◌+◌, ◌<◌, List, [], ◌∷◌, ◌++◌, Some, length, map, refl, sym, ap, ◌∙◌, subst, append-nil, append_assoc, arith}
use Rattle.std.specs.Prelude.{slice_get, slice_set}
use Rattle.std.proofs.Math.Seq.{set-append_seam}
use Rattle.std.proofs.lemmas.List.{length-append, length-map, map-append, nil_from_length}
use Rattle.qz_turn.specs.Turns.{left_of, split_off}
use Rattle.qz_visit.specs.Ways.{Part}
use Rattle.qz_visit.proofs.Closed.{seam}

-- the first of these, so many, have given
pub record SplitTo (before now given : List Part) (count : ℕ) : Type 0 where
  pub done : List Part
  pub rest : List Part
  pub before_is : before ≡ done ++ rest
  pub count_is : length done ≡ count
  pub now_is : now ≡ map left_of done ++ rest
  pub given_is : given ≡ map split_off done

pub split_none : (before given : List Part) → given ≡ [] → SplitTo before before given 0
split_none before given empty = record { done = []; rest = before; before_is = refl; count_is = refl; now_is = refl; given_is = empty }

head_of : (rest : List Part) → 0 < length rest → (p : Part) × (ps : List Part) × (rest ≡ p ∷ ps)
head_of [] some = absurd (omega arith)
head_of (p ∷ ps) some = (p, ps, refl)

one-here : {A : Type 0} (xs : List A) (k : ℕ) (x y : A) → slice_get xs k ≡ Some x → slice_get xs k ≡ Some y → x ≡ y
one-here xs k x y first second = cc

pub split_one : (before now given : List Part) (k : ℕ) (p q s : Part) → SplitTo before now given k → k < length before → slice_get now k ≡ Some p → q ≡ left_of p → s ≡ split_off p → SplitTo before (slice_set now k q) (given ++ s ∷ []) (k + 1)
split_one before now given k p q s so within at left taken =
    let count = so.count_is in
    let whole = ap length so.before_is in
    let both = length-append so.done so.rest in
    let next = head_of so.rest (omega (arith, within, count, whole, both)) in
    let r = next.0 in
    let rs = next.1 in
    let long : length (map left_of so.done) ≡ k = length-map so.done left_of ∙ count in
    let now_is : now ≡ map left_of so.done ++ r ∷ rs = so.now_is ∙ ap (λ (l : List Part). map left_of so.done ++ l) next.2 in
    let here : slice_get now k ≡ Some r = subst (λ (l : List Part). slice_get l k ≡ Some r) (sym now_is) (subst (λ (j : ℕ). slice_get (map left_of so.done ++ r ∷ rs) j ≡ Some r) long (seam (map left_of so.done) r rs)) in
    let same : p ≡ r = one-here now k p r at here in
    let set : slice_set now k q ≡ map left_of so.done ++ q ∷ rs = ap (λ (l : List Part). slice_set l k q) now_is ∙ ap (λ (j : ℕ). slice_set (map left_of so.done ++ r ∷ rs) j q) (sym long) ∙ set-append_seam (map left_of so.done) r rs q in
    record {
      done = so.done ++ r ∷ [];
      rest = rs;
      before_is = so.before_is ∙ ap (λ (l : List Part). so.done ++ l) next.2 ∙ sym (append_assoc so.done (r ∷ []) rs);
      count_is = length-append so.done (r ∷ []) ∙ ap (λ (j : ℕ). j + 1) count;
      now_is = set ∙ ap (λ (x : Part). map left_of so.done ++ x ∷ rs) (left ∙ ap left_of same) ∙ sym (ap (λ (l : List Part). l ++ rs) (map-append left_of so.done (r ∷ [])) ∙ append_assoc (map left_of so.done) (left_of r ∷ []) rs);
      given_is = ap (λ (l : List Part). l ++ s ∷ []) so.given_is ∙ ap (λ (x : Part). map split_off so.done ++ x ∷ []) (taken ∙ ap split_off same) ∙ sym (map-append split_off so.done (r ∷ []));
    }

no-rest : (before now given : List Part) (so : SplitTo before now given (length before)) → so.rest ≡ []
no-rest before now given so =
    let count = so.count_is in
    let whole = ap length so.before_is in
    let both = length-append so.done so.rest in
    nil_from_length so.rest (omega (arith, count, whole, both))

all-done : (before now given : List Part) (so : SplitTo before now given (length before)) → so.done ≡ before
all-done before now given so = sym (so.before_is ∙ ap (λ (l : List Part). so.done ++ l) (no-rest before now given so) ∙ append-nil so.done)

pub split_left : (before now given : List Part) → SplitTo before now given (length before) → now ≡ map left_of before
split_left before now given so =
    so.now_is ∙ ap (λ (l : List Part). map left_of so.done ++ l) (no-rest before now given so) ∙ append-nil (map left_of so.done) ∙ ap (λ (l : List Part). map left_of l) (all-done before now given so)

pub split_given : (before now given : List Part) → SplitTo before now given (length before) → given ≡ map split_off before
split_given before now given so = so.given_is ∙ ap (λ (l : List Part). map split_off l) (all-done before now given so)

-- each is still of its lock
pub split_count : (before now given : List Part) (k : ℕ) → SplitTo before now given k → length now ≡ length before
split_count before now given k so =
    let whole = ap length so.before_is in
    let both = length-append so.done so.rest in
    let now_whole = ap length so.now_is in
    let now_both = length-append (map left_of so.done) so.rest in
    let long = length-map so.done left_of in
    omega (arith, whole, both, now_whole, now_both, long)

pub split_there : (before now given : List Part) (k : ℕ) (p : Part) → SplitTo before now given k → k < length before → slice_get now k ≡ Some p → slice_get before k ≡ Some p
split_there before now given k p so within at =
    let count = so.count_is in
    let whole = ap length so.before_is in
    let both = length-append so.done so.rest in
    let next = head_of so.rest (omega (arith, within, count, whole, both)) in
    let r = next.0 in
    let rs = next.1 in
    let long : length (map left_of so.done) ≡ k = length-map so.done left_of ∙ count in
    let now_is : now ≡ map left_of so.done ++ r ∷ rs = so.now_is ∙ ap (λ (l : List Part). map left_of so.done ++ l) next.2 in
    let here : slice_get now k ≡ Some r = subst (λ (l : List Part). slice_get l k ≡ Some r) (sym now_is) (subst (λ (j : ℕ). slice_get (map left_of so.done ++ r ∷ rs) j ≡ Some r) long (seam (map left_of so.done) r rs)) in
    let same : p ≡ r = one-here now k p r at here in
    let first : before ≡ so.done ++ r ∷ rs = so.before_is ∙ ap (λ (l : List Part). so.done ++ l) next.2 in
    let there : slice_get before k ≡ Some r = subst (λ (l : List Part). slice_get l k ≡ Some r) (sym first) (subst (λ (j : ℕ). slice_get (so.done ++ r ∷ rs) j ≡ Some r) count (seam so.done r rs)) in
    there ∙ ap (λ (x : Part). Some x) (sym same)
