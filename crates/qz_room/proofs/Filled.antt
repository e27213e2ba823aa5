-- A map whose entry was changed, as one reads it who takes a default where there is no entry.
use Rattle.std.proofs.Common.{◌≡◌, ℕ, Bool, true, false, Option, Some, refl, sym, ap, subst, ◌∙◌}
use Rattle.std.specs.declared.cmp.Ordering.{Ordering}
use Rattle.std.specs.declared.cmp.Ordering.TheVariants.{Less, Equal, Greater}
use Rattle.std.specs.Ordering.{is_eq, nat_cmp, ordering_then}
use Rattle.std.specs.BTreeMap.{BTreeMap, Updates, get}
use Rattle.std.specs.Prelude.{◌&&◌, IsSome, cond, if◌then◌else◌, unwrap_or, ◌==◌}
use Rattle.qz_lemmas.proofs.Numbers.{number-tie}
use Rattle.qz_room.specs.Pairs.{pair_cmp}

chosen : {X : Type 0} (b : Bool) (v d : X) (o : Option X) → unwrap_or (cond b (Some v) o) d ≡ (if b then v else unwrap_or o d)
chosen true v d o = refl
chosen false v d o = refl

pub filled_by : {K X : Type 0} (R : K → K → Ordering) (m n : BTreeMap K X) (k : K) (v : X) (d : X) (q : K) (b : Bool) → is_eq (R k q) ≡ b → Updates R m n k (Some v) → unwrap_or (get R n q) d ≡ (if b then v else unwrap_or (get R m q) d)
filled_by R m n k v d q b is u = ap (λ (o : Option _). unwrap_or o d) (u.0 q ∙ ap (λ (c : Bool). cond c (Some v) (get R m q)) is) ∙ chosen b v d (get R m q)

-- ---- keys that are numbers

pub filled : {X : Type 0} (m n : BTreeMap ℕ X) (k : ℕ) (v d : X) (q : ℕ) → Updates nat_cmp m n k (Some v) → unwrap_or (get nat_cmp n q) d ≡ (if k == q then v else unwrap_or (get nat_cmp m q) d)
filled m n k v d q u = filled_by nat_cmp m n k v d q (k == q) (number-tie k q) u

-- ---- keys of two parts

pub then_at : (o p : Ordering) → is_eq (ordering_then o p) ≡ (is_eq o && is_eq p)
then_at Less p = refl
then_at Equal p = refl
then_at Greater p = refl

pub pair_at : (a b : ℕ × ℕ) → is_eq (pair_cmp a b) ≡ (a.0 == b.0) && (a.1 == b.1)
pair_at a b = then_at (nat_cmp a.0 b.0) (nat_cmp a.1 b.1) ∙ rw (number-tie a.0 b.0, number-tie a.1 b.1) refl

pub filled_pair : {X : Type 0} (m n : BTreeMap (ℕ × ℕ) X) (k : ℕ × ℕ) (v d : X) (q : ℕ × ℕ) → Updates pair_cmp m n k (Some v) → unwrap_or (get pair_cmp n q) d ≡ (if (k.0 == q.0) && (k.1 == q.1) then v else unwrap_or (get pair_cmp m q) d)
filled_pair m n k v d q u = filled_by pair_cmp m n k v d q ((k.0 == q.0) && (k.1 == q.1)) (pair_at k q) u

-- ---- entries that are there

there : {X : Type 0} (b : Bool) (v : X) (o : Option X) → IsSome o → IsSome (cond b (Some v) o)
there true v o is = refl
there false v o is = is

pub filled_kept : {K X : Type 0} (R : K → K → Ordering) (m n : BTreeMap K X) (k : K) (v : X) (q : K) → Updates R m n k (Some v) → IsSome (get R m q) → IsSome (get R n q)
filled_kept R m n k v q u is = subst (λ (o : Option _). IsSome o) (sym (u.0 q)) (there (is_eq (R k q)) v (get R m q) is)
