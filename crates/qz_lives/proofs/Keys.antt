-- An entry that is written, and all others, by attempt.
use Rattle.std.proofs.Common.{◌≡◌, ℕ, Bool, true, false, ◌&&◌, Option, Some, None, refl, sym, ap, ◌∙◌, arith}
use Rattle.std.specs.Prelude.{◌==◌, is_some, nat_lt, unwrap_or}
use Rattle.std.specs.BTreeMap.{BTreeMap, Updates, get, is_at}
use Rattle.std.specs.Cmp.{tied_then}
use Rattle.std.specs.Ordering.{is_eq, nat_cmp}
use Rattle.std.proofs.lemmas.Bool.{eqb-true, ltb-true}
use Rattle.qz_grading.specs.declared.refusal.AttemptId.{AttemptId}
use Rattle.qz_terms.specs.History.{same_attempt}
use Rattle.qz_lives.specs.declared.live.Live.{Live}
use Rattle.qz_lives.specs.declared.lives.Lives.{Lives}
use Rattle.qz_lives.specs.Attempts.{by_number, key_of}
use Rattle.qz_lives.specs.Changes.{Becomes, IsTakenOut, Keeps, Leaves}
use Rattle.qz_lives.proofs.Effects.{one-attempt}

tie-by : (x y : ℕ) (less same : Bool) → nat_lt x y ≡ less → (x == y) ≡ same → is_eq (nat_cmp x y) ≡ same
tie-by x y true true is also = absurd (let below = ltb-true x y is in let one = eqb-true x y also in omega arith)
tie-by x y true false is also = rw is refl
tie-by x y false true is also = rw (is, also) refl
tie-by x y false false is also = rw (is, also) refl

pub tie : (x y : ℕ) → is_eq (nat_cmp x y) ≡ (x == y)
tie x y = tie-by x y (nat_lt x y) (x == y) refl refl

pub same-key : (a b : AttemptId) → is_at (by_number (key_of a)) (key_of b) ≡ same_attempt a b
same-key a b = sym (tied_then (nat_cmp a.user b.user) (nat_cmp a.nth b.nth)) ∙ ap (λ (t : Bool). t && is_eq (nat_cmp a.nth b.nth)) (tie a.user b.user) ∙ ap (λ (t : Bool). (a.user == b.user) && t) (tie a.nth b.nth)

pub get-other : {X : Type 0} (m n : BTreeMap (ℕ × ℕ) X) (a b : AttemptId) (w : Option X) → Updates by_number m n (key_of a) w → same_attempt a b ≡ false → get by_number n (key_of b) ≡ get by_number m (key_of b)
get-other m n a b w u apart = u.2 (key_of b) (same-key a b ∙ apart)

-- ---- what is written, or grown

grown-by : {X : Type 0} (m n : BTreeMap (ℕ × ℕ) X) (a b : AttemptId) (d : X) (z : Bool) → same_attempt a b ≡ z → Updates by_number m n (key_of a) (Some d) → get by_number m (key_of a) ≡ None → unwrap_or (get by_number n (key_of b)) d ≡ unwrap_or (get by_number m (key_of b)) d
grown-by m n a b d true is u none =
    let one = one-attempt a b is in
    ap (λ (c : AttemptId). unwrap_or (get by_number n (key_of c)) d) (sym one) ∙ ap (λ (o : Option _). unwrap_or o d) u.1 ∙ sym (ap (λ (c : AttemptId). unwrap_or (get by_number m (key_of c)) d) (sym one) ∙ ap (λ (o : Option _). unwrap_or o d) none)
grown-by m n a b d false is u none = ap (λ (o : Option _). unwrap_or o d) (get-other m n a b (Some d) u is)

nothing : {X : Type 0} (o : Option X) → is_some o ≡ false → o ≡ None
nothing None is = refl
nothing (Some x) is = absurd cc

-- an entry that tells nothing changes nothing that is read
pub grown : {X : Type 0} (m n : BTreeMap (ℕ × ℕ) X) (a : AttemptId) (d : X) → Updates by_number m n (key_of a) (Some d) → is_some (get by_number m (key_of a)) ≡ false → (b : AttemptId) → unwrap_or (get by_number n (key_of b)) d ≡ unwrap_or (get by_number m (key_of b)) d
grown m n a d u none b = grown-by m n a b d (same_attempt a b) refl u (nothing (get by_number m (key_of a)) none)

pub taken-out : (m : Lives) (n : BTreeMap (ℕ × ℕ) (Option Live)) (a : AttemptId) → Updates by_number m.attempts n (key_of a) (Some None) → IsTakenOut m (record { attempts = n; going = m.going; rows = m.rows }) a
taken-out m n a u = record {
  entry = ap is_some u.1;
  others = λ b apart. ap (λ (o : Option (Option Live)). unwrap_or o None) (get-other m.attempts n a b (Some None) u apart);
  going = refl;
  rows = refl;
}

pub kept-in : (m : Lives) (n : BTreeMap (ℕ × ℕ) (Option Live)) (a : AttemptId) (l : Live) → Updates by_number m.attempts n (key_of a) (Some (Some l)) → Keeps m (record { attempts = n; going = m.going; rows = m.rows }) a l
kept-in m n a l u = record {
  here = ap (λ (o : Option (Option Live)). unwrap_or o None) u.1;
  others = λ b apart. ap (λ (o : Option (Option Live)). unwrap_or o None) (get-other m.attempts n a b (Some (Some l)) u apart);
  going = refl;
  rows = refl;
}

pub left : (m : Lives) (n : BTreeMap (ℕ × ℕ) Bool) (a : AttemptId) → Updates by_number m.going n (key_of a) None → Leaves m (record { attempts = m.attempts; going = n; rows = m.rows }) a
left m n a u = record {
  here = ap (λ (o : Option Bool). unwrap_or o false) u.1;
  others = λ b apart. ap (λ (o : Option Bool). unwrap_or o false) (get-other m.going n a b None u apart);
  attempts = refl;
  rows = refl;
}

pub begun-in : (m k : Lives) (n : BTreeMap (ℕ × ℕ) Bool) (a : AttemptId) (l : Live) → Keeps m k a l → Updates by_number k.going n (key_of a) (Some true) → Becomes m (record { attempts = k.attempts; going = n; rows = k.rows }) a l true
begun-in m k n a l h u = record {
  here = h.here;
  others = h.others;
  going = ap (λ (o : Option Bool). unwrap_or o false) u.1;
  going_others = λ b apart. ap (λ (o : Option Bool). unwrap_or o false) (get-other k.going n a b (Some true) u apart) ∙ ap (λ (g : BTreeMap (ℕ × ℕ) Bool). unwrap_or (get by_number g (key_of b)) false) h.going;
}
