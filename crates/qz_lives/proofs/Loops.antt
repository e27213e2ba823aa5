-- The slots of an attempt, one after another.
use Rattle.std.proofs.Common.{◌≡◌, ℕ, zero, suc, ◌+◌, ◌-◌, ◌<◌, ◌≤◌, ◌⊎◌, inl, inr, Bool, true, false, List, [], ◌∷◌, ◌++◌, Option, Some, None, length, length-append, take, get_or, refl, sym, ap, subst, ◌∙◌, arith}
use Rattle.std.specs.Prelude.{◌==◌, IfSome, if◌then◌else◌, is_some, slice_get}
use Rattle.std.proofs.lemmas.Bool.{eqb-true, eqb-false}
use Rattle.std.proofs.lemmas.Option.{slice_get_within}
use Rattle.qz_grading.specs.declared.outcome.Behaviour.{Behaviour}
use Rattle.qz_grading.specs.declared.response.Step.TheVariants as step
use Rattle.qz_grading.specs.Grading.{at_place}
use Rattle.qz_terms.specs.declared.plan.Bound.{Bound}
use Rattle.qz_terms.proofs.Walks.{take-one_more}
use Rattle.qz_usage.specs.Runs.{Run}
use Rattle.qz_lives.specs.declared.live.Live.{Live}
use Rattle.qz_lives.specs.Ones.{IsRoomier}
use Rattle.qz_lives.specs.Runs.{AreFresh, AreRoomier, CanFinish, CanTakeAt, HasTaken, HasTakenAt, HaveFinished, HaveRoom, IsFresh, IsRoomy, Known}
use Rattle.qz_lives.proofs.Places.{length-with, place-alike, same-item, with-apart, with-here}
use Rattle.qz_lives.proofs.Rooms.{roomier-more, roomier-same}

within-by : (xs : List Run) (k : ℕ) (r : Run) (z : Bool) → (k == 0) ≡ z → (if z then None else slice_get xs (k - 1)) ≡ Some r → k ≤ length xs
within-by xs k r true is there = absurd cc
within-by xs k r false is there = let less = slice_get_within xs (k - 1) r there in omega arith

within : (xs : List Run) (k : ℕ) (r : Run) → at_place xs k ≡ Some r → k ≤ length xs
within xs k r there = within-by xs k r (k == 0) refl there

none-past : {B : Type 0} (xs ys : List Run) (k : ℕ) (r : Run) → length ys ≡ length xs → at_place ys k ≡ Some r → at_place xs k ≡ None → B
none-past xs ys k r same there none = absurd (let alike = place-alike ys xs k same in let one : is_some (at_place ys k) ≡ true = ap is_some there in let two : is_some (at_place xs k) ≡ false = ap is_some none in cc)

-- ---- room in each

pub record RoomyTo (runs : List Run) (n : ℕ) : Type 0 where
  pub each : (k : ℕ) (r : Run) → k ≤ n → at_place runs k ≡ Some r → IsRoomy r

pub roomy-none : (runs : List Run) → RoomyTo runs 0
roomy-none runs = record { each = λ k r few there. not-first runs k r (k == 0) refl few there }
  where
    not-first : (runs : List Run) (k : ℕ) (r : Run) (z : Bool) → (k == 0) ≡ z → k ≤ 0 → (if z then None else slice_get runs (k - 1)) ≡ Some r → IsRoomy r
    not-first runs k r true is few there = absurd cc
    not-first runs k r false is few there = absurd (eqb-false k 0 is (omega arith))

roomy-kept : (a b : List Run) (k : ℕ) (r : Run) (o : Option Run) → AreRoomier a b → at_place a k ≡ o → at_place b k ≡ Some r → ((q : Run) → at_place a k ≡ Some q → IsRoomy q) → IsRoomy r
roomy-kept a b k r None more is there before = none-past a b k r more.count there is
roomy-kept a b k r (Some q) more is there before =
    let now = more.each k q is in
    let same = same-item (at_place b k) (record q { room = now.0 }) r now.1 there in
    let had : 0 < q.room = before q is in
    let less : q.room ≤ now.0 = now.2 in
    subst IsRoomy same (let some : 0 < now.0 = omega arith in some)

roomy-at : (a b : List Run) (n k : ℕ) (r : Run) (z : Bool) → (k == n + 1) ≡ z → AreRoomier a b → RoomyTo a n → IfSome (at_place b (n + 1)) IsRoomy → k ≤ n + 1 → at_place b k ≡ Some r → IsRoomy r
roomy-at a b n k r true is more so_far here few there = subst (λ (o : Option Run). IfSome o IsRoomy) (ap (at_place b) (sym (eqb-true k (n + 1) is)) ∙ there) here
roomy-at a b n k r false is more so_far here few there = roomy-kept a b k r (at_place a k) more refl there (λ q at. so_far.each k q (let other = eqb-false k (n + 1) is in le-below k n few other) at)
  where
    le-below : (k n : ℕ) → k ≤ n + 1 → (k ≡ n + 1 → ⊥) → k ≤ n
    le-below k n few other = omega (arith, other)

pub roomy-more : (a b : List Run) (n : ℕ) → AreRoomier a b → RoomyTo a n → IfSome (at_place b (n + 1)) IsRoomy → RoomyTo b (n + 1)
roomy-more a b n more so_far here = record { each = λ k r few there. roomy-at a b n k r (k == n + 1) refl more so_far here few there }

pub roomy-all : (runs : List Run) (n : ℕ) → length runs ≤ n → RoomyTo runs n → HaveRoom runs
roomy-all runs n all so_far = record { each = λ k r there. so_far.each k r (let less = within runs k r there in omega arith) there }

pub is_roomier-same : (l : Live) → IsRoomier l l
is_roomier-same l = record { begun = refl; ending = refl; slots = roomier-same l.slots }

pub is_roomier-more : (a b c : Live) → IsRoomier a b → IsRoomier b c → IsRoomier a c
is_roomier-more a b c one two = record { begun = two.begun ∙ one.begun; ending = two.ending ∙ one.ending; slots = roomier-more a.slots b.slots c.slots one.slots two.slots }

-- ---- a finish in each

-- the first so many slots are finished, and the others are as they were
pub record FinishedTo (known : Known) (old new : List Run) (n : ℕ) : Type 0 where
  pub count : length new ≡ length old
  pub done : (k : ℕ) (r m : Run) → k ≤ n → at_place old k ≡ Some r → at_place new k ≡ Some m → HasTaken known r m step.Finish
  pub rest : (k : ℕ) → n < k → at_place new k ≡ at_place old k

pub finished-none : (known : Known) (runs : List Run) → FinishedTo known runs runs 0
finished-none known runs = record { count = refl; done = λ k r m few there also. not-first known runs k r m (k == 0) refl few there; rest = λ k less. refl }
  where
    not-first : (known : Known) (runs : List Run) (k : ℕ) (r m : Run) (z : Bool) → (k == 0) ≡ z → k ≤ 0 → (if z then None else slice_get runs (k - 1)) ≡ Some r → HasTaken known r m step.Finish
    not-first known runs k r m true is few there = absurd cc
    not-first known runs k r m false is few there = absurd (eqb-false k 0 is (omega arith))

pub has-run-by : (runs : List Run) (n : ℕ) → n < length runs → (r : Run) × (slice_get runs n ≡ Some r)
has-run-by [] n less = absurd (omega arith)
has-run-by (r ∷ runs) zero less = (r, refl)
has-run-by (r ∷ runs) (suc n) less = has-run-by runs n (omega arith)

at-next-by : (runs : List Run) (n : ℕ) (r : Run) (z : Bool) → (n + 1 == 0) ≡ z → slice_get runs n ≡ Some r → (if z then None else slice_get runs (n + 1 - 1)) ≡ Some r
at-next-by runs n r true is there = absurd (let none = eqb-true (n + 1) 0 is in omega arith)
at-next-by runs n r false is there = let same : n + 1 - 1 ≡ n = omega arith in ap (slice_get runs) same ∙ there

pub at-next : (runs : List Run) (n : ℕ) (r : Run) → slice_get runs n ≡ Some r → at_place runs (n + 1) ≡ Some r
at-next runs n r is = at-next-by runs n r (n + 1 == 0) refl is

-- the next slot may be finished
pub can-finish-next : (known : Known) (old new : List Run) (n : ℕ) → CanFinish known old → FinishedTo known old new n → n < length old → CanTakeAt known new (n + 1) step.Finish
can-finish-next known old new n can so_far less =
    let run = has-run-by old n less in
    let there = at-next old n run.0 run.1 in
    record { run = run.0; there = so_far.rest (n + 1) (omega arith) ∙ there; can = can.each (n + 1) run.0 there }

finished-at : (known : Known) (old mid new : List Run) (n k : ℕ) (r m : Run) (z : Bool) → (k == n + 1) ≡ z → FinishedTo known old mid n → HasTakenAt known mid new (n + 1) step.Finish → k ≤ n + 1 → at_place old k ≡ Some r → at_place new k ≡ Some m → HasTaken known r m step.Finish
finished-at known old mid new n k r m true is so_far h few there also =
    let same : k ≡ n + 1 = eqb-true k (n + 1) is in
    let first : h.run ≡ r = same-item (at_place mid (n + 1)) h.run r h.there (so_far.rest (n + 1) (omega arith) ∙ ap (at_place old) (sym same) ∙ there) in
    let here : at_place new (n + 1) ≡ Some h.next = ap (λ (rs : List Run). at_place rs (n + 1)) h.runs ∙ with-here mid (n + 1) h.run h.next h.there in
    let second : h.next ≡ m = same-item (at_place new (n + 1)) h.next m here (ap (at_place new) (sym same) ∙ also) in
    subst (λ (x : Run). HasTaken known x m step.Finish) first (subst (λ (x : Run). HasTaken known h.run x step.Finish) second h.taken)
finished-at known old mid new n k r m false is so_far h few there also =
    so_far.done k r m (let other = eqb-false k (n + 1) is in le-below k n few other) there (sym (ap (λ (rs : List Run). at_place rs k) h.runs ∙ with-apart mid (n + 1) k h.next is) ∙ also)
  where
    le-below : (k n : ℕ) → k ≤ n + 1 → (k ≡ n + 1 → ⊥) → k ≤ n
    le-below k n few other = omega (arith, other)

finished-rest : (known : Known) (old mid new : List Run) (n k : ℕ) (z : Bool) → (k == n + 1) ≡ z → FinishedTo known old mid n → HasTakenAt known mid new (n + 1) step.Finish → n + 1 < k → at_place new k ≡ at_place old k
finished-rest known old mid new n k true is so_far h less = absurd (let same = eqb-true k (n + 1) is in omega arith)
finished-rest known old mid new n k false is so_far h less = ap (λ (rs : List Run). at_place rs k) h.runs ∙ with-apart mid (n + 1) k h.next is ∙ so_far.rest k (omega arith)

pub finished-more : (known : Known) (old mid new : List Run) (n : ℕ) → FinishedTo known old mid n → HasTakenAt known mid new (n + 1) step.Finish → FinishedTo known old new (n + 1)
finished-more known old mid new n so_far h = record {
  count = ap length h.runs ∙ length-with mid (n + 1) h.next ∙ so_far.count;
  done = λ k r m few there also. finished-at known old mid new n k r m (k == n + 1) refl so_far h few there also;
  rest = λ k less. finished-rest known old mid new n k (k == n + 1) refl so_far h less;
}

pub finished-all : (known : Known) (old new : List Run) (n : ℕ) → length old ≤ n → FinishedTo known old new n → HaveFinished known old new
finished-all known old new n all so_far = record { count = so_far.count; each = λ k r m there also. so_far.done k r m (let less = within old k r there in omega arith) there also }

-- ---- fresh slots

both-pushed : {A B : Type 0} (xs : List A) (ys : List B) (x d : A) (y e : B) (n : ℕ) → length ys ≡ length xs → slice_get (xs ++ x ∷ []) n ≡ Some d → slice_get (ys ++ y ∷ []) n ≡ Some e → ((slice_get xs n ≡ Some d) × (slice_get ys n ≡ Some e)) ⊎ ((x ≡ d) × (y ≡ e))
both-pushed [] [] x d y e zero same is also = inr (cc, cc)
both-pushed [] [] x d y e (suc n) same is also = absurd cc
both-pushed [] (z ∷ ys) x d y e n same is also = absurd (omega arith)
both-pushed (w ∷ xs) [] x d y e n same is also = absurd (omega arith)
both-pushed (w ∷ xs) (z ∷ ys) x d y e zero same is also = inl (is, also)
both-pushed (w ∷ xs) (z ∷ ys) x d y e (suc n) same is also = both-pushed xs ys x d y e n (omega arith) is also

fresh-push : (known : Known) (p : Behaviour) (bs : List Bound) (rs : List Run) (b : Bound) (r : Run) → AreFresh known p bs rs → IsFresh known p b r → AreFresh known p (bs ++ b ∷ []) (rs ++ r ∷ [])
fresh-push known p bs rs b r all one = record {
  count = length-append rs (r ∷ []) ∙ ap (λ (n : ℕ). n + 1) all.count ∙ sym (length-append bs (b ∷ []));
  each = λ n d q is also. elim (both-pushed bs rs b d r q n all.count is also) [
    | inl before ↦ all.each n d q before.0 before.1
    | inr same ↦ subst (λ (c : Bound). IsFresh known p c q) same.0 (subst (IsFresh known p b) same.1 one)
  ];
}

pub fresh-none : (known : Known) (p : Behaviour) → AreFresh known p [] []
fresh-none known p = record { count = refl; each = λ n d q is also. absurd cc }

pub fresh-more : (known : Known) (p : Behaviour) (bounds : List Bound) (i : ℕ) (rs : List Run) (b : Bound) (r : Run) → i < length bounds → b ≡ get_or bounds i b → AreFresh known p (take i bounds) rs → IsFresh known p b r → AreFresh known p (take (i + 1) bounds) (rs ++ r ∷ [])
fresh-more known p bounds i rs b r inside is all one = subst (λ (bs : List Bound). AreFresh known p bs (rs ++ r ∷ [])) (sym (take-one_more bounds i b inside is)) (fresh-push known p (take i bounds) rs b r all one)
