-- Desks whose places change one at a time.
use Rattle.std.proofs.Common.{◌≡◌, ℕ, suc, zero, ◌+◌, ◌<◌, ◌≤◌, Bool, true, false, List, [], ◌∷◌, map, length, slice_get, slice_set, Some, refl, sym, ap, ◌∙◌, subst, arith}
use Rattle.std.specs.List.{All, sum_by}
use Rattle.std.proofs.lemmas.List.{get_or-set_same, length-set, map-set}
use Rattle.std.proofs.lemmas.List.Elements.{All-set}
use Rattle.std.proofs.lemmas.List.Sums.{get_or-le-sum_by, sum_by-cons, sum_by-set}
use Rattle.std.proofs.lemmas.Option.{get_or_from_slice_get, slice_get-get_or, slice_get-map, slice_get_within}
use Rattle.std.proofs.Math.Seq.{map-set_same}
use Rattle.std.specs.Prelude.{IsSomeAnd, get_or, option_map}
use Rattle.qz_asking.specs.Asking.{Answerer}
use Rattle.qz_doors.specs.Doors.{shorter}
use Rattle.qz_ready_doors.specs.declared.slot.Slot.{Slot}
use Rattle.qz_ready_doors.specs.declared.slot.Slot.TheVariants as slot
use Rattle.qz_ready_doors.specs.Halls.{Place, answerer_of, busy, free}
use Rattle.qz_ready_doors.specs.Kept.{free_slot}
use Rattle.qz_ready_doors.specs.Slots.{is_free, open_in, place_of}
use Rattle.qz_ready_doors.specs.Waits.{IsHeard}
use Rattle.futures.specs.declared.task.context.Context.{Context}

-- ---- lists

pub set_twice : {X : Type 0} (xs : List X) (i : ℕ) (x y : X) → slice_set (slice_set xs i x) i y ≡ slice_set xs i y
set_twice [] i x y = refl
set_twice (z ∷ xs) zero x y = refl
set_twice (z ∷ xs) (suc i) x y = ap (λ l. z ∷ l) (set_twice xs i x y)

pub get_set : {X : Type 0} (xs : List X) (i : ℕ) (y : X) → i < length xs → slice_get (slice_set xs i y) i ≡ Some y
get_set xs i y within = slice_get-get_or (slice_set xs i y) i y (omega (arith, within, length-set xs i y)) ∙ ap Some (get_or-set_same xs i y y within)

pub read_at : {X : Type 0} (xs : List X) (i : ℕ) (x : X) → i < length xs → x ≡ get_or xs i x → slice_get xs i ≡ Some x
read_at xs i x within is = slice_get-get_or xs i x within ∙ ap Some (sym is)

pub some_within : {X : Type 0} (P : X → Type 0) (xs : List X) (i : ℕ) → IsSomeAnd (slice_get xs i) P → i < length xs
some_within P [] i none = absurd none
some_within P (x ∷ xs) zero some = omega arith
some_within P (x ∷ xs) (suc i) some = omega (arith, some_within P xs i some)

-- ---- desks

module _ {D L C : Type 0} where
  pub open_free : (x : Slot D L C) (a : Answerer D C) → place_of x ≡ free a → open_in x ≡ 0
  open_free (slot.Free desk clock) a is = refl
  open_free (slot.Open taken) a is = absurd cc

  pub open_busy : (x : Slot D L C) (link : L) (a : Answerer D C) → place_of x ≡ busy link a → open_in x ≡ 1
  open_busy (slot.Free desk clock) link a is = absurd cc
  open_busy (slot.Open taken) link a is = refl

  pub open_same : (x y : Slot D L C) → place_of y ≡ place_of x → open_in y ≡ open_in x
  open_same (slot.Free desk clock) (slot.Free other time) is = refl
  open_same (slot.Free desk clock) (slot.Open taken) is = absurd cc
  open_same (slot.Open taken) (slot.Free other time) is = absurd cc
  open_same (slot.Open taken) (slot.Open more) is = refl

  pub open_within : (old : List (Slot D L C)) (at : ℕ) (x : Slot D L C) → slice_get old at ≡ Some x → open_in x ≤ sum_by open_in old
  open_within old at x was = subst (λ (z : Slot D L C). open_in z ≤ sum_by open_in old) (get_or_from_slice_get old at x x was) (get_or-le-sum_by open_in old at x (slice_get_within old at x was))

  module _ (old new : List (Slot D L C)) (at : ℕ) (x y : Slot D L C) (was : slice_get old at ≡ Some x) (is : new ≡ slice_set old at y) where
    pub within_old : at < length old
    within_old = slice_get_within old at x was

    pub opens : sum_by open_in new + open_in x ≡ sum_by open_in old + open_in y
    opens = subst (λ (l : List (Slot D L C)). sum_by open_in l + open_in x ≡ sum_by open_in old + open_in y) (sym is)
        (subst (λ (z : Slot D L C). sum_by open_in (slice_set old at y) + open_in z ≡ sum_by open_in old + open_in y) (get_or_from_slice_get old at x x was) (sum_by-set open_in old at y x within_old))

    pub places : map place_of new ≡ slice_set (map place_of old) at (place_of y)
    places = ap (map place_of) is ∙ map-set place_of old at y

    pub place_was : slice_get (map place_of old) at ≡ Some (place_of x)
    place_was = slice_get-map place_of old at ∙ ap (option_map place_of) was

    pub places_same : place_of y ≡ place_of x → map place_of new ≡ map place_of old
    places_same same = ap (map place_of) is ∙ map-set_same place_of old at y x (same ∙ ap place_of (sym (get_or_from_slice_get old at x x was)))

    pub all_still : (P : Slot D L C → Type 0) → P y → All P old → All P new
    all_still P holds all = subst (All P) (sym is) (All-set P old at y holds all)

pub shorter_most : (t : Bool) (n : ℕ) → shorter t n ≤ n + 1
shorter_most true n = omega arith
shorter_most false n = omega arith

-- ---- desks that are all free

module _ {D C : Type 0} (L : Type 0) where
  pub places_free : (seats : List (D × C)) → map (place_of {D = D} {L = L} {C = C}) (map free_slot seats) ≡ map free (map answerer_of seats)
  places_free [] = refl
  places_free (seat ∷ seats) = ap (λ (l : List (Place L (Answerer D C))). free (answerer_of seat) ∷ l) (places_free seats)

  pub none_open : (seats : List (D × C)) → sum_by (open_in {D = D} {L = L} {C = C}) (map free_slot seats) ≡ 0
  none_open [] = refl
  none_open (seat ∷ seats) = omega (arith, sum_by-cons (open_in {D = D} {L = L} {C = C}) (free_slot seat) (map free_slot seats), none_open seats)

pub free_heard : {D L C : Type 0} (cx : Context) (x : Slot D L C) → is_free x ≡ true → IsHeard cx x
free_heard cx (slot.Free desk clock) is = _
free_heard cx (slot.Open taken) is = absurd cc
