-- How serving several doors ended, one door more.
use Rattle.std.proofs.Common.{◌≡◌, ℕ, zero, suc, ◌+◌, ◌*◌, ◌^◌, ◌<◌, ◌≤◌, ◌||◌, List, [], ◌∷◌, Some, length, refl, sym, arith}
use Rattle.std.specs.Prelude.{slice_get, sum_by}
use Rattle.std.specs.List.{list_any}
use Rattle.std.proofs.lemmas.List.Sums.{sum_by-cons}
use Rattle.qz_doors.specs.declared.door.DoorEnd.{DoorEnd}
use Rattle.qz_stations.specs.Posts.{IsCounted}
use Rattle.qz_stations.specs.Stations.{all_ends, both_ends}

pub ends_cons : (e : DoorEnd) (es : List DoorEnd) → both_ends e (all_ends es) ≡ all_ends (e ∷ es)
ends_cons e es = λ i. record {
  taken = (sym (sum_by-cons (λ (x : DoorEnd). x.taken) e es)) i;
  fault = e.fault || list_any (λ (x : DoorEnd). x.fault) es;
  short = (sym (sum_by-cons (λ (x : DoorEnd). x.short) e es)) i;
}

-- they are counted
pub record AreCounted (es : List DoorEnd) : Type 0 where
  pub each : (k : ℕ) (e : DoorEnd) → slice_get es k ≡ Some e → IsCounted e

sum_taken : (es : List DoorEnd) → AreCounted es → sum_by (λ (x : DoorEnd). x.taken) es ≤ length es * 4294967295
sum_taken [] are = omega arith
sum_taken (e ∷ es) are =
    let one = (are.each zero e refl).taken in
    let rest = sum_taken es (record { each = λ k x at. are.each (suc k) x at }) in
    omega (arith, sum_by-cons (λ (x : DoorEnd). x.taken) e es, one, rest)

sum_short : (es : List DoorEnd) → AreCounted es → sum_by (λ (x : DoorEnd). x.short) es ≤ sum_by (λ (x : DoorEnd). x.taken) es
sum_short [] are = omega arith
sum_short (e ∷ es) are =
    let one = (are.each zero e refl).short in
    let rest = sum_short es (record { each = λ k x at. are.each (suc k) x at }) in
    omega (arith, sum_by-cons (λ (x : DoorEnd). x.taken) e es, sum_by-cons (λ (x : DoorEnd). x.short) e es, one, rest)

-- so there is room for one more
pub room_taken : (e : DoorEnd) (es : List DoorEnd) → IsCounted e → AreCounted es → length es + 1 < 2 ^ 32 → e.taken + (all_ends es).taken < 2 ^ 64
room_taken e es is are few = let one = is.taken in let rest = sum_taken es are in omega (arith, one, rest, few)

pub room_short : (e : DoorEnd) (es : List DoorEnd) → IsCounted e → AreCounted es → length es + 1 < 2 ^ 32 → e.short + (all_ends es).short < 2 ^ 64
room_short e es is are few = let one = is.taken in let less = is.short in let rest = sum_taken es are in let short = sum_short es are in omega (arith, one, less, rest, short, few)
