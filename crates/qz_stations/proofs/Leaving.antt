-- Stations are left, one after the other, the last one first.
use Rattle.std.proofs.Common.{◌≡◌, ℕ, zero, suc, ◌+◌, ◌<◌, ◌^◌, List, [], ◌∷◌, ◌++◌, Some, length, length-append, map, refl, sym, ap, ◌∙◌, subst, append-nil, append_assoc, arith}
use Rattle.std.specs.Prelude.{Contains, slice_get}
use Rattle.std.proofs.lemmas.List.{length-map}
use Rattle.std.proofs.lemmas.List.Elements.{Contains-append_left, Contains-append_right}
use Rattle.qz_doors.specs.declared.door.DoorEnd.{DoorEnd}
use Rattle.qz_visit.specs.Closing.{JoinsAll}
use Rattle.qz_visit.specs.Seeing.{FollowAll}
use Rattle.qz_visit.specs.Visits.{Locks, Seats, seen_in}
use Rattle.qz_visit.proofs.Holding.{holds_joined}
use Rattle.qz_visit.proofs.Seeing.{all_on, all_self, first_joined, second_joined}
use Rattle.qz_stations.specs.Posts.{AreAmong, AreManned, IsCounted, IsHeldBy, IsManned, PutsAlso, TakesIn, passes_of}
use Rattle.qz_stations.specs.Stations.{Post, all_ends, at_place, both_ends}
use Rattle.qz_stations.proofs.Counting.{AreCounted, ends_cons, room_short, room_taken}
use Rattle.qz_stations.proofs.Lists.{get_last, get_longer}
use Rattle.qz_stations.proofs.Putting.{puts_none, puts_one}
use Rattle.qz_stations.proofs.TakingUp.{hold_theirs}

-- the stations behind those that are left were left, in order
pub record LeavesOn {P : Type 0} (s : Locks) (first now : Seats) (all left : List (Post P)) (old places : List P) (end : DoorEnd) : Type 0 where
  pub done : List (Post P)
  pub all_is : all ≡ left ++ done
  pub places_are : places ≡ map at_place done ++ old
  pub end_is : end ≡ all_ends (map (λ (p : Post P). p.end) done)
  pub manned : AreManned s now left
  pub kept : AreAmong first.records.numbers now.records.numbers
  pub given : (n : ℕ) → IsHeldBy done n → Contains now.records.numbers n
  pub follows : FollowAll (seen_in first) (seen_in now)
  pub each : (k : ℕ) (p : Post P) → slice_get done k ≡ Some p → FollowAll (seen_in p.visit.passes) (seen_in now)
  pub counted : AreCounted (map (λ (p : Post P). p.end) done)
  pub few : length left + length done < 2 ^ 32
  pub put : PutsAlso first now (map passes_of done)

none-held : {P : Type 0} (ps : List (Post P)) (n : ℕ) (A : Type 0) → ps ≡ [] → IsHeldBy ps n → A
none-held ps n A none h = let there = h.there in absurd cc

module _ {P : Type 0} (s : Locks) where
  pub leaves_none : (first : Seats) (all : List (Post P)) (old : List P) (end : DoorEnd) → end ≡ all_ends [] → AreManned s first all → LeavesOn s first first all all old old end
  leaves_none first all old end none are = record {
    done = [];
    all_is = sym (append-nil all);
    places_are = refl;
    end_is = none;
    manned = are;
    kept = record { each = λ n there. there };
    given = λ n held. none-held [] n (Contains first.records.numbers n) refl held;
    follows = all_self (seen_in first);
    each = λ k p at. absurd cc;
    counted = record { each = λ k e at. absurd cc };
    few = let few = are.few in omega (arith, few);
    put = puts_none first;
  }

  -- as the last station is taken off
  pub popped : (first now : Seats) (all items left : List (Post P)) (p : Post P) (old places : List P) (end : DoorEnd) → items ≡ left ++ p ∷ [] → LeavesOn s first now all items old places end → LeavesOn s first now all (left ++ p ∷ []) old places end
  popped first now all items left p old places end is so = subst (λ (l : List (Post P)). LeavesOn s first now all l old places end) is so

  module _ (first now : Seats) (all left : List (Post P)) (p : Post P) (old places : List P) (end : DoorEnd) (so : LeavesOn s first now all (left ++ p ∷ []) old places end) where
    -- the one that is left next
    pub last_manned : IsManned s p
    last_manned = so.manned.manned (length left) p (get_last left p)

    few-done : length so.done + 1 < 2 ^ 32
    few-done = let few = so.few in let long = length-append left (p ∷ []) in omega (arith, few, long)

    pub may_take : p.end.taken + end.taken < 2 ^ 64
    may_take = subst (λ (e : DoorEnd). p.end.taken + e.taken < 2 ^ 64) (sym so.end_is) (room_taken p.end (map (λ (x : Post P). x.end) so.done) last_manned.counted so.counted (let few = few-done in let long = length-map so.done (λ (x : Post P). x.end) in omega (arith, few, long)))

    pub may_be_short : p.end.short + end.short < 2 ^ 64
    may_be_short = subst (λ (e : DoorEnd). p.end.short + e.short < 2 ^ 64) (sym so.end_is) (room_short p.end (map (λ (x : Post P). x.end) so.done) last_manned.counted so.counted (let few = few-done in let long = length-map so.done (λ (x : Post P). x.end) in omega (arith, few, long)))

    pub leaves_one : (after : Seats) (given : P) (places' : List P) (total : DoorEnd) → JoinsAll now p.visit.passes after → given ≡ at_place p → places' ≡ given ∷ places → total ≡ both_ends p.end end
        → LeavesOn s first after all left old places' total
    leaves_one after given places' total joins at next sum = record {
      done = p ∷ so.done;
      all_is = so.all_is ∙ append_assoc left (p ∷ []) so.done;
      places_are = next ∙ (λ i. at i ∷ so.places_are i);
      end_is = sum ∙ ap (both_ends p.end) so.end_is ∙ ends_cons p.end (map (λ (x : Post P). x.end) so.done);
      manned = record {
        manned = λ k x there. so.manned.manned k x (get_longer left (p ∷ []) k x there);
        few = let few = so.manned.few in let long = length-append left (p ∷ []) in omega (arith, few, long);
        own = hold_theirs s (now.records.numbers ++ p.visit.passes.records.numbers) after (holds_joined s now.records.numbers p.visit.passes.records.numbers now p.visit.passes after so.manned.own last_manned.holds joins);
      };
      kept = record { each = λ n there. mine n (so.kept.each n there) };
      given = λ n held. numbered n held;
      follows = all_on (seen_in first) (seen_in now) (seen_in after) so.follows grown;
      each = λ k x there. later k x there;
      counted = record { each = λ k e there. count k e there };
      few = let few = so.few in let long = length-append left (p ∷ []) in omega (arith, few, long);
      put = puts_one first now after p.visit.passes (map passes_of so.done) so.put joins many;
    }
      where
        many : length p.visit.passes.parts ≡ length now.parts
        many = last_manned.holds.count ∙ sym so.manned.own.count

        grown : FollowAll (seen_in now) (seen_in after)
        grown = first_joined now p.visit.passes after joins many

        joined : after.records.numbers ≡ now.records.numbers ++ p.visit.passes.records.numbers
        joined = joins.records.numbers

        mine : (n : ℕ) → Contains now.records.numbers n → Contains after.records.numbers n
        mine n there = subst (λ (l : List ℕ). Contains l n) (sym joined) (Contains-append_left now.records.numbers p.visit.passes.records.numbers n there)

        theirs : (n : ℕ) → Contains p.visit.passes.records.numbers n → Contains after.records.numbers n
        theirs n there = subst (λ (l : List ℕ). Contains l n) (sym joined) (Contains-append_right now.records.numbers p.visit.passes.records.numbers n there)

        by-place : (n k : ℕ) (x : Post P) → slice_get (p ∷ so.done) k ≡ Some x → Contains x.visit.passes.records.numbers n → Contains after.records.numbers n
        by-place n zero x there number = let same : p ≡ x = cc in theirs n (subst (λ (y : Post P). Contains y.visit.passes.records.numbers n) (sym same) number)
        by-place n (suc k) x there number = mine n (so.given n (record { place = k; post = x; there = there; number = number }))

        numbered : (n : ℕ) → IsHeldBy (p ∷ so.done) n → Contains after.records.numbers n
        numbered n held = by-place n held.place held.post held.there held.number

        later : (k : ℕ) (x : Post P) → slice_get (p ∷ so.done) k ≡ Some x → FollowAll (seen_in x.visit.passes) (seen_in after)
        later zero x there = let same : p ≡ x = cc in subst (λ (y : Post P). FollowAll (seen_in y.visit.passes) (seen_in after)) same (second_joined now p.visit.passes after joins many)
        later (suc k) x there = all_on (seen_in x.visit.passes) (seen_in now) (seen_in after) (so.each k x there) grown

        count : (k : ℕ) (e : DoorEnd) → slice_get (p.end ∷ map (λ (x : Post P). x.end) so.done) k ≡ Some e → IsCounted e
        count zero e there = let same : p.end ≡ e = cc in subst IsCounted same last_manned.counted
        count (suc k) e there = so.counted.each k e there

  -- all are left
  module _ (first now : Seats) (all : List (Post P)) (old places : List P) (end : DoorEnd) (so : LeavesOn s first now all [] old places end) where
    pub left_places : places ≡ map at_place all ++ old
    left_places = so.places_are ∙ ap (λ (l : List (Post P)). map at_place l ++ old) (sym so.all_is)

    pub left_end : end ≡ all_ends (map (λ (p : Post P). p.end) all)
    left_end = so.end_is ∙ ap (λ (l : List (Post P)). all_ends (map (λ (p : Post P). p.end) l)) (sym so.all_is)

    pub left_passes : TakesIn s first now all
    left_passes = record {
      own = so.manned.own;
      kept = so.kept;
      given = λ n held. so.given n (subst (λ (l : List (Post P)). IsHeldBy l n) so.all_is held);
      follows = so.follows;
      each = λ k p there. so.each k p (subst (λ (l : List (Post P)). slice_get l k ≡ Some p) so.all_is there);
    }

    pub left_put : PutsAlso first now (map passes_of all)
    left_put = subst (λ (l : List (Post P)). PutsAlso first now (map passes_of l)) (sym so.all_is) so.put
