-- Stations are taken up, one after the other.
use Rattle.std.proofs.Common.{◌≡◌, ◌⊎◌, inl, inr, ⊎_elim, ℕ, zero, suc, ◌<◌, List, [], ◌∷◌, ◌++◌, length, length-append, map, refl, sym, ap, ◌∙◌, subst, append_assoc, arith}
use Rattle.std.specs.Prelude.{Contains}
use Rattle.std.proofs.lemmas.List.{map-append}
use Rattle.std.proofs.lemmas.List.Elements.{Contains-append_cases}
use Rattle.qz_visit.specs.Holding.{Holds}
use Rattle.qz_visit.specs.Opening.{Splits}
use Rattle.qz_visit.specs.Visits.{Locks, Seats, Tellings, seen_in}
use Rattle.qz_visit.proofs.Holding.{holds_given, holds_left}
use Rattle.qz_visit.proofs.Seeing.{seen_given, seen_left}
use Rattle.qz_stations.specs.Posts.{HoldTheirs, IsHeldBy, IsTakenUp, TakesUp}
use Rattle.qz_stations.specs.Stations.{Post, at_place, no_end}
use Rattle.qz_stations.proofs.Lists.{get_last, get_longer, get_snoc}

-- what holds any numbers holds its own
pub hold_theirs : (s : Locks) (numbers : List ℕ) (p : Seats) → Holds s numbers p → HoldTheirs s p
hold_theirs s numbers p h = subst (λ (l : List ℕ). Holds s l p) (sym h.records.numbers_are) h

-- a number that one has, it has also among more stations
pub held_longer : {P : Type 0} (ps qs : List (Post P)) (n : ℕ) → IsHeldBy ps n → IsHeldBy (ps ++ qs) n
held_longer ps qs n h = record { place = h.place; post = h.post; there = get_longer ps qs h.place h.post h.there; number = h.number }

-- the numbers of these, where there are some
pub record HasFirst (numbers : List ℕ) : Type 0 where
  pub first : ℕ
  pub rest : List ℕ
  pub is : numbers ≡ first ∷ rest

pub has-first : (numbers : List ℕ) → 0 < length numbers → HasFirst numbers
has-first [] some = absurd (omega arith)
has-first (n ∷ ns) some = record { first = n; rest = ns; is = refl }

module _ {P : Type 0} (s : Locks) where
  pub takes_none : (places : List P) (passes : Seats) (stations : List (Post P)) → stations ≡ [] → HoldTheirs s passes → TakesUp s (seen_in passes) passes.records.numbers places places passes stations
  takes_none places passes stations none holds = subst (TakesUp s (seen_in passes) passes.records.numbers places places passes) (sym none) record {
    places = refl;
    taken = λ k p at. absurd cc;
    own = holds;
    seen = refl;
    count = omega arith;
    dealt = record { each = λ n there. inl there };
  }

  module _ (told : Tellings) (numbers : List ℕ) (old now : List P) (passes : Seats) (stations : List (Post P)) (so : TakesUp s told numbers old now passes stations) (some : length stations < length numbers) where
    abbrev pub next : HasFirst passes.records.numbers
    next = has-first passes.records.numbers (let count = so.count in omega (arith, count, some))

    -- the one that is given next, and the others
    pub next_holds : Holds s (next.first ∷ next.rest) passes
    next_holds = subst (λ (l : List ℕ). Holds s l passes) next.is so.own

    module _ (rest : List P) (after given : Seats) (longer : List (Post P)) (at : P) (p : Post P) (first : now ≡ at ∷ rest) (splits : Splits passes after given) (stands : p ≡ record { place = at; visit = p.visit; notes = p.notes; end = no_end }) (visit : p.visit.passes ≡ given) (more : longer ≡ stations ++ p ∷ []) where
      left : Holds s next.rest after
      left = holds_left s next.first next.rest passes after given next_holds splits

      dealt : Holds s (next.first ∷ []) given
      dealt = holds_given s next.first next.rest passes after given next_holds splits

      new : IsTakenUp s told p
      new = record {
        holds = subst (HoldTheirs s) (sym visit) (hold_theirs s (next.first ∷ []) given dealt);
        seen = ap seen_in visit ∙ seen_given passes after given splits ∙ so.seen;
        fresh = ap (λ (x : Post P). x.end) stands;
      }

      here : IsHeldBy (stations ++ p ∷ []) next.first
      here = record { place = length stations; post = p; there = get_last stations p; number = subst (λ (l : List ℕ). Contains l next.first) (sym (ap (λ (x : Seats). x.records.numbers) visit ∙ dealt.records.numbers_are)) (0, omega arith, refl) }

      shared : (n : ℕ) → Contains numbers n → Contains after.records.numbers n ⊎ IsHeldBy (stations ++ p ∷ []) n
      shared n there = ⊎_elim
          (λ kept. ⊎_elim
          (λ gone. inr (subst (IsHeldBy (stations ++ p ∷ [])) (only-one n gone) here))
          (λ stays. inl (subst (λ (l : List ℕ). Contains l n) (sym left.records.numbers_are) stays))
          (Contains-append_cases (next.first ∷ []) next.rest n (subst (λ (l : List ℕ). Contains l n) next.is kept)))
          (λ held. inr (held_longer stations (p ∷ []) n held))
          (so.dealt.each n there)
        where
          only-one : (n : ℕ) → Contains (next.first ∷ []) n → next.first ≡ n
          only-one n (zero, within, is) = is
          only-one n (suc k, within, is) = absurd (omega (arith, within))

      pub takes_one : TakesUp s told numbers old rest after longer
      takes_one = subst (TakesUp s told numbers old rest after) (sym more) record {
        places = so.places ∙ ap (λ (l : List P). map at_place stations ++ l) (first ∙ ap (λ (x : P). x ∷ rest) (sym (ap at_place stands))) ∙ sym (append_assoc (map at_place stations) (at_place p ∷ []) rest) ∙ ap (λ (l : List P). l ++ rest) (sym (map-append at_place stations (p ∷ [])));
        taken = λ k x there. elim (get_snoc stations p k x there) [
          | inl before ↦ so.taken k x before
          | inr last ↦ subst (IsTakenUp s told) last.1 new
        ];
        own = hold_theirs s next.rest after left;
        seen = seen_left passes after given splits ∙ so.seen;
        count = let count = so.count in let fewer = ap (λ (l : List ℕ). length l) next.is in let left_are = ap (λ (l : List ℕ). length l) left.records.numbers_are in let long = length-append stations (p ∷ []) in omega (arith, count, fewer, left_are, long);
        dealt = record { each = shared };
      }
