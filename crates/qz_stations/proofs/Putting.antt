-- How many records the turns of passes put: as passes are split and joined, and once the school is closed.
use Rattle.std.proofs.Common.{◌≡◌, inl, inr, ℕ, zero, suc, ◌+◌, List, [], ◌∷◌, ◌++◌, Option, None, Some, length, map, refl, sym, ap, ◌∙◌, subst, arith}
use Rattle.std.specs.Prelude.{drop, slice_get}
use Rattle.std.proofs.lemmas.List.Sums.{sum_by-append, sum_by-cons}
use Rattle.std.proofs.lemmas.Option.{slice_get_within}
use Rattle.qz_school.specs.Solos.{School, school_of}
use Rattle.qz_catalog.specs.Keeping as records
use Rattle.qz_serial.proofs.Seats.{within_there}
use Rattle.qz_shard.specs.Keeping as part
use Rattle.qz_stations.specs.Noting.{PutsAll, StartsFrom}
use Rattle.qz_stations.specs.Posts.{NoneTurned, PutsAlso, passes_of}
use Rattle.qz_stations.specs.Stations.{AreUnturned, GrowsWith, Post, put_at, put_with, turns_at}
use Rattle.qz_stations.proofs.Lists.{get_snoc}
use Rattle.qz_terms.specs.declared.record.Record.{Record}
use Rattle.qz_turn.specs.declared.view.Turn.{Turn}
use Rattle.qz_turn.specs.Passes.{Standing}
use Rattle.qz_turn.specs.Tales.{put_by, put_in, turns_given, turns_kept}
use Rattle.qz_turn.specs.Turns.{left_of, split_off}
use Rattle.qz_visit.specs.Closing.{ArePasses, HasGrownBy, JoinsAll}
use Rattle.qz_visit.specs.Opening.{Opens, Splits}
use Rattle.qz_visit.specs.Visits.{Locks, Seats}
use Rattle.qz_visit.specs.Ways.{Part}
use Rattle.qz_visit.proofs.Holding.{from_map}
use Rattle.qz_visit.proofs.Opened.{many_opened}

-- ---- passes that took no turn

no-turns : (ps : List Part) (k : ℕ) → ((j : ℕ) (q : Part) → slice_get ps j ≡ Some q → q.turns ≡ []) → turns_at ps k ≡ []
no-turns [] k each = refl
no-turns (q ∷ qs) zero each = each zero q refl
no-turns (q ∷ qs) (suc k) each = no-turns qs k (λ j x at. each (suc j) x at)

pub none_put : (list : Option ℕ) (p : Seats) → AreUnturned p → put_at list p ≡ 0
none_put None p none = ap (λ (ts : List (Turn Record)). put_in ts) none.records
none_put (Some k) p none = ap (λ (ts : List (Turn Record)). put_in ts) (no-turns p.parts k none.parts)

kept-none : (ns : List ℕ) (ts : List (Turn Record)) → ts ≡ [] → turns_kept ns ts ≡ []
kept-none [] ts none = refl
kept-none (n ∷ ns) ts none = none

given-none : (ns : List ℕ) (ts : List (Turn Record)) → ts ≡ [] → turns_given ns ts ≡ []
given-none [] ts none = none
given-none (n ∷ ns) ts none = refl

-- what they are split into took none either
unturned-left : (p q g : Seats) → Splits p q g → AreUnturned p → AreUnturned q
unturned-left p q g so none = record {
  records = ap (λ (x : Standing Record (Unit {0})). x.turns) so.records ∙ kept-none (drop 1 p.records.numbers) p.records.turns none.records;
  parts = λ k x at.
      let y = from_map left_of p.parts k x (subst (λ (l : List Part). slice_get l k ≡ Some x) so.parts at) in
      ap (λ (z : Part). z.turns) y.1.1 ∙ kept-none (drop 1 y.0.numbers) y.0.turns (none.parts k y.0 y.1.0);
}

unturned-given : (p q g : Seats) → Splits p q g → AreUnturned p → AreUnturned g
unturned-given p q g so none = record {
  records = ap (λ (x : Standing Record (Unit {0})). x.turns) so.records_given ∙ given-none (drop 1 p.records.numbers) p.records.turns none.records;
  parts = λ k x at.
      let y = from_map split_off p.parts k x (subst (λ (l : List Part). slice_get l k ≡ Some x) so.parts_given at) in
      ap (λ (z : Part). z.turns) y.1.1 ∙ given-none (drop 1 y.0.numbers) y.0.turns (none.parts k y.0 y.1.0);
}

pub none_turned : {P : Type 0} (passes : Seats) (stations : List (Post P)) → stations ≡ [] → AreUnturned passes → NoneTurned passes stations
none_turned passes stations none are = subst (NoneTurned passes) (sym none) record { own = are; each = λ k p at. absurd cc }

-- nor did those of one station more, which they were split into
pub still_unturned : {P : Type 0} (passes after given : Seats) (stations longer : List (Post P)) (p : Post P) → NoneTurned passes stations → Splits passes after given → p.visit.passes ≡ given → longer ≡ stations ++ p ∷ [] → NoneTurned after longer
still_unturned passes after given stations longer p so splits visit more = subst (NoneTurned after) (sym more) record {
  own = unturned-left passes after given splits so.own;
  each = λ k x there. elim (get_snoc stations p k x there) [
    | inl before ↦ so.each k x before
    | inr last ↦ subst (λ (y : Post _). AreUnturned y.visit.passes) last.1 (subst AreUnturned (sym visit) (unturned-given passes after given splits so.own))
  ];
}

-- ---- passes that are joined

put-more : (xs ys : List (Turn Record)) → put_in (xs ++ ys) ≡ put_in xs + put_in ys
put-more xs ys = sum_by-append put_by xs ys

turns-joined : (ps os qs : List Part) (k : ℕ) → length os ≡ length ps → length qs ≡ length ps → ((j : ℕ) (p o q : Part) → slice_get ps j ≡ Some p → slice_get os j ≡ Some o → slice_get qs j ≡ Some q → q.turns ≡ p.turns ++ o.turns)
    → turns_at qs k ≡ turns_at ps k ++ turns_at os k
turns-joined [] [] [] k many long each = refl
turns-joined [] (o ∷ os) qs k many long each = absurd (omega (arith, many))
turns-joined [] [] (q ∷ qs) k many long each = absurd (omega (arith, long))
turns-joined (p ∷ ps) [] qs k many long each = absurd (omega (arith, many))
turns-joined (p ∷ ps) (o ∷ os) [] k many long each = absurd (omega (arith, long))
turns-joined (p ∷ ps) (o ∷ os) (q ∷ qs) zero many long each = each zero p o q refl refl refl
turns-joined (p ∷ ps) (o ∷ os) (q ∷ qs) (suc k) many long each = turns-joined ps os qs k (omega (arith, many)) (omega (arith, long)) (λ j x y z at there after. each (suc j) x y z at there after)

-- what the turns of both put, those of the joined ones put
pub put_joined : (before other after : Seats) → JoinsAll before other after → length other.parts ≡ length before.parts → (list : Option ℕ) → put_at list after ≡ put_at list before + put_at list other
put_joined before other after j many None = ap (λ (ts : List (Turn Record)). put_in ts) j.records.turns ∙ put-more before.records.turns other.records.turns
put_joined before other after j many (Some k) =
    let turns = turns-joined before.parts other.parts after.parts k many j.parts.count (λ i p o q at there now. (j.parts.each i p o q at there now).turns) in
    ap (λ (ts : List (Turn Record)). put_in ts) turns ∙ put-more (turns_at before.parts k) (turns_at other.parts k)

plus-none : (n : ℕ) → n ≡ n + 0
plus-none n = omega arith

pub puts_none : (p : Seats) → PutsAlso p p []
puts_none p = record { at = λ list. plus-none (put_at list p) }

with-more : (list : Option ℕ) (p : Seats) (ps : List Seats) → put_with list (p ∷ ps) ≡ put_at list p + put_with list ps
with-more list p ps = sum_by-cons (λ (x : Seats). put_at list x) p ps

with-both : (list : Option ℕ) (xs ys : List Seats) → put_with list (xs ++ ys) ≡ put_with list xs + put_with list ys
with-both list xs ys = sum_by-append (λ (x : Seats). put_at list x) xs ys

-- one more was joined
pub puts_one : (first now after other : Seats) (others : List Seats) → PutsAlso first now others → JoinsAll now other after → length other.parts ≡ length now.parts → PutsAlso first after (other ∷ others)
puts_one first now after other others so joins many = record {
  at = λ list.
      let one = put_joined now other after joins many list in
      let rest = so.at list in
      let more = with-more list other others in
      omega (arith, one, rest, more);
}

-- from passes that took none on, those of these put all
pub puts_from : (before mid last : Seats) (others : List Seats) → AreUnturned before → AreUnturned mid → PutsAlso mid last others → PutsAlso before last others
puts_from before mid last others unturned none so = record {
  at = λ list.
      let sum = so.at list in
      let first = none_put list before unturned in
      let second = none_put list mid none in
      omega (arith, sum, first, second);
}

pub puts_both : (before now last : Seats) (xs ys : List Seats) → PutsAlso before now xs → PutsAlso now last ys → PutsAlso before last (xs ++ ys)
puts_both before now last xs ys one other = record {
  at = λ list.
      let first = one.at list in
      let second = other.at list in
      let both = with-both list xs ys in
      omega (arith, first, second, both);
}

pub puts_all : (before last : Seats) (all : List Seats) → AreUnturned before → PutsAlso before last all → PutsAll last all
puts_all before last all unturned so = record {
  at = λ list.
      let sum = so.at list in
      let first = none_put list before unturned in
      omega (arith, sum, first);
}

-- ---- a school that is opened and closed

pub unturned_opened : {K : Type 0} (faults : K → ℕ) (seats : ℕ) (a : School K) (s : Locks) (p : Seats) → Opens faults seats a s p → AreUnturned p
unturned_opened faults seats a s p o = record { records = ap (λ (x : Standing Record (Unit {0})). x.turns) o.records; parts = λ k q at. o.parts.dealt.unturned k q at }

-- of a school that was taken apart
pub starts_whole : {K : Type 0} (faults : K → ℕ) (seats : ℕ) (c : records.Keeping K) (ss : List (part.Keeping K)) (a : School K) (s : Locks) (p : Seats) → c ≡ a.catalog → ss ≡ a.parts → Opens faults seats (school_of c ss) s p → StartsFrom s a
starts_whole faults seats c ss a s p one other o = subst (StartsFrom s) (λ i. record { catalog = one i; parts = other i }) record {
  records = o.start_is;
  count = many_opened faults s.records.lock seats (length ss) ss s.parts p.parts o.parts;
  parts = o.parts.starts;
}

turns-there : (ps : List Part) (k : ℕ) (q : Part) → slice_get ps k ≡ Some q → turns_at ps k ≡ q.turns
turns-there ps k q at = rw at refl

-- its lists have grown by what all of these put
pub grown_with : {K : Type 0} (s : Locks) (a b : School K) (last : Seats) (all : List Seats) → StartsFrom s a → ArePasses s last → HasGrownBy s last b → PutsAll last all → GrowsWith all a b
grown_with s a b last all starts own grown puts = record {
  catalog = let sum = grown.records in let start = starts.records in let put : put_in last.records.turns ≡ put_with None all = puts.at None in omega (arith, sum, start, put);
  parts = λ k x t at there.
      let inside = slice_get_within a.parts k x at in
      let many = starts.count in
      let held = own.parts.count in
      let l = within_there s.parts k (omega (arith, inside, many)) in
      let q = within_there last.parts k (omega (arith, inside, many, held)) in
      let sum = grown.parts.each k l.0 q.0 t l.1 q.1 there in
      let start = starts.parts.each k l.0 x l.1 at in
      let put : put_in (turns_at last.parts k) ≡ put_with (Some k) all = puts.at (Some k) in
      let here : put_in (turns_at last.parts k) ≡ put_in q.0.turns = ap (λ (ts : List (Turn Record)). put_in ts) (turns-there last.parts k q.0 q.1) in
      omega (arith, sum, start, put, here);
}
