-- Passes of a school from its opening to its closing.
use Rattle.std.proofs.Common.{◌≡◌, ◌≢◌, ℕ, zero, suc, ◌<◌, List, [], ◌∷◌, ◌++◌, Some, length, map, refl, sym, ap, ◌∙◌, subst, arith}
use Rattle.std.specs.Prelude.{drop, slice_get, take}
use Rattle.std.proofs.lemmas.List.{length-map}
use Rattle.std.proofs.lemmas.Option.{slice_get_within}
use Rattle.qz_serial.proofs.Seats.{within_there}
use Rattle.qz_shard_turns.specs.Tying.{SeesMore}
use Rattle.qz_shard_turns.proofs.Tying.{joined-first}
use Rattle.qz_school.specs.Solos.{IsSolo, School}
use Rattle.qz_terms.specs.declared.ask.Ask.{Ask}
use Rattle.qz_terms.specs.declared.reply.Reply.{Reply}
use Rattle.qz_terms.specs.Catalog.{shards}
use Rattle.qz_turn.specs.declared.view.Tale.{Tale}
use Rattle.qz_terms.specs.declared.record.Record.{Record}
use Rattle.qz_turn.specs.Rule.{HasEvery, below}
use Rattle.qz_turn.specs.Turns.{left_of, split_off}
use Rattle.qz_visit.specs.Closing.{ArePasses, HasFounding, HaveEvery, JoinsAll}
use Rattle.qz_visit.specs.Opening.{Opens, Splits}
use Rattle.qz_visit.specs.declared.last.Last.{Last}
use Rattle.qz_visit.specs.declared.last.Said.{Said}
use Rattle.qz_visit.specs.Visits.{AreFoundBy, AreOf, Asked, Locks, Seats, Visited, Visitor, more, none, said_by}
use Rattle.qz_visit.specs.Ways.{Part}
use Rattle.qz_visit.proofs.Closed.{founded_on}
use Rattle.qz_visit.proofs.Opened.{many_opened}
use Rattle.qz_visit.proofs.Passing.{found_sees, sees_on, sees_self}
use Rattle.qz_visit.specs.Holding.{GoesOn, HasSeats, Holds, SeeMore}

-- ---- opening and splitting

pub seats_opened : {K : Type 0} (faults : K → ℕ) (seats : ℕ) (a : School K) (s : Locks) (p : Seats) → Opens faults seats a s p → HasSeats s seats
seats_opened faults seats a s p o = record { records = o.seats_are; parts = o.parts.dealt.seats_are }

pub holds_opened : {K : Type 0} (faults : K → ℕ) (seats : ℕ) (a : School K) (s : Locks) (p : Seats) → IsSolo a.catalog a.parts → Opens faults seats a s p → Holds s (below seats) p
holds_opened faults seats a s p solo o = record {
  records = record { own = ap (λ (x : _). x.lock) o.records; numbers_are = ap (λ (x : _). x.numbers) o.records };
  count = o.parts.own.count;
  parts = λ k l q at there. record { own = o.parts.own.own k l q at there; numbers_are = o.parts.dealt.numbers k q there };
  founded = ap (λ (x : _). shards x.seen.list) o.records ∙ solo.founded ∙ ap (λ (n : ℕ). Some n) (sym (many_opened faults s.records.lock seats (length a.parts) a.parts s.parts p.parts o.parts));
}

pub from_map : {A B : Type 0} (f : A → B) (xs : List A) (k : ℕ) (y : B) → slice_get (map f xs) k ≡ Some y → (x : A) × ((slice_get xs k ≡ Some x) × (y ≡ f x))
from_map f [] k y at = absurd cc
from_map f (x ∷ xs) zero y at = (x, (refl, cc))
from_map f (x ∷ xs) (suc k) y at = from_map f xs k y at

-- what is done to each pass alike
holds-map : (s : Locks) (ns ms : List ℕ) (p q : Seats) (f : Part → Part) → Holds s ns p → q.records.lock ≡ p.records.lock → q.records.numbers ≡ ms → q.records.seen ≡ p.records.seen → q.parts ≡ map f p.parts
    → ((x : Part) → (f x).lock ≡ x.lock) → ((x : Part) → x.numbers ≡ ns → (f x).numbers ≡ ms) → Holds s ms q
holds-map s ns ms p q f h lock numbers seen parts locks to = record {
  records = record { own = lock ∙ h.records.own; numbers_are = numbers };
  count = ap length parts ∙ length-map p.parts f ∙ h.count;
  parts = λ k l x at there.
      let old = from_map f p.parts k x (subst (λ (xs : List Part). slice_get xs k ≡ Some x) parts there) in
      let is = h.parts k l old.0 at old.1.0 in
      record { own = ap (λ (z : Part). z.lock) old.1.1 ∙ locks old.0 ∙ is.own; numbers_are = ap (λ (z : Part). z.numbers) old.1.1 ∙ to old.0 is.numbers_are };
  founded = ap (λ (t : Tale Record). shards t.list) seen ∙ h.founded;
}

pub holds_left : (s : Locks) (n : ℕ) (ns : List ℕ) (p q g : Seats) → Holds s (n ∷ ns) p → Splits p q g → Holds s ns q
holds_left s n ns p q g h so = holds-map s (n ∷ ns) ns p q left_of h (ap (λ (x : _). x.lock) so.records) (ap (λ (x : _). x.numbers) so.records ∙ ap (drop 1) h.records.numbers_are) (ap (λ (x : _). x.seen) so.records) so.parts (λ x. refl) (λ x is. ap (drop 1) is)

pub holds_given : (s : Locks) (n : ℕ) (ns : List ℕ) (p q g : Seats) → Holds s (n ∷ ns) p → Splits p q g → Holds s (n ∷ []) g
holds_given s n ns p q g h so = holds-map s (n ∷ ns) (n ∷ []) p g split_off h (ap (λ (x : _). x.lock) so.records_given) (ap (λ (x : _). x.numbers) so.records_given ∙ ap (take 1) h.records.numbers_are) (ap (λ (x : _). x.seen) so.records_given) so.parts_given (λ x. refl) (λ x is. ap (take 1) is)

pub passes_held : (s : Locks) (ns : List ℕ) (p : Seats) → Holds s ns p → ArePasses s p
passes_held s ns p h = record { records = h.records.own; parts = record { count = h.count; own = λ k l q at there. (h.parts k l q at there).own } }

-- ---- asking

some-number : (n : ℕ) (ns ms : List ℕ) → ms ≡ n ∷ ns → ms ≢ []
some-number n ns ms is = λ e. absurd cc

pub of_held : (s : Locks) (n : ℕ) (ns : List ℕ) (p : Seats) → Holds s (n ∷ ns) p → AreOf s p
of_held s n ns p h = record {
  records = record { own = h.records.own; numbered = some-number n ns p.records.numbers h.records.numbers_are };
  count = h.count;
  parts = λ k l q at there. let is = h.parts k l q at there in record { own = is.own; numbered = some-number n ns q.numbers is.numbers_are };
}

count-found : (os ns : List Part) (fs : List (Tale Record)) → AreFoundBy os ns fs → length ns ≡ length os
count-found _ _ _ none = refl
count-found _ _ _ (more old new found os ns fs one rest) = ap suc (count-found os ns fs rest)

one-of : {A : Type 0} (a b c : A) → Some a ≡ Some b → Some a ≡ Some c → b ≡ c
one-of a b c first second = cc

found-there : (os ns : List Part) (fs : List (Tale Record)) (k : ℕ) (p q : Part) → AreFoundBy os ns fs → slice_get os k ≡ Some p → slice_get ns k ≡ Some q → SeesMore p q
found-there _ _ _ k p q none at there = absurd cc
found-there _ _ _ zero p q (more old new found os ns fs one rest) at there =
    let first : old ≡ p = cc in
    let second : new ≡ q = cc in
    subst (λ (x : Part). SeesMore x q) first (subst (SeesMore old) second (found_sees old new found one))
found-there _ _ _ (suc k) p q (more old new found os ns fs one rest) at there = found-there os ns fs k p q rest at there

pub visit_sees : (old new : Seats) (now : ℕ) (ask : Ask) (told : Said) → Visited old new now ask told → SeeMore old new
visit_sees old new now ask told v = record {
  records = found_sees old.records new.records v.found.records v.records;
  count = count-found old.parts new.parts v.found.parts v.parts;
  parts = λ k p q at there. found-there old.parts new.parts v.found.parts k p q v.parts at there;
}

same-there : (ps : List Part) (k : ℕ) (p q : Part) → slice_get ps k ≡ Some p → slice_get ps k ≡ Some q → p ≡ q
same-there ps k p q at there = cc

pub more_self : (p : Seats) → SeeMore p p
more_self p = record { records = sees_self p.records; count = refl; parts = λ k x y at there. subst (SeesMore x) (same-there p.parts k x y at there) (sees_self x) }

pub more_on : (a b c : Seats) → SeeMore a b → SeeMore b c → SeeMore a c
more_on a b c one other = record {
  records = sees_on a.records b.records c.records one.records other.records;
  count = other.count ∙ one.count;
  parts = λ k p q at there.
      let inside : k < length b.parts = let long = one.count in let within = slice_get_within a.parts k p at in omega (arith, long, within) in
      let mid = within_there b.parts k inside in
      sees_on p mid.0 q (one.parts k p mid.0 at mid.1) (other.parts k mid.0 q mid.1 there);
}

pub goes_self : (v : Visitor) → GoesOn v v
goes_self v = record { school = refl; passes = more_self v.passes }

pub goes_on : (a b c : Visitor) → GoesOn a b → GoesOn b c → GoesOn a c
goes_on a b c one other = record { school = other.school ∙ one.school; passes = more_on a.passes b.passes c.passes one.passes other.passes }

pub goes_asked : (a b : Visitor) (now : ℕ) (ask : Ask) (told : Reply) → (b.school ≡ a.school) × (Asked a.passes b.passes b.last now ask told) → GoesOn a b
goes_asked a b now ask told both = record { school = both.0; passes = visit_sees a.passes b.passes now ask (said_by told b.last) both.1.visited }

pub holds_on : (s : Locks) (ns : List ℕ) (p q : Seats) → Holds s ns p → SeeMore p q → Holds s ns q
holds_on s ns p q h m = record {
  records = record { own = m.records.lock ∙ h.records.own; numbers_are = m.records.numbers ∙ h.records.numbers_are };
  count = m.count ∙ h.count;
  parts = λ k l x at there.
      let inside : k < length p.parts = let long = m.count in let within = slice_get_within q.parts k x there in omega (arith, long, within) in
      let old = within_there p.parts k inside in
      let is = h.parts k l old.0 at old.1 in
      let sees = m.parts k old.0 x old.1 there in
      record { own = sees.lock ∙ is.own; numbers_are = sees.numbers ∙ is.numbers_are };
  founded = founded_on p.records.seen.list q.records.seen.list (length s.parts) m.records.begins.begins h.founded;
}

pub holds_gone : (s : Locks) (a b : Visitor) (p q : Seats) (l : Last) → a ≡ record { school = s; passes = p; last = l } → GoesOn a b → q ≡ b.passes → (ns : List ℕ) → Holds s ns p → Holds s ns q
holds_gone s a b p q l begins goes ends ns h =
    let first : a.passes ≡ p = ap (λ (v : Visitor). v.passes) begins in
    subst (Holds s ns) (sym ends) (holds_on s ns p b.passes h (subst (λ (x : Seats). SeeMore x b.passes) first goes.passes))

pub own_gone : (s : Locks) (a b : Visitor) (p q : Seats) (l : Last) → a ≡ record { school = s; passes = p; last = l } → GoesOn a b → AreOf b.school q → AreOf s q
own_gone s a b p q l begins goes own = subst (λ (x : Locks). AreOf x q) (goes.school ∙ ap (λ (v : Visitor). v.school) begins) own

-- ---- joining and closing

pub holds_joined : (s : Locks) (ns ms : List ℕ) (p o q : Seats) → Holds s ns p → Holds s ms o → JoinsAll p o q → Holds s (ns ++ ms) q
holds_joined s ns ms p o q h i j = record {
  records = record { own = j.records.lock ∙ h.records.own; numbers_are = j.records.numbers ∙ ap (λ (l : List ℕ). l ++ o.records.numbers) h.records.numbers_are ∙ ap (λ (l : List ℕ). ns ++ l) i.records.numbers_are };
  count = j.parts.count ∙ h.count;
  parts = λ k l x at there.
      let within = slice_get_within s.parts k l at in
      let first = within_there p.parts k (let long = h.count in omega (arith, within, long)) in
      let second = within_there o.parts k (let long = i.count in omega (arith, within, long)) in
      let mine = h.parts k l first.0 at first.1 in
      let other = i.parts k l second.0 at second.1 in
      let joins = j.parts.each k first.0 second.0 x first.1 second.1 there in
      record { own = joins.lock ∙ mine.own; numbers_are = joins.numbers ∙ ap (λ (l : List ℕ). l ++ second.0.numbers) mine.numbers_are ∙ ap (λ (l : List ℕ). ns ++ l) other.numbers_are };
  founded = founded_on p.records.seen.list q.records.seen.list (length s.parts) (joined-first p.records o.records q.records j.records) h.founded;
}

pub every_held : (s : Locks) (count : ℕ) (ns : List ℕ) (p : Seats) → HasSeats s count → HasEvery count ns → Holds s ns p → HaveEvery s p
every_held s count ns p has every h = record {
  records = subst (λ (n : ℕ). HasEvery n p.records.numbers) (sym has.records) (subst (HasEvery count) (sym h.records.numbers_are) every);
  parts = record { each = λ k l q at there. subst (λ (n : ℕ). HasEvery n q.numbers) (sym (has.parts k l at)) (subst (HasEvery count) (sym (h.parts k l q at there).numbers_are) every) };
}

pub founding_held : (s : Locks) (ns : List ℕ) (p : Seats) → Holds s ns p → HasFounding s p
founding_held s ns p h = record { founded = h.founded }
