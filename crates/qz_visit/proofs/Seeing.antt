-- What is seen of a school's lists goes on.
use Rattle.std.proofs.Common.{◌≡◌, ℕ, zero, suc, ◌+◌, List, [], ◌∷◌, Some, length, map, max, refl, ap, ◌∙◌, arith}
use Rattle.std.specs.Prelude.{slice_get}
use Rattle.std.proofs.lemmas.Option.{slice_get_within}
use Rattle.qz_catalog_turns.specs.Turning.{tale_of}
use Rattle.qz_serial.proofs.Seats.{within_there}
use Rattle.qz_shard.specs.Keeping as part
use Rattle.qz_shard_turns.proofs.Tying.{joined-first, joined-second}
use Rattle.qz_school.specs.Solos.{School}
use Rattle.qz_terms.specs.declared.ask.Ask.{Ask}
use Rattle.qz_terms.specs.declared.record.Record.{Record}
use Rattle.qz_turn.specs.declared.view.Tale.{Tale}
use Rattle.qz_turn.specs.Passes.{Standing}
use Rattle.qz_turn.specs.Tales.{Follows}
use Rattle.qz_turn.specs.Turns.{Joins, left_of, split_off}
use Rattle.qz_turn.proofs.Prefixes.{follows_self, follows_trans}
use Rattle.qz_visit.specs.Closing.{AllJoin, AreClosed, Closes, IsClosed, JoinsAll}
use Rattle.qz_visit.specs.Closing as closing
use Rattle.qz_visit.specs.Opening.{Splits}
use Rattle.qz_visit.specs.Seeing.{FollowAll, FollowEach, IsAskedBeside, more, none}
use Rattle.qz_visit.specs.declared.last.Said.{Said}
use Rattle.qz_visit.specs.Visits.{AreFoundBy, Seats, Tellings, Visited, seen_by, seen_in}
use Rattle.qz_visit.specs.Visits as visits
use Rattle.qz_visit.specs.Ways.{Part}

-- ---- of lists

each_self : (ts : List (Tale Record)) → FollowEach ts ts
each_self [] = none
each_self (t ∷ ts) = more t t ts ts (follows_self t) (each_self ts)

each_on : (xs bs cs : List (Tale Record)) → FollowEach xs bs → FollowEach bs cs → FollowEach xs cs
each_on _ _ _ none none = none
each_on _ _ _ (more a b xs bs one rest) (more _ c _ cs other others) = more a c xs cs (follows_trans a b c one other) (each_on xs bs cs rest others)

pub all_self : (t : Tellings) → FollowAll t t
all_self t = record { records = follows_self t.records; parts = each_self t.parts }

pub all_on : (a b c : Tellings) → FollowAll a b → FollowAll b c → FollowAll a c
all_on a b c one other = record {
  records = follows_trans a.records b.records c.records one.records other.records;
  parts = each_on a.parts b.parts c.parts one.parts other.parts;
}

-- ---- a request

found_begins : (os ns : List Part) (fs : List (Tale Record)) → AreFoundBy os ns fs → FollowEach (seen_by os) fs
found_begins _ _ _ visits.none = none
found_begins _ _ _ (visits.more old new found os ns fs one rest) = more old.seen found (seen_by os) fs one.begins (found_begins os ns fs rest)

found_grows : (os ns : List Part) (fs : List (Tale Record)) → AreFoundBy os ns fs → FollowEach fs (seen_by ns)
found_grows _ _ _ visits.none = none
found_grows _ _ _ (visits.more old new found os ns fs one rest) = more found new.seen fs (seen_by ns) one.grows (found_grows os ns fs rest)

-- what its passes see tells it
pub asked_beside : (old new : Seats) (now : ℕ) (ask : Ask) (told : Said) → Visited old new now ask told → IsAskedBeside (seen_in old) (seen_in new) now ask told.reply
asked_beside old new now ask told v = record {
  found = v.found;
  begins = record { records = v.records.begins; parts = found_begins old.parts new.parts v.found.parts v.parts };
  grows = record { records = v.records.grows; parts = found_grows old.parts new.parts v.found.parts v.parts };
  once = v.once;
}

-- ---- passes that are joined

joined_faults : {K : Type 0} (before other after : Standing Record K) → Joins before other after → after.seen.faults ≡ max before.seen.faults other.seen.faults
joined_faults before other after j = ap (λ (t : Tale Record). t.faults) j.seen

first_follows : {K : Type 0} (before other after : Standing Record K) → Joins before other after → Follows before.seen after.seen
first_follows before other after j = record { begins = joined-first before other after j; faults = omega (arith, joined_faults before other after j) }

second_follows : {K : Type 0} (before other after : Standing Record K) → Joins before other after → Follows other.seen after.seen
second_follows before other after j = record { begins = joined-second before other after j; faults = omega (arith, joined_faults before other after j) }

-- each of two lists of as many passes
each_of : (ps qs : List Part) → length qs ≡ length ps → ((k : ℕ) (p q : Part) → slice_get ps k ≡ Some p → slice_get qs k ≡ Some q → Follows p.seen q.seen) → FollowEach (seen_by ps) (seen_by qs)
each_of [] [] long each = none
each_of [] (q ∷ qs) long each = absurd (omega (arith, long))
each_of (p ∷ ps) [] long each = absurd (omega (arith, long))
each_of (p ∷ ps) (q ∷ qs) long each = more p.seen q.seen (seen_by ps) (seen_by qs) (each zero p q refl refl) (each_of ps qs (omega (arith, long)) (λ k x y at there. each (suc k) x y at there))

module _ (before other after : Seats) (j : JoinsAll before other after) (many : length other.parts ≡ length before.parts) where
  first_there : (k : ℕ) (p q : Part) → slice_get before.parts k ≡ Some p → slice_get after.parts k ≡ Some q → Follows p.seen q.seen
  first_there k p q at there =
      let within = slice_get_within before.parts k p at in
      let o = within_there other.parts k (omega (arith, within, many)) in
      first_follows p o.0 q (j.parts.each k p o.0 q at o.1 there)

  second_there : (k : ℕ) (o q : Part) → slice_get other.parts k ≡ Some o → slice_get after.parts k ≡ Some q → Follows o.seen q.seen
  second_there k o q at there =
      let within = slice_get_within other.parts k o at in
      let p = within_there before.parts k (omega (arith, within, many)) in
      second_follows p.0 o q (j.parts.each k p.0 o q p.1 at there)

  -- the passes see then what each of the two had seen
  pub first_joined : FollowAll (seen_in before) (seen_in after)
  first_joined = record { records = first_follows before.records other.records after.records j.records; parts = each_of before.parts after.parts j.parts.count first_there }

  pub second_joined : FollowAll (seen_in other) (seen_in after)
  second_joined = record { records = second_follows before.records other.records after.records j.records; parts = each_of other.parts after.parts (let count = j.parts.count in omega (arith, count, many)) second_there }

-- ---- passes that are split

seen_mapped : (ps : List Part) (f : Part → Part) → ((p : Part) → (f p).seen ≡ p.seen) → seen_by (map f ps) ≡ seen_by ps
seen_mapped [] f same = refl
seen_mapped (p ∷ ps) f same = λ i. same p i ∷ seen_mapped ps f same i

pub seen_left : (p q g : Seats) → Splits p q g → seen_in q ≡ seen_in p
seen_left p q g so = λ i. record { records = (so.records i).seen; parts = (ap seen_by so.parts ∙ seen_mapped p.parts left_of (λ x. refl)) i }

pub seen_given : (p q g : Seats) → Splits p q g → seen_in g ≡ seen_in p
seen_given p q g so = λ i. record { records = (so.records_given i).seen; parts = (ap seen_by so.parts_given ∙ seen_mapped p.parts split_off (λ x. refl)) i }

-- ---- a school that is closed

closed_from : {K : Type 0} (faults : K → ℕ) (c : List Record) (n k : ℕ) (xs bs : List (Tale Record)) (ss : List (part.Keeping K)) → FollowEach xs bs → AreClosed faults c n k bs ss → AreClosed faults c n k xs ss
closed_from faults c n _ _ _ _ none (closing.none k) = closing.none k
closed_from faults c n _ _ _ _ (more a b xs bs one rest) (closing.more k _ s _ ss is others) =
    closing.more k a s xs ss (record { index_is = is.index_is; count_is = is.count_is; follows = follows_trans a b (tale_of s.held (faults s.keeper)) one is.follows; agree = is.agree }) (closed_from faults c n (k + 1) xs bs ss rest others)

-- its lists go on from whatever those seen go on from
pub closes_from : {K : Type 0} (faults : K → ℕ) (a b : Tellings) (s : School K) → FollowAll a b → Closes faults b s → Closes faults a s
closes_from faults a b s on is = record {
  records = follows_trans a.records b.records (tale_of s.catalog.held (faults s.catalog.keeper)) on.records is.records;
  parts = closed_from faults s.catalog.held.list (length s.parts) 0 a.parts b.parts s.parts on.parts is.parts;
}
