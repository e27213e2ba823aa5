-- Stations that were served, and the doors that they stand at.
use Rattle.std.proofs.Common.{◌≡◌, ⊎_elim, ℕ, suc, ◌+◌, ◌^◌, ◌<◌, ◌≤◌, List, [], ◌∷◌, ◌++◌, Some, length, length-append, map, refl, sym, ap, ◌∙◌, subst, append-nil, arith}
use Rattle.std.specs.Prelude.{Bool, true, false, Contains, MatchResult, Result, Ok, Err, drop, filter, slice_get, take}
use Rattle.std.proofs.Math.Seq.{drop-append_seam, take-length}
use Rattle.std.proofs.Math.ListN.{drop_of_length-le}
use Rattle.std.proofs.lemmas.List.{length-map}
use Rattle.std.proofs.lemmas.List.FromFn.{length-range_with_len}
use Rattle.std.proofs.lemmas.Option.{slice_get-map, slice_get_within}
use Rattle.qz_doors.specs.declared.door.DoorEnd.{DoorEnd}
use Rattle.qz_doors.specs.Doors.{Entrance, ServesDoor, ServesInTurn}
use Rattle.qz_doors.specs.Doors as turns
use Rattle.qz_doors.specs.Links.{Peer}
use Rattle.qz_http.specs.declared.items.LinkEnd.{LinkEnd}
use Rattle.qz_serial.proofs.Seats.{within_there}
use Rattle.qz_catalog.specs.Keeping as records
use Rattle.qz_school.specs.Solos.{IsSolo, School, school_of}
use Rattle.qz_shard.specs.Keeping as part
use Rattle.qz_regrading.specs.Loops.{HasRisenBy}
use Rattle.qz_terms.specs.declared.ask.Ask.{Ask}
use Rattle.qz_terms.specs.declared.reply.Reply.{Reply}
use Rattle.qz_turn.specs.Rule.{HasEvery, below}
use Rattle.qz_visit.specs.Closing.{ArePasses, Closes, HasGrownBy, HaveEvery}
use Rattle.qz_visit.specs.Holding.{GoesOn}
use Rattle.qz_visit.specs.Opening.{Opens, told_by}
use Rattle.qz_visit.specs.Seeing.{FollowAll}
use Rattle.qz_visit.specs.Visits.{Locks, Seats, Tellings, Visitor, seen_in}
use Rattle.qz_visit.proofs.Holding.{every_held, from_map, goes_self, holds_on, holds_opened, seats_opened}
use Rattle.qz_visit.proofs.Opened.{has_below}
use Rattle.qz_visit.proofs.Seeing.{all_on, closes_from}
use Rattle.qz_stations.specs.Noting.{StartsFrom}
use Rattle.qz_stations.specs.Posts.{AreAmong, AreEach, AreManned, HasGoneOn, HasRegraded, HoldTheirs, HoldsEvery, IsCounted, IsHeldBy, IsServed, NoneTurned, PutsAlso, ServesFirst, TakesIn, TakesUp, passes_of}
use Rattle.qz_stations.specs.Stations.{AreUnturned, GrowsWith, Post, RegradesBeside, RegradesOnce, Serving, ServesAt, ServesBeside, ServesCrew, all_ends, at_place, end_of, fault_replies, faults_told, no_end}
use Rattle.qz_stations.proofs.Lists.{get_longer}
use Rattle.qz_stations.proofs.Putting.{grown_with, puts_all, puts_both, puts_from}
use Rattle.qz_stations.proofs.TakingUp.{hold_theirs}

-- ---- how a door ended

many_ends : {L S : Type 0} (asks : S → S → Ask → Reply → Type 0) (peer : L → Peer) (a b : S) (links back : List L) (ends : List LinkEnd) → ServesInTurn asks peer a links back ends b → length ends ≡ length links
many_ends asks peer a _ _ _ _ (turns.none _) = refl
many_ends asks peer a b _ _ _ (turns.one _ m _ link served why links back ends is rest) = ap suc (many_ends asks peer m b links back ends rest)

few_filtered : {A : Type 0} (test : A → Bool) (xs : List A) → length (filter test xs) ≤ length xs
few_filtered test [] = omega arith
few_filtered test (x ∷ xs) = by (test x) refl (few_filtered test xs)
  where
    by : (b : Bool) → test x ≡ b → length (filter test xs) ≤ length xs → length (filter test (x ∷ xs)) ≤ length (x ∷ xs)
    by true is rest = rw is (omega (arith, rest))
    by false is rest = rw is (omega (arith, rest))

pub counted_door : {L S : Type 0} (asks : S → S → Ask → Reply → Type 0) (peer : L → Peer) (most : ℕ) (old new : Entrance L) (a b : S) (end : DoorEnd) → most < 2 ^ 32 → ServesDoor asks peer most old new a b end → IsCounted end
counted_door asks peer most old new a b end few d = record {
  taken = let within = d.within in omega (arith, within, few);
  short = let count = d.count in let short = d.short in let many = many_ends asks peer a b d.links d.back d.ends d.served in let less = few_filtered turns.is_short d.ends in omega (arith, count, short, many, less);
}

-- ---- stations that were taken up

-- a number among these is among those
pub among_on : (xs ys zs : List ℕ) → AreAmong xs ys → AreAmong ys zs → AreAmong xs zs
among_on xs ys zs one other = record { each = λ n there. other.each n (one.each n there) }

pub every_among : (count : ℕ) (xs ys : List ℕ) → HasEvery count xs → AreAmong xs ys → HasEvery count ys
every_among count xs ys every among = record { number = λ n within. among.each n (every.number n within) }

holds-after : (s : Locks) (p q : Visitor) → HoldTheirs s p.passes → GoesOn p q → HoldTheirs s q.passes
holds-after s p q holds goes = hold_theirs s p.passes.records.numbers q.passes (holds_on s p.passes.records.numbers p.passes q.passes holds goes.passes)

module _ {P : Type 0} (s : Locks) (told : Tellings) (numbers : List ℕ) (old rest : List P) (passes : Seats) (taken : List (Post P)) (so : TakesUp s told numbers old rest passes taken) where
  -- where memory was short, before any was served
  pub manned_taken : length taken < 2 ^ 32 → AreManned s passes taken
  manned_taken small = record {
    manned = λ k p at. let is = so.taken k p at in record { holds = is.holds; counted = subst IsCounted (sym is.fresh) record { taken = omega arith; short = omega arith } };
    few = small;
    own = so.own;
  }

  pub back_taken : (last : Seats) → TakesIn s passes last taken → AreAmong numbers last.records.numbers
  back_taken last takes = record { each = λ n there. ⊎_elim (λ kept. takes.kept.each n kept) (λ held. takes.given n held) (so.dealt.each n there) }

  pub places_back : (new : List P) → new ≡ map at_place taken ++ rest → new ≡ old
  places_back new is = is ∙ sym so.places

  module _ (Does : Post P → Post P → Type 0) (left : List (Post P)) (did : AreEach Does taken left) where
    -- the station as it was taken up
    pub was : (k : ℕ) (q : Post P) → slice_get left k ≡ Some q → (p : Post P) × ((slice_get taken k ≡ Some p) × Does p q)
    was k q at =
        let within = slice_get_within left k q at in
        let long = did.count in
        let p = within_there taken k (omega (arith, within, long)) in
        (p.0, (p.1, did.each k p.0 q p.1 at))

    pub manned_served : length taken < 2 ^ 32 → ((p q : Post P) → Does p q → GoesOn p.visit q.visit) → ((p q : Post P) → p.end ≡ no_end → Does p q → IsCounted q.end) → (now : Seats) → HoldTheirs s now → AreManned s now left
    manned_served small goes counted now own = record {
      manned = λ k q at.
          let p = was k q at in
          let is = so.taken k p.0 p.1.0 in
          record { holds = holds-after s p.0.visit q.visit is.holds (goes p.0 q p.1.1); counted = counted p.0 q is.fresh p.1.1 };
      few = let long = did.count in omega (arith, small, long);
      own = own;
    }

    held-after : ((p q : Post P) → Does p q → GoesOn p.visit q.visit) → (n : ℕ) → IsHeldBy taken n → IsHeldBy left n
    held-after goes n h =
        let within = slice_get_within taken h.place h.post h.there in
        let long = did.count in
        let q = within_there left h.place (omega (arith, within, long)) in
        record {
          place = h.place;
          post = q.0;
          there = q.1;
          number = subst (λ (l : List ℕ). Contains l n) (sym (goes h.post q.0 (did.each h.place h.post q.0 h.there q.1)).passes.records.numbers) h.number;
        }

    pub back_served : ((p q : Post P) → Does p q → GoesOn p.visit q.visit) → (now last : Seats) → AreAmong passes.records.numbers now.records.numbers → TakesIn s now last left → AreAmong numbers last.records.numbers
    back_served goes now last among takes = record {
      each = λ n there. ⊎_elim (λ kept. takes.kept.each n (among.each n kept)) (λ held. takes.given n (held-after goes n held)) (so.dealt.each n there);
    }

-- ---- those that regrade

pub same-there : {A : Type 0} (xs : List A) (k : ℕ) (x y : A) → slice_get xs k ≡ Some x → slice_get xs k ≡ Some y → x ≡ y
same-there xs k x y at there = cc

-- where nobody was served yet
pub none_regraded : {C : Type 0} (rs : List (Post C)) → AreEach HasGoneOn rs rs
none_regraded rs = record {
  count = refl;
  each = λ k p q at there. subst (HasGoneOn p) (same-there rs k p q at there) (record { goes_on = goes_self p.visit; end = refl });
}

pub gone_on_each : {C : Type 0} (tells : C → ℕ → C → Type 0) (old new : List (Post C)) → AreEach (HasRegraded tells) old new → AreEach HasGoneOn old new
gone_on_each tells old new are = record { count = are.count; each = λ k p q at there. (are.each k p q at there).gone_on }

pub goes_regraded : {C : Type 0} (p q : Post C) → HasGoneOn p q → GoesOn p.visit q.visit
goes_regraded p q did = did.goes_on

pub counted_regraded : {C : Type 0} (p q : Post C) → p.end ≡ no_end → HasGoneOn p q → IsCounted q.end
counted_regraded p q fresh did = subst IsCounted (sym (did.end ∙ fresh)) record { taken = omega arith; short = omega arith }

-- each of those that were taken up regraded, for what its passes saw
module _ {C : Type 0} (tells : C → ℕ → C → Type 0) (s : Locks) (told : Tellings) (numbers : List ℕ) (old rest : List C) (passes : Seats) (taken left : List (Post C)) (so : TakesUp s told numbers old rest passes taken) (fresh : NoneTurned passes taken) (did : AreEach (HasRegraded tells) taken left) (first last : Seats) (takes : TakesIn s first last left) where
  pub regraded_at : (k : ℕ) (q : Post C) → slice_get left k ≡ Some q → RegradesOnce tells told (λ seen. FollowAll seen (seen_in last)) (passes_of q)
  regraded_at k q at =
      let p = was s told numbers old rest passes taken so (HasRegraded tells) left did k q at in
      let is = p.1.1 in
      record {
        clock = p.0.place;
        ticked = q.place;
        first = p.0.visit.passes;
        told_is = (so.taken k p.0 p.1.0).seen;
        unturned = fresh.each k p.0 p.1.0;
        end = is.loop;
        regrades = is.regrades;
        kept = takes.each k q at;
      }

  abbrev pub regraded_beside : (count : ℕ) → length taken ≡ count → RegradesBeside tells told (λ seen. FollowAll seen (seen_in last)) count
  regraded_beside count all = record {
    lasts = map passes_of left;
    lasts_are = length-map left passes_of ∙ did.count ∙ all;
    each = λ k p there. let q = from_map passes_of left k p there in subst (RegradesOnce tells told (λ seen. FollowAll seen (seen_in last))) (sym q.1.1) (regraded_at k q.0 q.1.0);
  }

abbrev pub regraded_kept : {C : Type 0} (tells : C → ℕ → C → Type 0) (told : Tellings) (Kept Known : Tellings → Type 0) (count : ℕ) → ((t : Tellings) → Kept t → Known t) → RegradesBeside tells told Kept count → RegradesBeside tells told Known count
regraded_kept tells told Kept Known count to so = record {
  lasts = so.lasts;
  lasts_are = so.lasts_are;
  each = λ k p there. let is = so.each k p there in record { clock = is.clock; ticked = is.ticked; first = is.first; told_is = is.told_is; unturned = is.unturned; end = is.end; regrades = is.regrades; kept = to (seen_in p) is.kept };
}

-- ---- doors

-- a station's place is the one at its place
pub stands : {P : Type 0} (ps : List (Post P)) (rest places : List P) (k : ℕ) (p : Post P) → places ≡ map at_place ps ++ rest → slice_get ps k ≡ Some p → slice_get places k ≡ Some (at_place p)
stands ps rest places k p is at = subst (λ (l : List _). slice_get l k ≡ Some (at_place p)) (sym is) (get_longer (map at_place ps) rest k (at_place p) (slice_get-map at_place ps k ∙ rw at refl))

module _ {D C : Type 0} (s : Locks) (count : ℕ) (before : Seats) (numbers : List ℕ) (old rest : List (D × C)) (passes : Seats) (taken : List (Post (D × C))) (so : TakesUp s (seen_in before) numbers old rest passes taken) (fresh : NoneTurned passes taken) (serves : Serving D C) (left : List (Post (D × C))) (served : AreEach (IsServed serves) taken left) where
  -- all doors were served, each for what its passes saw
  pub first_served : (last : Seats) (new : List (D × C)) (end : DoorEnd) → length taken ≡ count → new ≡ map at_place left ++ rest → end ≡ all_ends (map (λ (p : Post (D × C)). p.end) left) → TakesIn s passes last left → AreUnturned before → PutsAlso passes last (map passes_of left)
      → ServesFirst serves before last count old new end
  first_served last new end all doors total takes unturned put = record {
    beside = record {
      ends = map (λ (p : Post (D × C)). p.end) left;
      count_is = length-map left (λ (p : Post (D × C)). p.end) ∙ served.count ∙ all;
      end_is = total;
      lasts = map passes_of left;
      lasts_are = length-map left passes_of ∙ served.count ∙ all;
      each = at_door;
      others = dropped left new doors (served.count ∙ all) ∙ sym (dropped taken old so.places all);
      as_many = counted left new doors ∙ ap (λ (n : ℕ). n + length rest) served.count ∙ sym (counted taken old so.places);
    };
    put = puts_from before passes last (map passes_of left) unturned fresh.own put;
  }
    where
      counted : (ps : List (Post (D × C))) (doors : List (D × C)) → doors ≡ map at_place ps ++ rest → length doors ≡ length ps + length rest
      counted ps doors is = ap (λ (l : List (D × C)). length l) is ∙ length-append (map at_place ps) rest ∙ ap (λ (n : ℕ). n + length rest) (length-map ps at_place)

      dropped : (ps : List (Post (D × C))) (doors : List (D × C)) → doors ≡ map at_place ps ++ rest → length ps ≡ count → drop count doors ≡ rest
      dropped ps doors is long = ap (λ (n : ℕ). drop n doors) (sym (length-map ps at_place ∙ long)) ∙ ap (λ (l : List (D × C)). drop (length (map at_place ps)) l) is ∙ drop-append_seam (map at_place ps) rest

      at-post : (k : ℕ) (q : Post (D × C)) → slice_get left k ≡ Some q → ServesAt serves (seen_in before) (λ seen. FollowAll seen (seen_in last)) old new k q.end (passes_of q)
      at-post k q at =
          let p = was s (seen_in before) numbers old rest passes taken so (IsServed serves) left served k q at in
          let is = so.taken k p.0 p.1.0 in
          record {
            door = p.0.place.0;
            served = q.place.0;
            clock = p.0.place.1;
            ticked = q.place.1;
            first = p.0.visit.passes;
            told_is = is.seen;
            unturned = fresh.each k p.0 p.1.0;
            before = stands taken rest old k p.0 so.places p.1.0;
            after = stands left rest new k q doors at;
            going = p.1.1.going;
            as_often = subst (λ (t : Tellings). HasRisenBy (faults_told t) (fault_replies (serves.replies p.1.1.going)) (faults_told (seen_in q.visit.passes))) is.seen p.1.1.as_often;
            kept = takes.each k q at;
          }

      at_door : (k : ℕ) (e : DoorEnd) (p : Seats) → slice_get (map (λ (x : Post (D × C)). x.end) left) k ≡ Some e → slice_get (map passes_of left) k ≡ Some p → ServesAt serves (seen_in before) (λ seen. FollowAll seen (seen_in last)) old new k e p
      at_door k e p at there =
          let q = from_map (λ (x : Post (D × C)). x.end) left k e at in
          let r = from_map passes_of left k p there in
          let same : r.0 ≡ q.0 = same-there left k r.0 q.0 r.1.0 q.1.0 in
          subst (λ (x : DoorEnd). ServesAt serves (seen_in before) (λ seen. FollowAll seen (seen_in last)) old new k x p) (sym q.1.1) (subst (λ (x : Seats). ServesAt serves (seen_in before) (λ seen. FollowAll seen (seen_in last)) old new k q.0.end x) (sym (r.1.1 ∙ ap passes_of same)) (at-post k q.0 q.1.0))

-- ---- the others beside them

-- of what the passes that were left have seen more is known, and as much was seen before as some other tells
abbrev pub beside_kept : {D C : Type 0} (serves : Serving D C) (told other : Tellings) (Kept Known : Tellings → Type 0) (count : ℕ) (old new : List (D × C)) (end : DoorEnd) → told ≡ other → ((t : Tellings) → Kept t → Known t)
    → ServesBeside serves told Kept count old new end → ServesBeside serves other Known count old new end
beside_kept serves told other Kept Known count old new end same to so = record {
  ends = so.ends;
  count_is = so.count_is;
  end_is = so.end_is;
  lasts = so.lasts;
  lasts_are = so.lasts_are;
  each = λ k e p at there.
      let is = so.each k e p at there in
      record {
        door = is.door;
        served = is.served;
        clock = is.clock;
        ticked = is.ticked;
        first = is.first;
        told_is = is.told_is ∙ same;
        unturned = is.unturned;
        before = is.before;
        after = is.after;
        going = is.going;
        as_often = subst (λ (t : Tellings). HasRisenBy (faults_told t) (fault_replies (serves.replies is.going)) (faults_told (seen_in p))) same is.as_often;
        kept = to (seen_in p) is.kept;
      };
  others = so.others;
  as_many = so.as_many;
}

-- doors were served and others regraded, with passes that are joined again
pub crew_served : {D C : Type 0} (serves : Serving D C) (s : Locks) (workers regraders : ℕ) (before mid now last : Seats) (numbers : List ℕ) (clocks rest : List C) (taken left : List (Post C)) (old new : List (D × C)) (end : DoorEnd)
    → TakesUp s (seen_in before) numbers clocks rest mid taken → NoneTurned mid taken → AreUnturned before → AreEach (HasRegraded serves.tells) taken left → length taken ≡ regraders → TakesIn s now last left → PutsAlso now last (map passes_of left)
    → ServesFirst serves mid now workers old new end → ServesCrew serves (seen_in before) (λ seen. FollowAll seen (seen_in last)) (PutsAlso before last) workers regraders old new end
crew_served serves s workers regraders before mid now last numbers clocks rest taken left old new end so fresh unturned did all takes put first = record {
  beside = beside_kept serves (seen_in mid) (seen_in before) (λ seen. FollowAll seen (seen_in now)) (λ seen. FollowAll seen (seen_in last)) workers old new end so.seen (λ t on. all_on t (seen_in now) (seen_in last) on takes.follows) first.beside;
  regraded = regraded_beside serves.tells s (seen_in before) numbers clocks rest mid taken left so fresh did now last takes regraders all;
  put = puts_both before now last first.beside.lasts (map passes_of left) (puts_from before mid now first.beside.lasts unturned fresh.own first.put) put;
}

-- for what some other tells that was seen before
pub crew_told : {D C : Type 0} (serves : Serving D C) (told other : Tellings) (Kept : Tellings → Type 0) (Put : List Seats → Type 0) (workers regraders : ℕ) (old new : List (D × C)) (end : DoorEnd) → told ≡ other → ServesCrew serves told Kept Put workers regraders old new end → ServesCrew serves other Kept Put workers regraders old new end
crew_told serves told other Kept Put workers regraders old new end same crew = subst (λ (t : Tellings). ServesCrew serves t Kept Put workers regraders old new end) same crew

-- and the school is closed
pub crew_closed : {K D C : Type 0} (faults : K → ℕ) (serves : Serving D C) (told : Tellings) (s : Locks) (a b : School K) (workers regraders : ℕ) (before last : Seats) (old new : List (D × C)) (end : DoorEnd) → AreUnturned before → StartsFrom s a → ArePasses s last → Closes faults (seen_in last) b → HasGrownBy s last b
    → ServesCrew serves told (λ seen. FollowAll seen (seen_in last)) (PutsAlso before last) workers regraders old new end
    → ServesCrew serves told (λ seen. Closes faults seen b) (λ all. GrowsWith all a b) workers regraders old new end
crew_closed faults serves told s a b workers regraders before last old new end unturned starts own closed grown crew =
    let to : (t : Tellings) → FollowAll t (seen_in last) → Closes faults t b = λ t on. closes_from faults t (seen_in last) b on closed in
    record {
      beside = beside_kept serves told told (λ seen. FollowAll seen (seen_in last)) (λ seen. Closes faults seen b) workers old new end refl to crew.beside;
      regraded = regraded_kept serves.tells told (λ seen. FollowAll seen (seen_in last)) (λ seen. Closes faults seen b) regraders to crew.regraded;
      put = let all = crew.beside.lasts ++ crew.regraded.lasts in grown_with s a b last all starts own grown (puts_all before last all unturned crew.put);
    }

-- ---- a school that is opened and closed

module _ {K : Type 0} (faults : K → ℕ) (seats : ℕ) (a : School K) (s : Locks) (p : Seats) (o : Opens faults seats a s p) where
  pub opened_every : IsSolo a.catalog a.parts → HoldsEvery s p
  opened_every solo =
      let held = holds_opened faults seats a s p solo o in
      record { own = hold_theirs s (below seats) p held; every = subst (λ (n : ℕ). HasEvery n p.records.numbers) (sym o.seats_are) (subst (HasEvery seats) (sym held.records.numbers_are) (has_below seats)) }

  pub opened_many : IsSolo a.catalog a.parts → length p.records.numbers ≡ seats
  opened_many solo = ap length (holds_opened faults seats a s p solo o).records.numbers_are ∙ length-range_with_len 0 seats

  pub closed_every : (last : Seats) → HoldsEvery s last → HaveEvery s last
  closed_every last all = every_held s seats last.records.numbers last (seats_opened faults seats a s p o) (subst (λ (n : ℕ). HasEvery n last.records.numbers) o.seats_are all.every) all.own

-- ---- what was told first

pub told_opened : {K : Type 0} (faults : K → ℕ) (seats : ℕ) (a : School K) (s : Locks) (p : Seats) → Opens faults seats a s p → seen_in p ≡ told_by faults a
told_opened faults seats a s p o = λ i. record { records = (o.records i).seen; parts = o.parts.seen i }

-- of a school that was taken apart
pub told_whole : {K : Type 0} (faults : K → ℕ) (seats : ℕ) (c : records.Keeping K) (ss : List (part.Keeping K)) (a : School K) (s : Locks) (p : Seats) → c ≡ a.catalog → ss ≡ a.parts → Opens faults seats (school_of c ss) s p → seen_in p ≡ told_by faults a
told_whole faults seats c ss a s p one other o = told_opened faults seats (school_of c ss) s p o ∙ (λ i. told_by faults (record { catalog = one i; parts = other i }))

pub closes_whole : {K : Type 0} (faults : K → ℕ) (c : records.Keeping K) (ss : List (part.Keeping K)) (a b : School K) → c ≡ a.catalog → ss ≡ a.parts → Closes faults (told_by faults (school_of c ss)) b → Closes faults (told_by faults a) b
closes_whole faults c ss a b one other is = subst (λ (t : Tellings). Closes faults t b) (λ i. told_by faults (record { catalog = one i; parts = other i })) is

pub match_mean : {A E : Type 0} (P Q : A → Type 0) (R : E → Type 0) (r : Result A E) → ((a : A) → P a → Q a) → MatchResult r P R → MatchResult r Q R
match_mean P Q R (Ok a) to is = to a is
match_mean P Q R (Err e) to is = is

-- of an end that came with notes
pub ended : {B E : Type 0} (P : DoorEnd → Type 0) (R : E → Type 0) (r : Result (DoorEnd × B) E) → MatchResult r (λ sat. P sat.0) R → MatchResult (end_of r) P R
ended P R (Ok sat) is = is
ended P R (Err e) is = is

-- ---- a list that was written over

pub written : {A : Type 0} (n : ℕ) (new old : List A) → length new ≡ length old → n ≡ length old → take n (new ++ drop (length new) old) ≡ new
written n new old same long =
    ap (λ (l : List _). take n (new ++ l)) (drop_of_length-le old (omega (arith, same))) ∙ ap (λ (l : List _). take n l) (append-nil new) ∙ ap (λ (k : ℕ). take k new) (omega (arith, same, long)) ∙ take-length new
