-- Visitors who serve links keep their seats, and what they have seen is seen once they have left.
use Rattle.std.proofs.Common.{◌≡◌, ⊎_elim, ℕ, ◌+◌, ◌^◌, ◌<◌, ◌≤◌, List, [], ◌∷◌, ◌++◌, Some, None, length, length-append, map, filter, slice_get, refl, sym, ap, ◌∙◌, subst, append-nil, arith}
use Rattle.std.proofs.Math.Logic.{∥∥₁_elim, ∥∥₁_map}
use Rattle.std.specs.Prelude.{Contains, option_map}
use Rattle.std.proofs.lemmas.List.{length-map, map-append, nil_from_length}
use Rattle.std.proofs.lemmas.Option.{slice_get-map, slice_get_within}
use Rattle.qz_asking.specs.Asking.{Answerer, Asks}
use Rattle.qz_doors.specs.declared.door.DoorEnd.{DoorEnd}
use Rattle.qz_doors.specs.Doors.{Entrance, ServesDoor, ServesInTurn, is_short}
use Rattle.qz_doors.specs.Links.{Peer}
use Rattle.qz_http.specs.declared.items.LinkEnd.{LinkEnd}
use Rattle.qz_polling.specs.Polling.{HaveSeats, ServesLinks, Visits, VisitorsServe, post_of, served_of, visitor_passes}
use Rattle.qz_polling.proofs.Sets.{StillSeated, still_prop}
use Rattle.qz_ready_doors.specs.declared.end.PollWhy.{PollWhy}
use Rattle.qz_ready_doors.specs.Halls.{ServesReady, all_free, answerer_of}
use Rattle.qz_ready_doors.specs.Runs.{ServesEach}
use Rattle.qz_ready_doors.proofs.RunLemmas.{serves_each}
use Rattle.qz_serial.proofs.Seats.{within_there}
use Rattle.qz_served.specs.declared.saying.Served.{Served}
use Rattle.qz_stations.specs.Posts.{AreAmong, AreManned, HoldTheirs, IsHeldBy, NoneTurned, PutsAlso, TakesIn, TakesUp, passes_of}
use Rattle.qz_stations.specs.Stations.{AreUnturned, Post, at_place, no_end}
use Rattle.qz_stations.proofs.Asking.{visit_served}
use Rattle.qz_stations.proofs.Leaving.{LeavesOn, last_manned, leaves_none, leaves_one, left_passes, left_put, popped}
use Rattle.qz_stations.proofs.Putting.{none_turned, still_unturned}
use Rattle.qz_stations.proofs.TakingUp.{hold_theirs, next_holds, takes_none, takes_one}
use Rattle.qz_visit.specs.Closing.{ArePasses, JoinsAll}
use Rattle.qz_visit.specs.Opening.{Splits}
use Rattle.qz_visit.specs.Holding.{GoesOn, Holds}
use Rattle.qz_visit.specs.Seeing.{FollowAll}
use Rattle.qz_visit.specs.Visits.{AreOf, Locks, Seats, Tellings, Visitor, seen_in}
use Rattle.qz_visit.proofs.Holding.{from_map, holds_given, holds_on, of_held, passes_held}

-- ---- a visitor's own links

-- a door of its own, at which so many links were given back
abbrev own_door : {L : Type 0} → ℕ → Entrance L
own_door n = record { left = None; returned = None; returns = n; out = 0; faults = 0 }

abbrev own_end : {L : Type 0} → List L → List LinkEnd → DoorEnd
own_end links ends = record { taken = length links; fault = Rattle.std.proofs.Common.false; short = length (filter is_short ends) }

alone : {L S : Type 0} (asks : S → S → Rattle.qz_terms.specs.declared.ask.Ask.Ask → Rattle.qz_terms.specs.declared.reply.Reply.Reply → Type 0) (peer : L → Peer) (a b : S) (links back : List L) (ends : List LinkEnd)
    → ServesInTurn asks peer a links back ends b → ServesDoor asks peer (length links) (own_door 0) (own_door (length links)) a b (own_end links ends)
alone asks peer a b links back ends turns = record {
  links = links;
  back = back;
  ends = ends;
  served = turns;
  taken = refl;
  returned = refl;
  returns = omega arith;
  out = refl;
  count = refl;
  within = omega arith;
  fewer = λ less. absurd (omega (arith, less));
  fault = λ is. absurd cc;
  short = refl;
  later = omega arith;
}

turns_go : {L C : Type 0} (tells : C → ℕ → C → Type 0) (peer : L → Peer) (a b : Answerer Visitor C) (links back : List L) (ends : List LinkEnd) → ServesInTurn (Asks tells Visits) peer a links back ends b → GoesOn a.desk b.desk
turns_go tells peer a b links back ends turns =
    (visit_served tells peer (λ x. x) (length links) (own_door 0) (own_door (length links)) a.clock b.clock (own_end links ends) no_end a.desk b.desk (alone (Asks tells Visits) peer a b links back ends turns)).goes_on

-- ---- a door that visitors served

module _ {L C : Type 0} (tells : C → ℕ → C → Type 0) (peer : L → Peer) (most : ℕ) (old new : Entrance L) (before after : List (Visitor × C)) (taken short : ℕ) (w : PollWhy) where
  module _ (so : ServesReady (Asks tells Visits) peer most (all_free old before) new after taken short w) where
    each : ServesEach (Asks tells Visits) peer old new (map answerer_of before) (map answerer_of after) taken short
    each = serves_each (Asks tells Visits) peer most old new before after taken short w so

    many : length after ≡ length before
    many = sym (length-map after answerer_of) ∙ each.as_many ∙ length-map before answerer_of

    goes : (k : ℕ) (p q : Visitor × C) → slice_get before k ≡ Some p → slice_get after k ≡ Some q → GoesOn p.0 q.0
    goes k p q here there =
        turns_go tells peer (answerer_of p) (answerer_of q) _ _ _
        (each.desks k (answerer_of p) (answerer_of q) (slice_get-map answerer_of before k ∙ ap (option_map answerer_of) here) (slice_get-map answerer_of after k ∙ ap (option_map answerer_of) there))

    serves_links : ServesLinks (Asks tells Visits) peer most old new (map answerer_of before) (map answerer_of after) taken short w
    serves_links = record { each = each; within = so.within; stops = so.stops; returns = so.returns; out = so.out }

    sits : (s : Locks) → ((k : ℕ) (p : Visitor × C) → slice_get before k ≡ Some p → HoldTheirs s p.0.passes) → StillSeated s before after
    sits s held = record {
      many = many;
      holds = λ k q there.
          let within = slice_get_within after k q there in
          let p = within_there before k (omega (arith, within, many)) in
          hold_theirs s p.0.0.passes.records.numbers q.0.passes (holds_on s p.0.0.passes.records.numbers p.0.0.passes q.0.passes (held k p.0 p.1) (goes k p.0 q p.1 there).passes);
      numbers = λ k p q here there. (goes k p q here there).passes.records.numbers;
    }

  pub sits_still : (s : Locks) → ((k : ℕ) (p : Visitor × C) → slice_get before k ≡ Some p → HoldTheirs s p.0.passes) → ∥ ServesReady (Asks tells Visits) peer most (all_free old before) new after taken short w ∥₁ → StillSeated s before after
  sits_still s held so = ∥∥₁_elim so (still_prop s before after) (λ x. sits x s held)

  pub links_served : ∥ ServesReady (Asks tells Visits) peer most (all_free old before) new after taken short w ∥₁ → ∥ ServesLinks (Asks tells Visits) peer most old new (map answerer_of before) (map answerer_of after) taken short w ∥₁
  links_served so = ∥∥₁_map so (λ x. serves_links x)

-- ---- seats

places_of : {C : Type 0} (pairs : List (Visitor × C)) → map at_place (map post_of pairs) ≡ map (λ x. x.1) pairs
places_of [] = refl
places_of (pair ∷ pairs) = ap (λ (l : List _). pair.1 ∷ l) (places_of pairs)

module _ {C : Type 0} (s : Locks) (told : Tellings) (numbers : List ℕ) (clocks left : List C) (passes : Seats) (before : List (Visitor × C)) (so : TakesUp s told numbers clocks left passes (map post_of before)) where
  post_at : (k : ℕ) (p : Visitor × C) → slice_get before k ≡ Some p → slice_get (map post_of before) k ≡ Some (post_of p)
  post_at k p at = slice_get-map post_of before k ∙ ap (option_map post_of) at

  pub held_before : (k : ℕ) (p : Visitor × C) → slice_get before k ≡ Some p → HoldTheirs s p.0.passes
  held_before k p at = (so.taken k (post_of p) (post_at k p at)).holds

  pub seen_before : (k : ℕ) (p : Visitor × C) → slice_get before k ≡ Some p → seen_in p.0.passes ≡ told
  seen_before k p at = (so.taken k (post_of p) (post_at k p at)).seen

  pub seats_left : length before + length left ≡ length clocks
  seats_left =
      let whole = ap length so.places in
      let both = length-append (map at_place (map post_of before)) left in
      let long = length-map (map post_of before) at_place in
      let longer = length-map before (post_of {C = C}) in
      omega (arith, whole, both, long, longer)

  pub few_seated : length (map (post_of {C = C}) before) ≤ length clocks
  few_seated =
      let whole = ap length so.places in
      let both = length-append (map at_place (map post_of before)) left in
      let long = length-map (map post_of before) at_place in
      omega (arith, whole, both, long)

  -- where each clock has its visitor
  pub all_seated : length before ≡ length clocks → clocks ≡ map (λ x. x.1) before
  all_seated same =
      let whole = ap length so.places in
      let both = length-append (map at_place (map post_of before)) left in
      let long = length-map (map post_of before) at_place in
      let longer = length-map before (post_of {C = C}) in
      let none : left ≡ [] = nil_from_length left (omega (arith, whole, both, long, longer, same)) in
      so.places ∙ ap (λ (l : List C). map at_place (map post_of before) ++ l) none ∙ append-nil (map at_place (map post_of before)) ∙ places_of before

  module _ (after : List (Visitor × C)) (sits : StillSeated s before after) where
    pub manned_after : length before < 2 ^ 32 → AreManned s passes (map post_of after)
    manned_after few = record {
      manned = λ k x there.
          let q = from_map post_of after k x there in
          record { holds = subst (λ (v : Post C). HoldTheirs s v.visit.passes) (sym q.1.1) (sits.holds k q.0 q.1.0); counted = subst (λ (v : Post C). Rattle.qz_stations.specs.Posts.IsCounted v.end) (sym q.1.1) record { taken = omega arith; short = omega arith } };
      few = let long = length-map after (post_of {C = C}) in let many = sits.many in omega (arith, few, long, many);
      own = so.own;
    }

    held_after : (n : ℕ) → IsHeldBy (map post_of before) n → IsHeldBy (map post_of after) n
    held_after n h =
        let p = from_map post_of before h.place h.post h.there in
        let within = slice_get_within before h.place p.0 p.1.0 in
        let many = sits.many in
        let q = within_there after h.place (omega (arith, within, many)) in
        record {
          place = h.place;
          post = post_of q.0;
          there = slice_get-map post_of after h.place ∙ ap (option_map post_of) q.1;
          number = subst (λ (l : List ℕ). Contains l n) (sym (sits.numbers h.place p.0 q.0 p.1.0 q.1)) (subst (λ (v : Post C). Contains v.visit.passes.records.numbers n) p.1.1 h.number);
        }

    pub back_after : (last : Seats) → TakesIn s passes last (map post_of after) → AreAmong numbers last.records.numbers
    back_after last takes = record { each = λ n there. ⊎_elim (λ kept. takes.kept.each n kept) (λ held. takes.given n (held_after n held)) (so.dealt.each n there) }

    pub seen_after : (last : Seats) → TakesIn s passes last (map post_of after) → (k : ℕ) (q : Visitor × C) → slice_get after k ≡ Some q → FollowAll (seen_in q.0.passes) (seen_in last)
    seen_after last takes k q there = takes.each k (post_of q) (slice_get-map post_of after k ∙ ap (option_map post_of) there)

-- what is known of what visitors saw may be said otherwise
pub visitors_kept : {L C : Type 0} (tells : C → ℕ → C → Type 0) (peer : L → Peer) (most : ℕ) (clocks : List C) (old new : Entrance L) (told : Tellings) (Kept Known : Tellings → Type 0) (Put Grows : List Seats → Type 0) (end : Served) → ((t : Tellings) → Kept t → Known t) → ((ps : List Seats) → Put ps → Grows ps)
    → VisitorsServe tells peer most clocks old new told Kept Put end → VisitorsServe tells peer most clocks old new told Known Grows end
visitors_kept tells peer most clocks old new told Kept Known Put Grows end to grows so = record {
  taken = so.taken;
  short = so.short;
  w = so.w;
  befores = so.befores;
  afters = so.afters;
  clocks_are = so.clocks_are;
  first = so.first;
  unturned = so.unturned;
  serves = so.serves;
  end_is = so.end_is;
  kept = λ k x there. to (seen_in x.0.passes) (so.kept k x there);
  put = grows (map visitor_passes so.afters) so.put;
}

-- ---- seats that are taken, one after the other

pub takes_first : {C : Type 0} (s : Locks) (clocks now : List C) (passes : Seats) (pairs : List (Visitor × C)) → pairs ≡ [] → now ≡ clocks → HoldTheirs s passes → TakesUp s (seen_in passes) passes.records.numbers clocks now passes (map post_of pairs)
takes_first s clocks now passes pairs none same holds =
    subst (λ (l : List _). TakesUp s (seen_in passes) passes.records.numbers clocks l passes (map post_of pairs)) (sym same) (takes_none s clocks passes (map post_of pairs) (ap (map post_of) none) holds)

module _ {C : Type 0} (s : Locks) (told : Tellings) (numbers : List ℕ) (clocks now : List C) (passes : Seats) (pairs : List (Visitor × C)) (so : TakesUp s told numbers clocks now passes (map post_of pairs)) (some : length pairs < length numbers) where
  some-post : length (map (post_of {C = C}) pairs) < length numbers
  some-post = let long = length-map pairs (post_of {C = C}) in omega (arith, some, long)

  -- the passes that are given next have a number
  pub given_right : (after given : Seats) → Splits passes after given → AreOf s given
  given_right after given splits =
      let next = next_holds s told numbers clocks now passes (map post_of pairs) so some-post in
      of_held s _ [] given (holds_given s _ _ passes after given next splits)

  pub takes_next : (rest : List C) (after given : Seats) (longer : List (Visitor × C)) (p : Visitor × C) → now ≡ p.1 ∷ rest → Splits passes after given → p.0.passes ≡ given → longer ≡ pairs ++ p ∷ [] → TakesUp s told numbers clocks rest after (map post_of longer)
  takes_next rest after given longer p first splits visit is =
      takes_one s told numbers clocks now passes (map post_of pairs) so some-post rest after given (map post_of longer) p.1 (post_of p) first splits refl visit (ap (map post_of) is ∙ map-append post_of pairs (p ∷ []))

pub unturned_first : {C : Type 0} (passes : Seats) (pairs : List (Visitor × C)) → pairs ≡ [] → AreUnturned passes → NoneTurned passes (map post_of pairs)
unturned_first passes pairs none are = none_turned passes (map post_of pairs) (ap (map post_of) none) are

pub unturned_next : {C : Type 0} (passes after given : Seats) (pairs longer : List (Visitor × C)) (p : Visitor × C) → NoneTurned passes (map post_of pairs) → Splits passes after given → p.0.passes ≡ given → longer ≡ pairs ++ p ∷ [] → NoneTurned after (map post_of longer)
unturned_next passes after given pairs longer p so splits visit is = still_unturned passes after given (map post_of pairs) (map post_of longer) (post_of p) so splits visit (ap (map post_of) is ∙ map-append post_of pairs (p ∷ []))

pub unturned_seat : {C : Type 0} (passes : Seats) (pairs : List (Visitor × C)) → NoneTurned passes (map post_of pairs) → (k : ℕ) (p : Visitor × C) → slice_get pairs k ≡ Some p → AreUnturned p.0.passes
unturned_seat passes pairs so k p at = so.each k (post_of p) (slice_get-map post_of pairs k ∙ ap (option_map post_of) at)

-- ---- seats that are left, the last one first

-- the visitors behind those that are left have left
pub record LeavesNext {C : Type 0} (s : Locks) (first now : Seats) (all left : List (Visitor × C)) : Type 0 where
  pub places : List C
  pub so : LeavesOn s first now (map post_of all) (map post_of left) [] places no_end

pub leaves_first : {C : Type 0} (s : Locks) (first : Seats) (all : List (Visitor × C)) → AreManned s first (map post_of all) → LeavesNext s first first all all
leaves_first s first all manned = record { places = []; so = leaves_none s first (map post_of all) [] no_end refl manned }

module _ {C : Type 0} (s : Locks) (first now : Seats) (all left rest : List (Visitor × C)) (p : Visitor × C) (is : left ≡ rest ++ p ∷ []) (so : LeavesNext s first now all left) where
  next-left : LeavesOn s first now (map post_of all) (map post_of rest ++ post_of p ∷ []) [] so.places no_end
  next-left = popped s first now (map post_of all) (map post_of left) (map post_of rest) (post_of p) [] so.places no_end (ap (map post_of) is ∙ map-append post_of rest (p ∷ [])) so.so

  pub last_right : ArePasses s p.0.passes
  last_right = passes_held s _ p.0.passes (last_manned s first now (map post_of all) (map post_of rest) (post_of p) [] so.places no_end next-left).holds

  pub leaves_last : (after : Seats) → JoinsAll now p.0.passes after → LeavesNext s first after all rest
  leaves_last after joins = record {
    places = p.1 ∷ so.places;
    so = leaves_one s first now (map post_of all) (map post_of rest) (post_of p) [] so.places no_end next-left after p.1 (p.1 ∷ so.places) no_end joins refl refl refl;
  }

pub leaves_done : {C : Type 0} (s : Locks) (first now : Seats) (all left : List (Visitor × C)) → left ≡ [] → LeavesNext s first now all left → TakesIn s first now (map post_of all)
leaves_done s first now all left none so =
    left_passes s first now (map post_of all) [] so.places no_end (subst (λ (l : List _). LeavesOn s first now (map post_of all) l [] so.places no_end) (ap (map post_of) none) so.so)

passes-of : {C : Type 0} (pairs : List (Visitor × C)) → map passes_of (map post_of pairs) ≡ map visitor_passes pairs
passes-of [] = refl
passes-of (pair ∷ pairs) = ap (λ (l : List Seats). pair.0.passes ∷ l) (passes-of pairs)

-- what was put by all of them came to the passes
pub puts_done : {C : Type 0} (s : Locks) (first now : Seats) (all left : List (Visitor × C)) → left ≡ [] → LeavesNext s first now all left → PutsAlso first now (map visitor_passes all)
puts_done s first now all left none so = subst (PutsAlso first now) (passes-of all)
    (left_put s first now (map post_of all) [] so.places no_end (subst (λ (l : List _). LeavesOn s first now (map post_of all) l [] so.places no_end) (ap (map post_of) none) so.so))
