-- What stays known of a door and the desks before it, step after step.
use Rattle.std.proofs.Common.{◌≡◌, inl, inr, ℕ, ◌+◌, ◌<◌, ◌≤◌, List, [], map, length, slice_get, slice_set, Option, Some, None, refl, sym, ap, ◌∙◌, subst, arith}
use Rattle.std.specs.List.{All, sum_by}
use Rattle.std.specs.Prelude.{IfSome, get_or}
use Rattle.std.proofs.Math.ListN.{length-map}
use Rattle.std.proofs.lemmas.Bool.{cases_lt}
use Rattle.std.proofs.lemmas.List.Elements.{All-map}
use Rattle.qz_outside.specs.Causes.{HasRisen}
use Rattle.qz_terms.specs.declared.ask.Ask.{Ask}
use Rattle.qz_terms.specs.declared.reply.Reply.{Reply}
use Rattle.qz_asking.specs.Asking.{Answerer}
use Rattle.qz_links.specs.Doors.{TakesNone}
use Rattle.qz_doors.specs.Doors.{Entrance, is_short, shorter}
use Rattle.qz_ready.specs.declared.ready_link.ReadyLink.{Ghosts}
use Rattle.qz_ready_doors.specs.declared.desks.Desks.{Desks}
use Rattle.qz_ready_doors.specs.declared.desks.Shut.{Shut}
use Rattle.qz_ready_doors.specs.declared.desks.Shut.TheVariants as shut
use Rattle.qz_ready_doors.specs.declared.end.PollWhy.{PollWhy}
use Rattle.qz_ready_doors.specs.declared.end.PollWhy.TheVariants as ends
use Rattle.qz_ready_doors.specs.declared.slot.Ended.{Ended}
use Rattle.qz_ready_doors.specs.declared.slot.Slot.{Slot}
use Rattle.qz_ready_doors.specs.declared.slot.Slot.TheVariants as slot
use Rattle.qz_ready_doors.specs.Halls.{Hall, Happens, Place, ServesReady, Stops, all_free, busy, ended, free, none, took, tried}
use Rattle.qz_ready_doors.specs.Kept.{EndsAtOnce, Gives, IsKept, IsShut, Takes, free_slot, peer_of}
use Rattle.qz_ready_doors.specs.Slots.{Declines, Frees, IsSlot, Opens, Stays, open_in, place_of}
use Rattle.qz_ready_doors.proofs.Places.{all_still, get_set, open_busy, open_free, open_same, none_open, open_within, opens, place_was, places, places_free, places_same, set_twice, shorter_most, within_old}

over_enough : ends.Over ≡ ends.Enough → ⊥
over_enough is = cc

fault_enough : ends.DoorFault ≡ ends.Enough → ⊥
fault_enough is = cc

memory_enough : ends.Memory ≡ ends.Enough → ⊥
memory_enough is = cc

fewer : (n most : ℕ) → (most ≤ n → ⊥) → n < most
fewer n most not_all = elim (cases_lt n most) [
  | inl less ↦ less
  | inr all ↦ absurd (not_all all)
]

stops_at_once : {L : Type 0} (most : ℕ) (why : PollWhy) (e f : Entrance L) → EndsAtOnce most why → Stops most e f 0 why
stops_at_once most ends.Over e f is = absurd is
stops_at_once most ends.Enough e f is = is
stops_at_once most ends.DoorFault e f is = absurd is
stops_at_once most ends.Memory e f is = is

shut_same : {L : Type 0} (old e f : Entrance L) (s : Option Shut) → f.left ≡ e.left → f.faults ≡ e.faults → IsShut old e s → IsShut old f s
shut_same old e f None left faults is = is
shut_same old e f (Some shut.Over) left faults is = subst (λ l. IfSome l (λ links. links ≡ [])) (sym left) is
shut_same old e f (Some shut.Fault) left faults is = subst (λ n. HasRisen old.faults n) (sym faults) is

shut_none : {L : Type 0} (old e : Entrance L) (s : Option Shut) → s ≡ None → IsShut old e s
shut_none old e None is = _
shut_none old e (Some s) is = absurd cc

-- nothing but the slots and the counts of links changes
pub record Counts {D L C K : Type 0} (old new : Desks D L C K) (links shorts : ℕ) : Type 0 where
  pub most : new.most ≡ old.most
  pub shut : new.shut ≡ old.shut
  pub taken : new.taken ≡ links
  pub short : new.short ≡ shorts

pub counts_as : {D L C K : Type 0} (old new target : Desks D L C K) → new ≡ target → target.most ≡ old.most → target.shut ≡ old.shut → Counts old new target.taken target.short
counts_as {D} {L} {C} {K} old new target is most shut = record {
  most = ap (λ (d : Desks D L C K). d.most) is ∙ most;
  shut = ap (λ (d : Desks D L C K). d.shut) is ∙ shut;
  taken = ap (λ (d : Desks D L C K). d.taken) is;
  short = ap (λ (d : Desks D L C K). d.short) is;
}

pub slots_as : {D L C K : Type 0} (new target : Desks D L C K) → new ≡ target → new.slots.items ≡ target.slots.items
slots_as {D} {L} {C} {K} new target is = ap (λ (d : Desks D L C K). d.slots.items) is

free_stands : {D L C : Type 0} (asks : Answerer D C → Answerer D C → Ask → Reply → Type 0) (g : Ghosts L) (y : Slot D L C) (b : Answerer D C) → place_of y ≡ free b → IsSlot asks g y
free_stands asks g (slot.Free desk clock) b is = _
free_stands asks g (slot.Open taken) b is = absurd cc

pub stays_same : {D L C : Type 0} (asks : Answerer D C → Answerer D C → Ask → Reply → Type 0) (g : Ghosts L) (x y : Slot D L C) → y ≡ x → IsSlot asks g x → Stays asks g x y
stays_same asks g x y is stands = record { same = ap place_of is; stands = subst (IsSlot asks g) (sym is) stands }

module _ {D L C K : Type 0} (asks : Answerer D C → Answerer D C → Ask → Reply → Type 0) (g : Ghosts L) (start : Hall L (Answerer D C)) where
  pub slot_in : (e : Entrance L) (d : Desks D L C K) (at : ℕ) (x : Slot D L C) → IsKept asks g start e d → at < length d.slots.items → x ≡ get_or d.slots.items at x → IsSlot asks g x
  slot_in e d at x k within is = subst (IsSlot asks g) (sym is) (k.slots at x within)

  -- there is room for one short link more
  pub room_freed : (e : Entrance L) (d : Desks D L C K) (at : ℕ) (x y : Slot D L C) (end : Ended L) → IsKept asks g start e d → slice_get d.slots.items at ≡ Some x → Frees asks g x y end → d.short < d.taken
  room_freed e d at x y end k was r = omega (arith, k.few, open_busy x r.link r.a r.was, open_within d.slots.items at x was)

  pub some_out : (e : Entrance L) (d : Desks D L C K) (at : ℕ) (x y : Slot D L C) (end : Ended L) → IsKept asks g start e d → slice_get d.slots.items at ≡ Some x → Frees asks g x y end → 0 < e.out
  some_out e d at x y end k was r = omega (arith, k.out, open_busy x r.link r.a r.was, open_within d.slots.items at x was)

  module _ (e : Entrance L) (old new : Desks D L C K) (at : ℕ) (x y : Slot D L C) (k : IsKept asks g start e old) (was : slice_get old.slots.items at ≡ Some x) (is : new.slots.items ≡ slice_set old.slots.items at y) where
    -- a link was taken to a desk
    pub kept_opened : (f : Entrance L) (link : L) → Opens asks g x y link → Takes e f link → old.shut ≡ None → old.taken < old.most → Counts old new (old.taken + 1) old.short → IsKept asks g start f new
    kept_opened f link o t unshut more c =
        let before = open_free x o.a o.was in
        let after = open_busy y link o.a o.now in
        let sums = opens old.slots.items new.slots.items at x y was is in
        record {
          happens = rw (c.taken, c.short) (took (record { entrance = e; places = map place_of old.slots.items }) (record { entrance = f; places = map place_of new.slots.items }) old.taken old.short k.happens (record {
            at = at;
            link = link;
            a = o.a;
            was_free = place_was old.slots.items new.slots.items at x y was is ∙ ap Some o.was;
            places = places old.slots.items new.slots.items at x y was is ∙ ap (slice_set (map place_of old.slots.items) at) o.now;
            left = t.next.first;
            returned = t.returned;
            returns = t.returns;
            out = t.next.one_more;
            later = t.later;
          }));
          slots = all_still old.slots.items new.slots.items at x y was is (IsSlot asks g) o.stands k.slots;
          within = omega (arith, more, c.taken, c.most);
          few = omega (arith, k.few, c.taken, c.short, before, after, sums);
          out = omega (arith, k.out, t.next.one_more, before, after, sums);
          returns = omega (arith, k.returns, t.returns, c.taken, before, after, sums);
          shut = shut_none start.entrance f new.shut (c.shut ∙ unshut);
          later = omega (arith, k.later, t.later);
        }

    -- a link was taken, and given back at once
    pub kept_declined : (f h : Entrance L) (link : L) (end : Ended L) → Declines asks g x y link end → Takes e f link → Gives f h end.link → old.shut ≡ None → old.taken < old.most
        → Counts old new (old.taken + 1) (shorter (is_short end.why) old.short) → IsKept asks g start h new
    kept_declined f h link end d t b unshut more c =
        let before = open_free x d.a d.was in
        let after = open_free y d.b d.now in
        let sums = opens old.slots.items new.slots.items at x y was is in
        let some = shorter_most (is_short end.why) old.short in
        let ps = map place_of old.slots.items in
        let mid : Hall L (Answerer D C) = record { entrance = f; places = slice_set ps at (busy link d.a) } in
        record {
          happens = rw (c.taken, c.short) (ended mid (record { entrance = h; places = map place_of new.slots.items }) (old.taken + 1) old.short end.why (took (record { entrance = e; places = ps }) mid old.taken old.short k.happens (record {
            at = at;
            link = link;
            a = d.a;
            was_free = place_was old.slots.items new.slots.items at x y was is ∙ ap Some d.was;
            places = refl;
            left = t.next.first;
            returned = t.returned;
            returns = t.returns;
            out = t.next.one_more;
            later = t.later;
          })) (record {
            at = at;
            link = link;
            served = end.link;
            a = d.a;
            b = d.b;
            was_busy = get_set ps at (busy link d.a) (omega (arith, within_old old.slots.items new.slots.items at x y was is, length-map old.slots.items place_of));
            ends = d.ends;
            places = places old.slots.items new.slots.items at x y was is ∙ ap (slice_set ps at) d.now ∙ sym (set_twice ps at (busy link d.a) (free d.b));
            left = b.left;
            returned = b.returned;
            returns = b.returns;
            out = b.out;
            faults = b.faults;
          }));
          slots = all_still old.slots.items new.slots.items at x y was is (IsSlot asks g) (free_stands asks g y d.b d.now) k.slots;
          within = omega (arith, more, c.taken, c.most);
          few = omega (arith, k.few, c.taken, c.short, some, before, after, sums);
          out = omega (arith, k.out, t.next.one_more, b.out, before, after, sums);
          returns = omega (arith, k.returns, t.returns, b.returns, c.taken, before, after, sums);
          shut = shut_none start.entrance h new.shut (c.shut ∙ unshut);
          later = omega (arith, k.later, t.later, b.faults);
        }

    -- a link has ended, and was given back
    pub kept_freed : (f : Entrance L) (end : Ended L) → Frees asks g x y end → Gives e f end.link → Counts old new old.taken (shorter (is_short end.why) old.short) → IsKept asks g start f new
    kept_freed f end r b c =
        let before = open_busy x r.link r.a r.was in
        let after = open_free y r.b r.now in
        let sums = opens old.slots.items new.slots.items at x y was is in
        let some = shorter_most (is_short end.why) old.short in
        let ps = map place_of old.slots.items in
        record {
          happens = rw (c.taken, c.short) (ended (record { entrance = e; places = ps }) (record { entrance = f; places = map place_of new.slots.items }) old.taken old.short end.why k.happens (record {
            at = at;
            link = r.link;
            served = end.link;
            a = r.a;
            b = r.b;
            was_busy = place_was old.slots.items new.slots.items at x y was is ∙ ap Some r.was;
            ends = r.ends;
            places = places old.slots.items new.slots.items at x y was is ∙ ap (slice_set ps at) r.now;
            left = b.left;
            returned = b.returned;
            returns = b.returns;
            out = b.out;
            faults = b.faults;
          }));
          slots = all_still old.slots.items new.slots.items at x y was is (IsSlot asks g) (free_stands asks g y r.b r.now) k.slots;
          within = omega (arith, k.within, c.taken, c.most);
          few = omega (arith, k.few, c.taken, c.short, some, before, after, sums);
          out = omega (arith, k.out, b.out, before, after, sums);
          returns = omega (arith, k.returns, b.returns, c.taken, before, after, sums);
          shut = shut_same start.entrance e f new.shut b.left b.faults (subst (IsShut start.entrance e) (sym c.shut) k.shut);
          later = omega (arith, k.later, b.faults);
        }

    -- a desk has the same link
    pub kept_stayed : Stays asks g x y → Counts old new old.taken old.short → IsKept asks g start e new
    kept_stayed s c =
        let same = open_same x y s.same in
        let sums = opens old.slots.items new.slots.items at x y was is in
        record {
          happens = rw (c.taken, c.short, places_same old.slots.items new.slots.items at x y was is s.same) k.happens;
          slots = all_still old.slots.items new.slots.items at x y was is (IsSlot asks g) s.stands k.slots;
          within = omega (arith, k.within, c.taken, c.most);
          few = omega (arith, k.few, c.taken, c.short, same, sums);
          out = omega (arith, k.out, same, sums);
          returns = omega (arith, k.returns, c.taken, same, sums);
          shut = subst (IsShut start.entrance e) (sym c.shut) k.shut;
          later = k.later;
        }

  module _ (e f : Entrance L) (old new : Desks D L C K) (k : IsKept asks g start e old) (none_taken : TakesNone e.left f.left e.out f.out) (returned : f.returned ≡ e.returned) (returns : f.returns ≡ e.returns) (later : e.faults ≤ f.faults) where
    -- the door was tried, and no link was there
    tried_once : Happens asks (peer_of g) start (record { entrance = f; places = map place_of old.slots.items }) old.taken old.short
    tried_once = tried (record { entrance = e; places = map place_of old.slots.items }) (record { entrance = f; places = map place_of old.slots.items }) old.taken old.short k.happens
        (record { left = none_taken.stays; returned = returned; returns = returns; out = none_taken.as_many; later = later }) refl

    kept_still : new ≡ record old { shut = new.shut } → IsShut start.entrance f new.shut → IsKept asks g start f new
    kept_still same is =
        let slots : new.slots ≡ old.slots = ap (λ (d : Desks D L C K). d.slots) same in
        let taken : new.taken ≡ old.taken = ap (λ (d : Desks D L C K). d.taken) same in
        let short : new.short ≡ old.short = ap (λ (d : Desks D L C K). d.short) same in
        let most : new.most ≡ old.most = ap (λ (d : Desks D L C K). d.most) same in
        record {
          happens = rw (slots, taken, short) tried_once;
          slots = rw slots k.slots;
          within = omega (arith, k.within, taken, most);
          few = rw (slots, taken, short) k.few;
          out = rw slots (none_taken.as_many ∙ k.out);
          returns = rw (slots, taken, returns) k.returns;
          shut = is;
          later = omega (arith, k.later, later);
        }

    pub kept_tried : new ≡ old → old.shut ≡ None → IsKept asks g start f new
    kept_tried same unshut = kept_still (subst (λ (d : Desks D L C K). d ≡ record old { shut = d.shut }) (sym same) refl) (shut_none start.entrance f new.shut (ap (λ (d : Desks D L C K). d.shut) same ∙ unshut))

    -- none is left
    pub kept_over : new ≡ record old { shut = Some shut.Over } → IfSome e.left (λ left. left ≡ []) → IsKept asks g start f new
    kept_over same empty = kept_still (subst (λ (d : Desks D L C K). d ≡ record old { shut = d.shut }) (sym same) refl)
        (subst (IsShut start.entrance f) (sym (ap (λ (d : Desks D L C K). d.shut) same)) (subst (λ l. IfSome l (λ left. left ≡ [])) (sym none_taken.stays) empty))

    -- the door failed
    pub kept_failed : new ≡ record old { shut = Some shut.Fault } → HasRisen e.faults f.faults → IsKept asks g start f new
    kept_failed same risen = kept_still (subst (λ (d : Desks D L C K). d ≡ record old { shut = d.shut }) (sym same) refl)
        (subst (IsShut start.entrance f) (sym (ap (λ (d : Desks D L C K). d.shut) same)) (λ below. omega (arith, k.later, risen below)))

  -- ---- the beginning and the end

  pub kept_start : (e : Entrance L) (desks : Desks D L C K) (seats : List (D × C)) → start ≡ all_free e seats → desks.slots.items ≡ map free_slot seats → desks.taken ≡ 0 → desks.short ≡ 0 → desks.shut ≡ None
      → IsKept asks g start e desks
  kept_start e desks seats is slots taken short shut =
      let same : ◌≡◌ {A = Hall L (Answerer D C)} start (record { entrance = e; places = map place_of desks.slots.items }) =
      is ∙ ap (λ (l : List (Place L (Answerer D C))). let h : Hall L (Answerer D C) = record { entrance = e; places = l } in h) (sym (ap (map place_of) slots ∙ places_free L seats)) in
      let begun : start.entrance ≡ e = ap (λ (h : Hall L (Answerer D C)). h.entrance) is in
      let closed : sum_by open_in desks.slots.items ≡ 0 = ap (sum_by open_in) slots ∙ none_open L seats in
      record {
        happens = rw (taken, short) (subst (λ (h : Hall L (Answerer D C)). Happens asks (peer_of g) start h 0 0) same none);
        slots = subst (All (IsSlot asks g)) (sym slots) (All-map (IsSlot asks g) free_slot seats (λ k d within. _));
        within = omega (arith, taken);
        few = omega (arith, taken, short, closed);
        out = omega (arith, closed, ap (λ (x : Entrance L). x.out) begun);
        returns = omega (arith, closed, taken, ap (λ (x : Entrance L). x.returns) begun);
        shut = shut_none start.entrance e desks.shut shut;
        later = omega (arith, ap (λ (x : Entrance L). x.faults) begun);
      }

  -- why it ended
  pub stops_so : (now : Entrance L) (desks : Desks D L C K) (why : PollWhy) → IsKept asks g start now desks → ((why ≡ ends.Enough → desks.most ≤ desks.taken) × (desks.most ≤ desks.taken → why ≡ ends.Enough))
      → (why ≡ ends.Over → desks.shut ≡ Some shut.Over) → (why ≡ ends.DoorFault → desks.shut ≡ Some shut.Fault) → Stops desks.most start.entrance now desks.taken why
  stops_so now desks ends.Over k enough over fault = (fewer desks.taken desks.most (λ all. over_enough (enough.1 all)), subst (IsShut start.entrance now) (over refl) k.shut)
  stops_so now desks ends.Enough k enough over fault = omega (arith, k.within, enough.0 refl)
  stops_so now desks ends.DoorFault k enough over fault = (fewer desks.taken desks.most (λ all. fault_enough (enough.1 all)), subst (IsShut start.entrance now) (fault refl) k.shut)
  stops_so now desks ends.Memory k enough over fault = fewer desks.taken desks.most (λ all. memory_enough (enough.1 all))

  pub kept_ends : (now : Entrance L) (desks : Desks D L C K) (seats : List (D × C)) (why : PollWhy) → IsKept asks g start now desks → desks.slots.items ≡ map free_slot seats → Stops desks.most start.entrance now desks.taken why
      → ServesReady asks (peer_of g) desks.most start now seats desks.taken desks.short why
  kept_ends now desks seats why k slots stops =
      let closed : sum_by open_in desks.slots.items ≡ 0 = ap (sum_by open_in) slots ∙ none_open L seats in
      record {
        happens = subst (λ (l : List (Place L (Answerer D C))). Happens asks (peer_of g) start (record { entrance = now; places = l }) desks.taken desks.short) (ap (map place_of) slots ∙ places_free L seats) k.happens;
        within = k.within;
        stops = stops;
        returns = omega (arith, k.returns, closed);
        out = omega (arith, k.out, closed);
      }

-- no link was taken
pub serves_none : {D L C : Type 0} (asks : Answerer D C → Answerer D C → Ask → Reply → Type 0) (g : Ghosts L) (start : Hall L (Answerer D C)) (most : ℕ) (e : Entrance L) (seats : List (D × C)) (links shorts : ℕ) (why : PollWhy) → start ≡ all_free e seats → links ≡ 0 → shorts ≡ 0 → EndsAtOnce most why
    → ServesReady asks (peer_of g) most start e seats links shorts why
serves_none {D} {L} {C} asks g start most e seats links shorts why is none_taken none_short so =
    let begun : start.entrance ≡ e = ap (λ (h : Hall L (Answerer D C)). h.entrance) is in
    record {
      happens = rw (none_taken, none_short) (subst (λ (h : Hall L (Answerer D C)). Happens asks (peer_of g) start h 0 0) is none);
      within = omega (arith, none_taken);
      stops = rw none_taken (stops_at_once most why start.entrance e so);
      returns = omega (arith, none_taken, ap (λ (x : Entrance L). x.returns) begun);
      out = omega (arith, ap (λ (x : Entrance L). x.out) begun);
    }
