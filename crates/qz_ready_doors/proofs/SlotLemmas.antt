-- A desk whose link is served on.
use Rattle.std.proofs.Common.{◌≡◌, ◌∙◌, Bool, Option, Some, None, refl, sym, ap, subst}
use Rattle.std.proofs.Math.Logic.{∥∥₁_elim, ∥∥₁_map}
use Rattle.std.specs.Coded.{le_prop}
use Rattle.std.specs.Prelude.{IsSomeAnd, MatchOption}
use mathlib.Core.HLevel.{⊥_prop}
use Rattle.qz_terms.specs.declared.ask.Ask.{Ask}
use Rattle.qz_terms.specs.declared.reply.Reply.{Reply}
use Rattle.qz_asking.specs.Asking.{Answerer}
use Rattle.qz_doors.proofs.ServeLemmas.{ends_unread}
use Rattle.qz_doors.specs.Links.{LinkEnds}
use Rattle.qz_http.specs.declared.items.LinkEnd.TheVariants as why
use Rattle.qz_ready.specs.declared.ready_link.ReadyLink.{Ghosts}
use Rattle.qz_poll.specs.declared.serving.Serving.{Serving}
use Rattle.qz_poll.specs.declared.task.TaskEnd.{TaskEnd}
use Rattle.qz_poll.specs.Outsides.{outside_of}
use Rattle.qz_poll.specs.Tasks.{Begins, MayEnd, MayPoll, PollsOn}
use Rattle.qz_ready_doors.specs.declared.slot.Ended.{Ended}
use Rattle.qz_ready_doors.specs.declared.slot.Slot.{Slot}
use Rattle.qz_ready_doors.specs.declared.slot.Slot.TheVariants as slot
use Rattle.qz_ready_doors.specs.declared.slot.Taken.{Taken}
use Rattle.qz_ready_doors.specs.Halls.{Place, busy, free}
use Rattle.qz_ready_doors.specs.Slots.{Declines, Frees, HasLink, IsSlot, Opens, place_of}

abbrev link_of : {L S : Type 0} → L → Place L S → L
link_of other (free a) = other
link_of other (busy link a) = link

abbrev desk_of : {L S : Type 0} → S → Place L S → S
desk_of other (free a) = a
desk_of other (busy link a) = a

module _ {D L C : Type 0} (asks : Answerer D C → Answerer D C → Ask → Reply → Type 0) (g : Ghosts L) where
  -- a link that is served may be polled
  pub may_go_on : (serving : Option (Serving D L C)) (link : L) (a : Answerer D C) → ∥ HasLink asks g link a serving ∥₁ → MayPoll asks g serving
  may_go_on None link a has = ∥∥₁_elim has ⊥_prop (λ x. x)
  may_go_on (Some s) link a has = record {
    room = ∥∥₁_elim has le_prop (λ x. x.room);
    begun = ∥∥₁_map has (λ x. record { first = (outside_of g link).peer; a = a; under_way = x.under_way });
  }

  pub begins_served : (serving : Option (Serving D L C)) (desk : D) (link : L) (clock : C) → IsSomeAnd serving (Begins asks g desk link clock) → HasLink asks g link (record { desk = desk; clock = clock }) serving
  begins_served None desk link clock none = absurd none
  begins_served (Some s) desk link clock new = record { room = new.room; under_way = new.under_way }

  pub still_served : (old new : Option (Serving D L C)) (woken : Bool) (link : L) (a : Answerer D C) → PollsOn asks g old new woken → MayPoll asks g new → HasLink asks g link a old → HasLink asks g link a new
  still_served None new woken link a polls may has = absurd has
  still_served (Some s) None woken link a polls may has = absurd may
  still_served (Some s) (Some t) woken link a polls may has = record { room = may.room; under_way = (polls.each (outside_of g link).peer a has.under_way).under_way }

  pub ends_served : (serving : Option (Serving D L C)) (end : TaskEnd D L C) (link : L) (a : Answerer D C) → MayEnd asks g serving end → HasLink asks g link a serving
      → LinkEnds asks (outside_of g link).peer (outside_of g end.link).peer a (record { desk = end.desk; clock = end.clock }) end.why
  ends_served None end link a may has = absurd has
  ends_served (Some s) end link a may has = may.each (outside_of g link).peer a has.under_way

  pub frees : (taken : Taken D L C) (end : TaskEnd D L C) → MayEnd asks g taken.task.serving end → IsSlot asks g (slot.Open taken)
      → Frees asks g (slot.Open taken) (slot.Free end.desk end.clock) (record { link = end.link; why = end.why })
  frees taken end may has = record {
    link = taken.link.value;
    a = record { desk = taken.desk.value; clock = taken.clock.value };
    b = record { desk = end.desk; clock = end.clock };
    was = refl;
    now = refl;
    ends = ends_served taken.task.serving end taken.link.value (record { desk = taken.desk.value; clock = taken.clock.value }) may has;
  }

  -- a link that was taken, and whose bell hangs, or for which memory was wanting
  pub opened_so : (x : Slot D L C) (link : L) (a : Answerer D C) (taken : Taken D L C) (y : Slot D L C) (result : Option (Ended L)) → place_of x ≡ free a → place_of (slot.Open taken) ≡ busy link a → IsSlot asks g (slot.Open taken)
      → MatchOption result (y ≡ slot.Open taken) (Frees asks g (slot.Open taken) y) → MatchOption result (Opens asks g x y link) (Declines asks g x y link)
  opened_so x link a taken y None was is stands same = record { a = a; was = was; now = ap place_of same ∙ is; stands = subst (IsSlot asks g) (sym same) stands }
  opened_so x link a taken y (Some ended) was is stands r =
      let same_link : r.link ≡ link = ap (link_of link) (sym r.was ∙ is) in
      let same_desk : r.a ≡ a = ap (desk_of a) (sym r.was ∙ is) in
      record {
        a = a;
        b = r.b;
        was = was;
        now = r.now;
        ends = subst (λ (l : L). LinkEnds asks (outside_of g l).peer (outside_of g ended.link).peer a r.b ended.why) same_link
            (subst (λ (s : Answerer D C). LinkEnds asks (outside_of g r.link).peer (outside_of g ended.link).peer s r.b ended.why) same_desk r.ends);
      }

  pub declines_unread : (desk at : D) (link back : L) (clock then : C) → at ≡ desk → back ≡ link → then ≡ clock
      → Declines asks g (slot.Free desk clock) (slot.Free at then) link (record { link = back; why = why.Memory })
  declines_unread desk at link back clock then here there now = record {
    a = record { desk = desk; clock = clock };
    b = record { desk = at; clock = then };
    was = refl;
    now = refl;
    ends = rw (here, there, now) (ends_unread asks (outside_of g link).peer (record { desk = desk; clock = clock }));
  }
