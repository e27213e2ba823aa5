-- The polls of a task.
use Rattle.std.proofs.Common.{◌≡◌, inl, inr, ◌<◌, Bool, true, [], Option, Some, None, refl, arith, vec_len}
use Rattle.std.specs.Prelude.{IsSomeAnd}
use Rattle.std.proofs.Math.Logic.{∥∥₁_map}
use Rattle.qz_terms.specs.declared.ask.Ask.{Ask}
use Rattle.qz_terms.specs.declared.reply.Reply.{Reply}
use Rattle.qz_http.specs.declared.items.LinkEnd.{LinkEnd}
use Rattle.qz_http.specs.Links.{new_link}
use Rattle.qz_asking.specs.Asking.{Answerer}
use Rattle.qz_doors.specs.Links.{Peer}
use Rattle.qz_ready.specs.declared.ready_link.ReadyLink.{Ghosts}
use Rattle.qz_poll.specs.declared.serving.Serving.{Serving}
use Rattle.qz_poll.specs.declared.step.Advance.TheVariants as advance
use Rattle.qz_poll.specs.declared.task.TaskEnd.{TaskEnd}
use Rattle.qz_poll.specs.Outsides.{outside_of}
use Rattle.qz_poll.specs.Stages.{IsUnderWay, stage_of}
use Rattle.qz_poll.specs.Steps.{Advances}
use Rattle.qz_poll.specs.Tasks.{Begins, CanGoOn, EndsFrom, GoesOn, MayPoll}
use Rattle.qz_poll.proofs.StageLemmas.{owing, starts}

module _ {D L C : Type 0} (asks : Answerer D C → Answerer D C → Ask → Reply → Type 0) (g : Ghosts L) where
  pub begins : (s : Serving D L C) → s.core ≡ new_link → s.outbox ≡ [] → s.over ≡ None → 0 < vec_len s.room → Begins asks g s.desk s.link s.clock s
  begins s fresh none free room = record {
    room = room;
    same = rw (fresh, none, free) refl;
    under_way = rw free (starts asks (outside_of g s.link).peer (record { desk = s.desk; clock = s.clock }) (outside_of g s.link) s.core s.outbox refl fresh none);
  }

  -- a poll that gives nothing yet, because the link isn't ready
  pub pauses_on : (old new : Serving D L C) (woken : Bool) → ((first : Peer) (a : Answerer D C) → IsUnderWay asks first a (stage_of g old) → Advances asks first a (stage_of g old) (stage_of g new) advance.NotYet)
      → GoesOn asks g old new woken
  pauses_on old new woken does = record {
    each = λ first a is. let did = does first a is in record { under_way = did.1.under_way; owing = owing asks first a (stage_of g new) did.1.under_way; later = did.1.later; why = inl did.2 };
  }

  -- or because others have their turn
  pub yields_on : (old new : Serving D L C) (woken : Bool) → ((first : Peer) (a : Answerer D C) → IsUnderWay asks first a (stage_of g old) → Advances asks first a (stage_of g old) (stage_of g new) advance.Enough)
      → woken ≡ true → GoesOn asks g old new woken
  yields_on old new woken does is_woken = record {
    each = λ first a is. let did = does first a is in record { under_way = did.under_way; owing = owing asks first a (stage_of g new) did.under_way; later = did.later; why = inr (did.count, is_woken) };
  }

  -- it may be polled again
  pub again : (old new : Serving D L C) (woken : Bool) → GoesOn asks g old new woken → CanGoOn asks g old → vec_len new.room ≡ vec_len old.room → CanGoOn asks g new
  again old new woken goes can same = record {
    room = omega (arith, can.room, same);
    begun = ∥∥₁_map can.begun (λ s. record { first = s.first; a = s.a; under_way = (goes.each s.first s.a s.under_way).under_way });
  }

  -- and what it ends with then is what it may end with now
  pub ends_as : (old new : Serving D L C) (woken : Bool) (ended : TaskEnd D L C) → GoesOn asks g old new woken → EndsFrom asks g new ended → EndsFrom asks g old ended
  ends_as old new woken ended goes ends = record { each = λ first a is. ends.each first a (goes.each first a is).under_way }

  pub ends_over : (old new : Serving D L C) (why : LinkEnd) → ((first : Peer) (a : Answerer D C) → IsUnderWay asks first a (stage_of g old) → Advances asks first a (stage_of g old) (stage_of g new) (advance.Over why))
      → EndsFrom asks g old (record { why = why; link = new.link; desk = new.desk; clock = new.clock })
  ends_over old new why does = record { each = does }

  -- a task that begins may be polled
  pub may_poll : (serving : Option (Serving D L C)) (desk : D) (link : L) (clock : C) → IsSomeAnd serving (Begins asks g desk link clock) → MayPoll asks g serving
  may_poll None desk link clock none = absurd none
  may_poll (Some s) desk link clock new = record { room = new.room; begun = ∣ record { first = (outside_of g link).peer; a = record { desk = desk; clock = clock }; under_way = new.under_way } ∣₁ }
