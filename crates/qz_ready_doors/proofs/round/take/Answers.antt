use Rattle.std.proofs.Common.{arith, refl}
use Rattle.std.proofs.Math.Logic.{∥∥₁_elim, ∥∥₁_map}
use Rattle.std.specs.Coded.{le_prop}
use Rattle.qz_ready_doors.specs.Halls.{entrance_by}
use Rattle.qz_ready_doors.proofs.KeptLemmas.{counts_as, kept_declined, kept_failed, kept_opened, kept_over, kept_tried, slots_as}
use Rattle.qz_ready_doors.proofs.Places.{read_at, some_within}
use Rattle.qz_ready_doors.proofs.round.take.Goals as goal

pub give_back-requires-clause-few : goal.give_back-requires-clause-few
give_back-requires-clause-few g c = ∥∥₁_elim c.requires.kept le_prop (λ k. omega (arith, k.few))

pub returns-in-Some-clause-kept : goal.returns-in-Some-clause-kept
returns-in-Some-clause-kept g c =
    let was = read_at c.args.desks.now.slots.items c.args.at c.index_mut.result.now (some_within _ c.args.desks.now.slots.items c.args.at c.requires.free) c.index_mut.ensures.value in
    let t = c.in-Ok-Link.ensures in
    ∥∥₁_map c.requires.kept (λ k. kept_declined _ _ _ _ c.args.desks.now c.give_back.new.desks c.args.at c.index_mut.result.now c.open.new.self k was
    (slots_as c.give_back.new.desks _ c.give_back.ensures.counts) (entrance_by g.P.ReadyDoor.left g.P.ReadyDoor.returned g.P.ReadyDoor.returns g.P.ReadyDoor.out g.P.ReadyDoor.faults c.try_next.new.self) _ c.in-Ok-Link.link c.in-Some.ended c.in-Some.ensures.opens
    (record { next = rw c.in-Ok-Link.field-0-is at t.takes; returned = t.apart; returns = t.returns_stay; later = t.cause.later }) c.give_back.ensures.gives c.requires.more.1 c.requires.more.0
    (counts_as c.args.desks.now c.give_back.new.desks _ c.give_back.ensures.counts refl refl))

pub returns-in_default-clause-kept : goal.returns-in_default-clause-kept
returns-in_default-clause-kept g c =
    let was = read_at c.args.desks.now.slots.items c.args.at c.index_mut.result.now (some_within _ c.args.desks.now.slots.items c.args.at c.requires.free) c.index_mut.ensures.value in
    let t = c.in-Ok-Link.ensures in
    ∥∥₁_map c.requires.kept (λ k. kept_opened _ _ _ _ c.args.desks.now _ c.args.at c.index_mut.result.now c.open.new.self k was refl (entrance_by g.P.ReadyDoor.left g.P.ReadyDoor.returned g.P.ReadyDoor.returns g.P.ReadyDoor.out g.P.ReadyDoor.faults c.try_next.new.self) c.in-Ok-Link.link c.in_default.ensures.opens
    (record { next = rw c.in-Ok-Link.field-0-is at t.takes; returned = t.apart; returns = t.returns_stay; later = t.cause.later }) c.requires.more.1 c.requires.more.0
    (record { most = refl; shut = refl; taken = refl; short = refl }))

pub returns-in-Ok-NotYet-clause-kept : goal.returns-in-Ok-NotYet-clause-kept
returns-in-Ok-NotYet-clause-kept g c =
    let t = c.in-Ok-NotYet.ensures in
    ∥∥₁_map c.requires.kept (λ k. kept_tried _ _ _ _ (entrance_by g.P.ReadyDoor.left g.P.ReadyDoor.returned g.P.ReadyDoor.returns g.P.ReadyDoor.out g.P.ReadyDoor.faults c.try_next.new.self) c.args.desks.now c.args.desks.now k (rw c.in-Ok-NotYet.field-0-is at t.takes) t.apart t.returns_stay t.cause.later refl c.requires.more.1)

pub returns-in-Ok-Over-clause-kept : goal.returns-in-Ok-Over-clause-kept
returns-in-Ok-Over-clause-kept g c =
    let t = c.in-Ok-Over.ensures in
    let none = rw c.in-Ok-Over.field-0-is at t.takes in
    ∥∥₁_map c.requires.kept (λ k. kept_over _ _ _ _ (entrance_by g.P.ReadyDoor.left g.P.ReadyDoor.returned g.P.ReadyDoor.returns g.P.ReadyDoor.out g.P.ReadyDoor.faults c.try_next.new.self) c.args.desks.now _ k none.0 t.apart t.returns_stay t.cause.later refl none.1)

pub returns-in-Err-clause-kept : goal.returns-in-Err-clause-kept
returns-in-Err-clause-kept g c =
    let t = c.in-Err.ensures in
    ∥∥₁_map c.requires.kept (λ k. kept_failed _ _ _ _ (entrance_by g.P.ReadyDoor.left g.P.ReadyDoor.returned g.P.ReadyDoor.returns g.P.ReadyDoor.out g.P.ReadyDoor.faults c.try_next.new.self) c.args.desks.now _ k t.takes t.apart t.returns_stay t.cause.later refl t.cause.failed)
