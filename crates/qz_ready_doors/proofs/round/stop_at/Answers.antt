use Rattle.std.proofs.Common.{refl}
use Rattle.std.proofs.Math.Logic.{∥∥₁_elim, ∥∥₁_map}
use Rattle.std.specs.Coded.{le_prop}
use Rattle.qz_ready_doors.proofs.KeptLemmas.{counts_as, kept_freed, kept_stayed, room_freed, slot_in, slots_as, some_out, stays_same}
use Rattle.qz_ready_doors.proofs.Places.{read_at}
use Rattle.qz_ready_doors.proofs.round.stop_at.Goals as goal

pub stop-requires : goal.stop-requires
stop-requires g c = record { slot = ∥∥₁_map c.requires.kept (λ k. slot_in _ _ _ _ _ c.args.at c.index_mut.result.now k c.requires.within c.index_mut.ensures.value) }

pub give_back-requires-clause-out : goal.give_back-requires-clause-out
give_back-requires-clause-out g c =
    let was = read_at c.args.desks.now.slots.items c.args.at c.index_mut.result.now c.requires.within c.index_mut.ensures.value in
    ∥∥₁_elim c.requires.kept le_prop (λ k. some_out _ _ _ _ _ c.args.at c.index_mut.result.now c.stop.new.self c.in-Some.ended k was
    (c.in-Some.ensures.stops (slot_in _ _ _ _ _ c.args.at c.index_mut.result.now k c.requires.within c.index_mut.ensures.value)))

pub give_back-requires-clause-few : goal.give_back-requires-clause-few
give_back-requires-clause-few g c =
    let was = read_at c.args.desks.now.slots.items c.args.at c.index_mut.result.now c.requires.within c.index_mut.ensures.value in
    ∥∥₁_elim c.requires.kept le_prop (λ k. room_freed _ _ _ _ _ c.args.at c.index_mut.result.now c.stop.new.self c.in-Some.ended k was
    (c.in-Some.ensures.stops (slot_in _ _ _ _ _ c.args.at c.index_mut.result.now k c.requires.within c.index_mut.ensures.value)))

pub returns-in-Some-clause-kept : goal.returns-in-Some-clause-kept
returns-in-Some-clause-kept g c =
    let was = read_at c.args.desks.now.slots.items c.args.at c.index_mut.result.now c.requires.within c.index_mut.ensures.value in
    ∥∥₁_map c.requires.kept (λ k. kept_freed _ _ _ _ c.args.desks.now c.give_back.new.desks c.args.at c.index_mut.result.now c.stop.new.self k was
    (slots_as c.give_back.new.desks _ c.give_back.ensures.counts) _ c.in-Some.ended
    (c.in-Some.ensures.stops (slot_in _ _ _ _ _ c.args.at c.index_mut.result.now k c.requires.within c.index_mut.ensures.value))
    c.give_back.ensures.gives (counts_as c.args.desks.now c.give_back.new.desks _ c.give_back.ensures.counts refl refl))

pub returns-in-Some-clause-frees : goal.returns-in-Some-clause-frees
returns-in-Some-clause-frees g c = record { slot = c.stop.new.self; sets = slots_as c.give_back.new.desks _ c.give_back.ensures.counts; free = c.stop.ensures.free }

pub returns-in_default-clause-kept : goal.returns-in_default-clause-kept
returns-in_default-clause-kept g c =
    let was = read_at c.args.desks.now.slots.items c.args.at c.index_mut.result.now c.requires.within c.index_mut.ensures.value in
    ∥∥₁_map c.requires.kept (λ k.
    let stands = slot_in _ _ _ _ _ c.args.at c.index_mut.result.now k c.requires.within c.index_mut.ensures.value in
    kept_stayed _ _ _ _ c.args.desks.now _ c.args.at c.index_mut.result.now c.stop.new.self k was refl
    (stays_same _ _ c.index_mut.result.now c.stop.new.self (c.in_default.ensures.stops stands) stands)
    (record { most = refl; shut = refl; taken = refl; short = refl }))
