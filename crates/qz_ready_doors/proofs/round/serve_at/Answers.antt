use Rattle.std.proofs.Common.{refl}
use Rattle.std.proofs.Math.Logic.{∥∥₁_elim, ∥∥₁_map}
use Rattle.std.specs.Coded.{le_prop}
use Rattle.qz_ready_doors.proofs.KeptLemmas.{counts_as, kept_freed, kept_stayed, room_freed, slot_in, slots_as, some_out}
use Rattle.qz_ready_doors.proofs.Places.{free_heard, read_at}
use Rattle.qz_ready_doors.proofs.round.serve_at.Goals as goal

pub go_on-requires-clause-slot : goal.go_on-requires-clause-slot
go_on-requires-clause-slot g c = ∥∥₁_map c.requires.kept (λ k. slot_in _ _ _ _ _ c.args.at c.index_mut.result.now k c.requires.within c.index_mut.ensures.value)

pub returns-then-is_free-clause-kept : goal.returns-then-is_free-clause-kept
returns-then-is_free-clause-kept g c =
    let was = read_at c.args.desks.now.slots.items c.args.at c.index_mut.result.now c.requires.within c.index_mut.ensures.value in
    ∥∥₁_map c.requires.kept (λ k. kept_stayed _ _ _ _ c.args.desks.now _ c.args.at c.index_mut.result.now c.go_on.new.self k was refl
    (c.in_default.ensures.goes (slot_in _ _ _ _ _ c.args.at c.index_mut.result.now k c.requires.within c.index_mut.ensures.value))
    (record { most = refl; shut = refl; taken = refl; short = refl }))

pub returns-then-is_free-clause-heard : goal.returns-then-is_free-clause-heard
returns-then-is_free-clause-heard g c = record { slot = c.go_on.new.self; sets = refl; heard = c.in_default.ensures.heard }

pub returns-else-is_free-clause-kept : goal.returns-else-is_free-clause-kept
returns-else-is_free-clause-kept g c =
    let was = read_at c.args.desks.now.slots.items c.args.at c.index_mut.result.now c.requires.within c.index_mut.ensures.value in
    ∥∥₁_map c.requires.kept (λ k. kept_stayed _ _ _ _ c.args.desks.now _ c.args.at c.index_mut.result.now c.go_on.new.self k was refl
    (c.in_default.ensures.goes (slot_in _ _ _ _ _ c.args.at c.index_mut.result.now k c.requires.within c.index_mut.ensures.value))
    (record { most = refl; shut = refl; taken = refl; short = refl }))

pub returns-else-is_free-clause-heard : goal.returns-else-is_free-clause-heard
returns-else-is_free-clause-heard g c = record { slot = c.go_on.new.self; sets = refl; heard = c.in_default.ensures.heard }

pub give_back-requires-clause-out : goal.give_back-requires-clause-out
give_back-requires-clause-out g c =
    let was = read_at c.args.desks.now.slots.items c.args.at c.index_mut.result.now c.requires.within c.index_mut.ensures.value in
    ∥∥₁_elim c.requires.kept le_prop (λ k. some_out _ _ _ _ _ c.args.at c.index_mut.result.now c.go_on.new.self c.in-Some.ended k was
    (c.in-Some.ensures.goes (slot_in _ _ _ _ _ c.args.at c.index_mut.result.now k c.requires.within c.index_mut.ensures.value)))

pub give_back-requires-clause-few : goal.give_back-requires-clause-few
give_back-requires-clause-few g c =
    let was = read_at c.args.desks.now.slots.items c.args.at c.index_mut.result.now c.requires.within c.index_mut.ensures.value in
    ∥∥₁_elim c.requires.kept le_prop (λ k. room_freed _ _ _ _ _ c.args.at c.index_mut.result.now c.go_on.new.self c.in-Some.ended k was
    (c.in-Some.ensures.goes (slot_in _ _ _ _ _ c.args.at c.index_mut.result.now k c.requires.within c.index_mut.ensures.value)))

pub returns-clause-kept : goal.returns-clause-kept
returns-clause-kept g c =
    let was = read_at c.args.desks.now.slots.items c.args.at c.index_mut.result.now c.requires.within c.index_mut.ensures.value in
    ∥∥₁_map c.requires.kept (λ k. kept_freed _ _ _ _ c.args.desks.now c.give_back.new.desks c.args.at c.index_mut.result.now c.go_on.new.self k was
    (slots_as c.give_back.new.desks _ c.give_back.ensures.counts) _ c.in-Some.ended
    (c.in-Some.ensures.goes (slot_in _ _ _ _ _ c.args.at c.index_mut.result.now k c.requires.within c.index_mut.ensures.value))
    c.give_back.ensures.gives (counts_as c.args.desks.now c.give_back.new.desks _ c.give_back.ensures.counts refl refl))

pub returns-clause-heard : goal.returns-clause-heard
returns-clause-heard g c = record { slot = c.go_on.new.self; sets = slots_as c.give_back.new.desks _ c.give_back.ensures.counts; heard = free_heard c.go_on.new.cx c.go_on.new.self c.in-Some.ensures.freed }
