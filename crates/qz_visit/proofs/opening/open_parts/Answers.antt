use Rattle.std.proofs.Common.{◌≡◌, ◌++◌, ◌∷◌, [], List, ℕ, length, reverse, refl, ap, ◌∙◌, sym, subst, arith}
use Rattle.std.proofs.lemmas.List.{length-reverse}
use Rattle.qz_shard.specs.Keeping.{Keeping}
use Rattle.qz_shard_turns.specs.Tying.{Placed}
use Rattle.qz_turn.specs.Turns.{Locked}
use Rattle.qz_visit.specs.Opening.{HalfOpens, IsOpened}
use Rattle.qz_visit.specs.Ways.{Part}
use Rattle.qz_visit.proofs.Opened.{half_none, half_one, next_there}
use Rattle.qz_visit.proofs.opening.open_parts.Goals as goal

pub loop-shard-init : goal.loop-shard-init
loop-shard-init g c =
    let none = c.requires.none in
    let no_locks = ap length none.0 in
    let no_passes = ap length none.1 in
    let room = c.requires.room in
    let one = room.0 in
    let two = room.1 in (
      half_none g.K.Keeper.faults c.args.records.now.lock c.args.seats c.args.shards.now.items c.args.locks.now.items c.args.passes.now.items none.0 none.1,
      refl,
      omega (arith, no_locks, c.args.shards.now.ok),
      omega (arith, no_locks, one),
      omega (arith, no_passes, two),
      omega (arith, no_locks, no_passes),
    )

pub open_part-requires-clause-place : goal.open_part-requires-clause-place
open_part-requires-clause-place g c =
    let all = reverse c.args.shards.now.items in
    let half = subst (λ (x : List (Keeping _)). HalfOpens g.K.Keeper.faults c.args.records.now.lock c.args.seats all x c.loop-shard.locks.items c.loop-shard.passes.items) c.in-Some.ensures.items c.loop-shard.invariant.0 in
    let there = next_there g.K.Keeper.faults c.args.records.now.lock c.args.seats all c.pop.new.self.items c.loop-shard.locks.items c.loop-shard.passes.items c.in-Some.shard half in
    let placed = c.requires.placed.each (length c.loop-shard.locks.items) c.in-Some.shard there in
    let back = length-reverse c.args.shards.now.items in
    let found = c.len.ensures in
    let counted = c.len-count.ensures in
    let here : length c.loop-shard.locks.items ≡ c.len.result = omega (arith, found) in
    let all_of : length all ≡ c.len-count.result = omega (arith, back, counted) in
    (placed.0 ∙ here, placed.1 ∙ all_of)

pub open_part-requires-clause-agree : goal.open_part-requires-clause-agree
open_part-requires-clause-agree g c =
    let all = reverse c.args.shards.now.items in
    let half = subst (λ (x : List (Keeping _)). HalfOpens g.K.Keeper.faults c.args.records.now.lock c.args.seats all x c.loop-shard.locks.items c.loop-shard.passes.items) c.in-Some.ensures.items c.loop-shard.invariant.0 in
    let there = next_there g.K.Keeper.faults c.args.records.now.lock c.args.seats all c.pop.new.self.items c.loop-shard.locks.items c.loop-shard.passes.items c.in-Some.shard half in
    rw c.loop-shard.invariant.1 (c.requires.agree.each (length c.loop-shard.locks.items) c.in-Some.shard there)

pub loop-shard-preserved : goal.loop-shard-preserved
loop-shard-preserved g c =
    let faults = g.K.Keeper.faults in
    let all = reverse c.args.shards.now.items in
    let i = c.loop-shard.invariant in
    let ls = c.loop-shard.locks.items in
    let ps = c.loop-shard.passes.items in
    let half = subst (λ (x : List (Keeping _)). HalfOpens faults c.args.records.now.lock c.args.seats all x ls ps) c.in-Some.ensures.items i.0 in
    let back = length-reverse c.args.shards.now.items in
    let found = c.len.ensures in
    let counted = c.len-count.ensures in
    let here : c.len.result ≡ length ls = omega (arith, found) in
    let count : c.len-count.result ≡ length all = omega (arith, back, counted) in
    let of_all = subst (λ (n : ℕ). IsOpened faults c.args.records.now.lock c.args.seats n c.len.result c.in-Some.shard c.in-Ok.turns c.in-Ok.pass) count c.in-Ok.ensures.opened in
    let opened = subst (λ (k : ℕ). IsOpened faults c.args.records.now.lock c.args.seats (length all) k c.in-Some.shard c.in-Ok.turns c.in-Ok.pass) here of_all in
    let next = half_one faults c.args.records.now.lock c.args.seats all c.pop.new.self.items ls ps c.in-Some.shard c.in-Ok.turns c.in-Ok.pass half opened in
    let with_lock = subst (λ (x : List (Locked Placed)). HalfOpens faults c.args.records.now.lock c.args.seats all c.pop.new.self.items x (ps ++ c.in-Ok.pass ∷ [])) (sym c.push_reserved.ensures.items) next in
    let with_pass = subst (λ (x : List Part). HalfOpens faults c.args.records.now.lock c.args.seats all c.pop.new.self.items c.push_reserved.new.self.items x) (sym c.push_reserved-in-Ok.ensures.items) with_lock in
    let fewer = c.in-Some.ensures.len in
    let kept = c.in-Some.ensures.capacity in
    let one = c.push_reserved.ensures in
    let other = c.push_reserved-in-Ok.ensures in
    let one_more = one.len in
    let one_kept = one.capacity in
    let other_more = other.len in
    let other_kept = other.capacity in
    let back_room = i.2 in
    let lock_room = i.3 in
    let pass_room = i.4 in
    let same = i.5 in (
      with_pass,
      c.open_part.ensures.seen ∙ i.1,
      omega (arith, back_room, fewer, kept, one_more),
      omega (arith, lock_room, fewer, one_more, one_kept),
      omega (arith, pass_room, fewer, other_more, other_kept),
      omega (arith, same, one_more, other_more),
    )
