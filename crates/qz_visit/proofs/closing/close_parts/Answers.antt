use Rattle.std.proofs.Common.{◌≡◌, ◌+◌, ◌++◌, ◌∷◌, [], List, length, refl, ap, ◌∙◌, sym, subst, arith, append-nil}
use Rattle.std.proofs.lemmas.List.{nil_from_length}
use Rattle.qz_shard_turns.specs.Tying.{Placed}
use Rattle.qz_turn.specs.Turns.{Joins, Locked, note_of}
use Rattle.qz_visit.specs.Closing.{ClosesBefore, HaveGrown}
use Rattle.qz_visit.specs.Visits.{seen_by}
use Rattle.qz_visit.specs.Ways.{Part, Seen}
use Rattle.qz_visit.proofs.Closed.{ClosedFrom, behind_closed, closed_all, closed_none, closed_one, grown_all, joined_keeps, keeps_on, keeps_self, lock_there, pass_there}
use Rattle.qz_visit.proofs.closing.close_parts.Goals as goal

pub loop-turns-init : goal.loop-turns-init
loop-turns-init g c =
    let n = length c.args.passes.items + length c.args.shards.items in
    let room = c.requires.room in
    (closed_none g.K.Keeper.faults c.args.seen.now.seen.list n c.args.shards.items c.args.parts.items c.args.passes.items c.requires.own.count, keeps_self c.args.seen.now, omega (arith, room), refl)

pub close-requires-clause-pass : goal.close-requires-clause-pass
close-requires-clause-pass g c =
    let faults = g.K.Keeper.faults in
    let ls = c.args.parts.items in
    let ps = c.args.passes.items in
    let others = c.args.shards.items in
    let n = length ps + length others in
    let left = c.pop.new.self.items in
    let rest = c.pop-in-Some.new.self.items in
    let l = c.in-Some.turns in
    let p = c.in-Some-pop.pass in
    let done = c.loop-turns.shards.items in
    let seen = c.loop-turns.seen in
    let i = c.loop-turns.invariant in
    let half = subst (λ (x : List (Locked Placed)). ClosedFrom faults seen.seen.list n others ls x ps c.loop-turns.passes.items done) c.in-Some.ensures.items i.0 in
    let so = subst (λ (x : List Part). ClosedFrom faults seen.seen.list n others ls (left ++ l ∷ []) ps x done) c.in-Some-pop.ensures.items half in
    let lock = lock_there faults seen.seen.list n others ls left l ps (rest ++ p ∷ []) done so in
    let pass = pass_there faults seen.seen.list n others ls left l ps rest p done so in
    c.requires.own.own (length left) l p lock pass

pub close-requires-clause-numbers : goal.close-requires-clause-numbers
close-requires-clause-numbers g c =
    let faults = g.K.Keeper.faults in
    let ls = c.args.parts.items in
    let ps = c.args.passes.items in
    let others = c.args.shards.items in
    let n = length ps + length others in
    let left = c.pop.new.self.items in
    let rest = c.pop-in-Some.new.self.items in
    let l = c.in-Some.turns in
    let p = c.in-Some-pop.pass in
    let done = c.loop-turns.shards.items in
    let seen = c.loop-turns.seen in
    let i = c.loop-turns.invariant in
    let half = subst (λ (x : List (Locked Placed)). ClosedFrom faults seen.seen.list n others ls x ps c.loop-turns.passes.items done) c.in-Some.ensures.items i.0 in
    let so = subst (λ (x : List Part). ClosedFrom faults seen.seen.list n others ls (left ++ l ∷ []) ps x done) c.in-Some-pop.ensures.items half in
    let lock = lock_there faults seen.seen.list n others ls left l ps (rest ++ p ∷ []) done so in
    let pass = pass_there faults seen.seen.list n others ls left l ps rest p done so in
    c.requires.every.each (length left) l p lock pass

pub note-bare-requires : goal.note-bare-requires
note-bare-requires g c =
    let faults = g.K.Keeper.faults in
    let ls = c.args.parts.items in
    let ps = c.args.passes.items in
    let others = c.args.shards.items in
    let n = length ps + length others in
    let left = c.pop.new.self.items in
    let rest = c.pop-in-Some.new.self.items in
    let l = c.in-Some.turns in
    let p = c.in-Some-pop.pass in
    let done = c.loop-turns.shards.items in
    let seen = c.loop-turns.seen in
    let i = c.loop-turns.invariant in
    let half = subst (λ (x : List (Locked Placed)). ClosedFrom faults seen.seen.list n others ls x ps c.loop-turns.passes.items done) c.in-Some.ensures.items i.0 in
    let so = subst (λ (x : List Part). ClosedFrom faults seen.seen.list n others ls (left ++ l ∷ []) ps x done) c.in-Some-pop.ensures.items half in
    let lock = lock_there faults seen.seen.list n others ls left l ps (rest ++ p ∷ []) done so in
    let pass = pass_there faults seen.seen.list n others ls left l ps rest p done so in
    let placed = c.requires.placed.each (length left) l lock in
    let tied = c.close.ensures.fits.at placed.place placed.keyed in
    ap (λ (x : _). x.1.lock) c.into_parts-shard.ensures ∙ (tied.own ∙ placed.own)

pub join-requires-clause-other : goal.join-requires-clause-other
join-requires-clause-other g c =
    let faults = g.K.Keeper.faults in
    let ls = c.args.parts.items in
    let ps = c.args.passes.items in
    let others = c.args.shards.items in
    let n = length ps + length others in
    let left = c.pop.new.self.items in
    let rest = c.pop-in-Some.new.self.items in
    let l = c.in-Some.turns in
    let p = c.in-Some-pop.pass in
    let done = c.loop-turns.shards.items in
    let seen = c.loop-turns.seen in
    let i = c.loop-turns.invariant in
    let half = subst (λ (x : List (Locked Placed)). ClosedFrom faults seen.seen.list n others ls x ps c.loop-turns.passes.items done) c.in-Some.ensures.items i.0 in
    let so = subst (λ (x : List Part). ClosedFrom faults seen.seen.list n others ls (left ++ l ∷ []) ps x done) c.in-Some-pop.ensures.items half in
    let lock = lock_there faults seen.seen.list n others ls left l ps (rest ++ p ∷ []) done so in
    let pass = pass_there faults seen.seen.list n others ls left l ps rest p done so in
    let placed = c.requires.placed.each (length left) l lock in
    let tied = c.close.ensures.fits.at placed.place placed.keyed in
    ap (λ (x : Seen). x.lock) c.note-bare.ensures.given ∙ (ap (λ (x : _). x.1.lock) c.into_parts-shard.ensures ∙ (tied.own ∙ placed.own))

pub loop-turns-preserved : goal.loop-turns-preserved
loop-turns-preserved g c =
    let faults = g.K.Keeper.faults in
    let ls = c.args.parts.items in
    let ps = c.args.passes.items in
    let others = c.args.shards.items in
    let n = length ps + length others in
    let left = c.pop.new.self.items in
    let rest = c.pop-in-Some.new.self.items in
    let l = c.in-Some.turns in
    let p = c.in-Some-pop.pass in
    let done = c.loop-turns.shards.items in
    let seen = c.loop-turns.seen in
    let i = c.loop-turns.invariant in
    let half = subst (λ (x : List (Locked Placed)). ClosedFrom faults seen.seen.list n others ls x ps c.loop-turns.passes.items done) c.in-Some.ensures.items i.0 in
    let so = subst (λ (x : List Part). ClosedFrom faults seen.seen.list n others ls (left ++ l ∷ []) ps x done) c.in-Some-pop.ensures.items half in
    let lock = lock_there faults seen.seen.list n others ls left l ps (rest ++ p ∷ []) done so in
    let pass = pass_there faults seen.seen.list n others ls left l ps rest p done so in
    let placed = c.requires.placed.each (length left) l lock in
    let tied = c.close.ensures.fits.at placed.place placed.keyed in
    let b = c.close.result in
    let after = c.join.new.pass in
    let bare = c.note-bare.ensures.given ∙ ap (λ (x : _). note_of x.1) c.into_parts-shard.ensures in
    let joins = subst (λ (n : Seen). Joins seen n after) bare c.join.ensures in
    let keeps = joined_keeps seen (note_of b.note) after joins in
    let turns : after.turns ≡ seen.turns = joins.turns ∙ append-nil seen.turns in
    let own = behind_closed faults c.args.records.now.lock n (length left) l p b seen after placed c.close.ensures.follows tied joins in
    let one = closed_one faults seen.seen.list after.seen.list n others ls left l ps rest p done b.shard so keeps.begins.begins own c.close.ensures.grown in
    let pushed = c.push_reserved.ensures.items ∙ ap (λ (x : _). done ++ x.0 ∷ []) c.into_parts-shard.ensures in
    let room = i.2 in
    let fewer = c.in-Some.ensures.len in
    let longer = c.push_reserved.ensures.len in
    let same = c.push_reserved.ensures.capacity in
    (subst (ClosedFrom faults after.seen.list n others ls left ps rest) (sym pushed) one, keeps_on c.args.seen.now seen after i.1 keeps, omega (arith, room, fewer, longer, same), turns ∙ i.3)

pub returns-clause-closed : goal.returns-clause-closed
returns-clause-closed g c =
    let faults = g.K.Keeper.faults in
    let ls = c.args.parts.items in
    let ps = c.args.passes.items in
    let others = c.args.shards.items in
    let n = length ps + length others in
    let seen = c.loop-turns.seen.seen.list in
    let none = c.in_default.ensures.cases in
    let none_left = none.0 in
    let empty : c.loop-turns.parts.items ≡ [] = nil_from_length c.loop-turns.parts.items (omega (arith, none_left)) in
    let so = subst (λ (x : List (Locked Placed)). ClosedFrom faults seen n others ls x ps c.loop-turns.passes.items c.loop-turns.shards.items) empty c.loop-turns.invariant.0 in
    subst (ClosesBefore faults seen (seen_by ps) others) (sym c.reverse.ensures.items) (closed_all faults seen n others ls ps c.loop-turns.passes.items c.loop-turns.shards.items so refl)

pub returns-clause-grown : goal.returns-clause-grown
returns-clause-grown g c =
    let faults = g.K.Keeper.faults in
    let ls = c.args.parts.items in
    let ps = c.args.passes.items in
    let others = c.args.shards.items in
    let n = length ps + length others in
    let seen = c.loop-turns.seen.seen.list in
    let none = c.in_default.ensures.cases in
    let none_left = none.0 in
    let empty : c.loop-turns.parts.items ≡ [] = nil_from_length c.loop-turns.parts.items (omega (arith, none_left)) in
    let so = subst (λ (x : List (Locked Placed)). ClosedFrom faults seen n others ls x ps c.loop-turns.passes.items c.loop-turns.shards.items) empty c.loop-turns.invariant.0 in
    subst (HaveGrown ls ps) (sym c.reverse.ensures.items) (grown_all faults seen n others ls ps c.loop-turns.passes.items c.loop-turns.shards.items so)
