use Rattle.std.proofs.Common.{◌≡◌, ℕ, ◌+◌, ◌<◌, List, [], ◌++◌, Some, length, reverse, append-nil, ap, ◌∙◌, sym, subst, arith}
use Rattle.qz_shard.specs.Keeping.{Keeping}
use Rattle.qz_shard_turns.specs.Tying.{Placed}
use Rattle.qz_terms.specs.declared.record.Record.{Record}
use Rattle.qz_terms.specs.Catalog as catalog
use Rattle.qz_turn.specs.declared.view.Tale.{Tale}
use Rattle.qz_turn.specs.Turns.{Locked}
use Rattle.qz_visit.specs.Closing.{AreClosed, ArePlaced, none}
use Rattle.qz_visit.specs.Opening.{tales}
use Rattle.qz_visit.specs.Visits.{seen_by}
use Rattle.qz_visit.specs.Ways.{Part}
use Rattle.qz_visit.proofs.school.School.close_seats.Goals as goal

-- there are as many locks as passes, and no shard is left
count : {K : Type 0} (ls : List (Locked Placed)) (ps : List Part) (others : List (Keeping K)) → length ps ≡ length ls → others ≡ [] → length ls ≡ length ps + length others
count ls ps others long empty = let no_others = ap length empty in omega (arith, long, no_others)

none-left : {K : Type 0} (faults : K → ℕ) (c : List Record) (n k : ℕ) (others : List (Keeping K)) → others ≡ [] → AreClosed faults c n k (tales faults (reverse others)) (reverse others)
none-left faults c n k others empty = subst (λ (l : List (Keeping _)). AreClosed faults c n k (tales faults (reverse l)) (reverse l)) (sym empty) (none k)

pub close_all-requires-clause-numbers : goal.close_all-requires-clause-numbers
close_all-requires-clause-numbers g c =
    let every = rw (← c.seats.view_is, ← c.self.view_is) at c.requires.every in
    every.records

pub close_all-requires-clause-placed : goal.close_all-requires-clause-placed
close_all-requires-clause-placed g c =
    let own = rw (← c.seats.view_is, ← c.self.view_is) at c.requires.own in
    let ls = c.self.inside.parts.items in
    subst (λ (n : ℕ). ArePlaced c.self.inside.records.lock n ls) (count ls c.seats.inside.parts.items c.self.inside.room.items own.parts.count c.self.invariant.1) (record { each = c.self.invariant.0.placed })

pub close_all-requires-clause-some : goal.close_all-requires-clause-some
close_all-requires-clause-some g c =
    let own = rw (← c.seats.view_is, ← c.self.view_is) at c.requires.own in
    subst (λ (n : ℕ). 0 < n) (count c.self.inside.parts.items c.seats.inside.parts.items c.self.inside.room.items own.parts.count c.self.invariant.1) c.self.invariant.0.some

pub close_all-requires-clause-founded : goal.close_all-requires-clause-founded
close_all-requires-clause-founded g c =
    let own = rw (← c.seats.view_is, ← c.self.view_is) at c.requires.own in
    let founding = rw (← c.seats.view_is, ← c.self.view_is) at c.requires.founded in
    subst (λ (n : ℕ). catalog.shards c.seats.inside.records.seen.list ≡ Some n) (count c.self.inside.parts.items c.seats.inside.parts.items c.self.inside.room.items own.parts.count c.self.invariant.1) founding.founded

pub close_all-requires-clause-left : goal.close_all-requires-clause-left
close_all-requires-clause-left g c =
    let ps = c.seats.inside.parts.items in
    none-left g.K.Keeper.faults c.seats.inside.records.seen.list (length ps + length c.self.inside.room.items) (length ps) c.self.inside.room.items c.self.invariant.1

pub returns-clause-closes : goal.returns-clause-closes
returns-clause-closes g c =
    let ps = c.seats.inside.parts.items in
    let no_tales : seen_by ps ++ tales g.K.Keeper.faults (reverse c.self.inside.room.items) ≡ seen_by ps = ap (λ (l : List (Keeping _)). seen_by ps ++ tales g.K.Keeper.faults (reverse l)) c.self.invariant.1 ∙ append-nil (seen_by ps) in
    let all = c.close_all.result in
    let closed = subst (λ (ts : List (Tale Record)). AreClosed g.K.Keeper.faults all.0.held.list (length all.1.items) 0 ts all.1.items) no_tales c.close_all.ensures.closes.parts in
    rw (← c.seats.view_is) (record { records = c.close_all.ensures.closes.records; parts = closed })

pub returns-clause-grown : goal.returns-clause-grown
returns-clause-grown g c =
    rw (← c.seats.view_is, ← c.self.view_is) (record { records = c.close_all.ensures.grown; parts = c.close_all.ensures.parts_grown })
