use Rattle.std.proofs.Common.{◌≡◌, ◌+◌, ◌<◌, List, ℕ, Some, length, reverse, ap, ◌∙◌, sym, subst, arith, refl}
use Rattle.qz_catalog.specs.Keeping as records
use Rattle.qz_catalog_turns.specs.Turning.{tale_of}
use Rattle.qz_school.specs.Solos.{AgreeAll, ArePlaced}
use Rattle.qz_terms.specs.declared.record.Record.{Record}
use Rattle.qz_terms.specs.Catalog as catalog
use Rattle.qz_turn.specs.declared.view.Tale.{Tale}
use Rattle.qz_turn.specs.Rule.{HasEvery}
use Rattle.qz_visit.specs.Closing as closing
use Rattle.qz_visit.specs.Closing.{AreClosed, Closes}
use Rattle.qz_visit.specs.Opening.{tales}
use Rattle.qz_visit.specs.Visits.{IsPlaced}
use Rattle.qz_visit.specs.Ways.{Seen}
use Rattle.qz_visit.proofs.Opened.{closes_self, half_count, half_every, half_left, half_of, half_tales, has_below, many_opened, turned_back, whole_opened}
use Rattle.qz_visit.proofs.opening.open_all.Goals as goal

-- what the catalogue tells is what its first pass has seen
seen-tale : {K : Type 0} (faults : K → ℕ) (cat given : records.Keeping K) (seen first : Seen) → given ≡ cat → seen ≡ first → first.seen ≡ tale_of given.held (faults given.keeper) → seen.seen ≡ tale_of cat.held (faults cat.keeper)
seen-tale faults cat given seen first same is told = ap (λ (x : Seen). x.seen) is ∙ told ∙ ap (λ (x : records.Keeping _). tale_of x.held (faults x.keeper)) same

pub open_parts-opened-requires-clause-placed : goal.open_parts-opened-requires-clause-placed
open_parts-opened-requires-clause-placed g c =
    subst ArePlaced (sym (turned_back c.args.shards.items c.reverse.new.self.items c.reverse.ensures.items)) c.requires.solo.placed

pub open_parts-opened-requires-clause-agree : goal.open_parts-opened-requires-clause-agree
open_parts-opened-requires-clause-agree g c =
    let faults = g.K.Keeper.faults in
    let turned = turned_back c.args.shards.items c.reverse.new.self.items c.reverse.ensures.items in
    let agree = subst (AgreeAll c.args.catalog.held.list) (sym turned) c.requires.solo.agree in
    let tale = seen-tale faults c.args.catalog c.new.result c.in-Ok.seen c.in-Ok.seen c.new.ensures refl (ap (λ (x : Seen). x.seen) c.in-Ok.ensures.pass) in
    subst (λ (l : List Record). AgreeAll l (reverse c.reverse.new.self.items)) (sym (ap (λ (t : Tale Record). t.list) tale)) agree

pub invariant_of-result : goal.invariant_of-result
invariant_of-result g c =
    let half = half_of c.args.shards.items c.reverse.new.self.items c.reverse.ensures.items c.open_parts-opened.ensures.opened in
    let empty = c.in-Ok-opened.ensures.all in
    let opened = whole_opened half empty in
    let many = many_opened g.K.Keeper.faults c.in-Ok.records.lock c.args.seats (length c.args.shards.items) c.args.shards.items c.open_parts-opened.new.locks.items c.open_parts-opened.new.passes.items opened in
    let some = c.requires.solo.some in
    let few = c.requires.few in
    let none = ap length empty in
    let room = c.open_parts-opened.ensures.room in (
      record { some = omega (arith, many, some); few = omega (arith, many, few); placed = λ k l at. subst (λ (n : ℕ). IsPlaced c.in-Ok.records.lock n k l.lock) (sym many) (opened.placed.each k l at) },
      empty,
      omega (arith, room, none),
    )

pub close_all-requires-clause-numbers : goal.close_all-requires-clause-numbers
close_all-requires-clause-numbers g c =
    let seen = c.open_parts-opened.ensures.seen ∙ c.in-Ok.ensures.pass in
    let numbers = ap (λ (x : Seen). x.numbers) seen in
    subst (λ (n : ℕ). HasEvery n c.open_parts-opened.new.seen.numbers) (sym c.in-Ok.ensures.lock.1) (subst (HasEvery c.args.seats) (sym numbers) (has_below c.args.seats))

pub close_all-requires-clause-placed : goal.close_all-requires-clause-placed
close_all-requires-clause-placed g c =
    let half = half_of c.args.shards.items c.reverse.new.self.items c.reverse.ensures.items c.open_parts-opened.ensures.opened in
    subst (λ (n : ℕ). closing.ArePlaced c.in-Ok.records.lock n c.open_parts-opened.new.locks.items) (half_count half) half.opened.placed

pub close_all-requires-clause-every : goal.close_all-requires-clause-every
close_all-requires-clause-every g c =
    let half = half_of c.args.shards.items c.reverse.new.self.items c.reverse.ensures.items c.open_parts-opened.ensures.opened in
    half_every half

pub close_all-requires-clause-some : goal.close_all-requires-clause-some
close_all-requires-clause-some g c =
    let half = half_of c.args.shards.items c.reverse.new.self.items c.reverse.ensures.items c.open_parts-opened.ensures.opened in
    subst (λ (n : ℕ). 0 < n) (half_count half) c.requires.solo.some

pub close_all-requires-clause-founded : goal.close_all-requires-clause-founded
close_all-requires-clause-founded g c =
    let half = half_of c.args.shards.items c.reverse.new.self.items c.reverse.ensures.items c.open_parts-opened.ensures.opened in
    let tale = seen-tale g.K.Keeper.faults c.args.catalog c.new.result c.open_parts-opened.new.seen c.in-Ok.seen c.new.ensures c.open_parts-opened.ensures.seen (ap (λ (x : Seen). x.seen) c.in-Ok.ensures.pass) in
    let count = half_count half in
    let founded = subst (λ (n : ℕ). catalog.shards c.args.catalog.held.list ≡ Some n) count c.requires.solo.founded in
    subst (λ (t : Tale Record). catalog.shards t.list ≡ Some (length c.open_parts-opened.new.passes.items + length c.open_parts-opened.new.shards.items)) (sym tale) founded

pub close_all-requires-clause-left : goal.close_all-requires-clause-left
close_all-requires-clause-left g c =
    let half = half_of c.args.shards.items c.reverse.new.self.items c.reverse.ensures.items c.open_parts-opened.ensures.opened in
    let tale = seen-tale g.K.Keeper.faults c.args.catalog c.new.result c.open_parts-opened.new.seen c.in-Ok.seen c.new.ensures c.open_parts-opened.ensures.seen (ap (λ (x : Seen). x.seen) c.in-Ok.ensures.pass) in
    let faults = g.K.Keeper.faults in
    let left = c.open_parts-opened.new.shards.items in
    let ps = c.open_parts-opened.new.passes.items in
    subst (λ (t : Tale Record). AreClosed faults t.list (length ps + length left) (length ps) (tales faults (reverse left)) (reverse left)) (sym tale)
    (half_left c.args.catalog half c.requires.solo)

pub returns-in-Ok-opened-clause-opened : goal.returns-in-Ok-opened-clause-opened
returns-in-Ok-opened-clause-opened g c =
    let half = half_of c.args.shards.items c.reverse.new.self.items c.reverse.ensures.items c.open_parts-opened.ensures.opened in
    let opened = whole_opened half c.in-Ok-opened.ensures.all in
    let first = c.open_parts-opened.ensures.seen ∙ c.in-Ok.ensures.pass in
    let seen = rw c.new.ensures at first in
    let start = c.in-Ok.ensures.lock.2 ∙ ap (λ (x : records.Keeping _). length x.held.list) c.new.ensures in
    record { seats_are = c.in-Ok.ensures.lock.1; start_is = start; records = seen; parts = opened }

pub returns-in-Err-opened-clause-refused : goal.returns-in-Err-opened-clause-refused
returns-in-Err-opened-clause-refused g c =
    let half = half_of c.args.shards.items c.reverse.new.self.items c.reverse.ensures.items c.open_parts-opened.ensures.opened in
    let tale = seen-tale g.K.Keeper.faults c.args.catalog c.new.result c.open_parts-opened.new.seen c.in-Ok.seen c.new.ensures c.open_parts-opened.ensures.seen (ap (λ (x : Seen). x.seen) c.in-Ok.ensures.pass) in
    let tells = half_tales half in
    let back = c.close_all.result in
    let closes = c.close_all.ensures.closes in
    record {
      records = rw (← tale) closes.records;
      parts = subst (λ (ts : List (Tale Record)). AreClosed g.K.Keeper.faults back.0.held.list (length back.1.items) 0 ts back.1.items) tells closes.parts;
    }

pub returns-in-Err-clause-refused : goal.returns-in-Err-clause-refused
returns-in-Err-clause-refused g c =
    let same = c.into_catalog.ensures ∙ c.in-Err.ensures.refused ∙ c.new.ensures in
    rw same (closes_self g.K.Keeper.faults record { catalog = c.args.catalog; parts = c.args.shards.items } c.requires.solo)

pub returns-in-Err-clause-solo : goal.returns-in-Err-clause-solo
returns-in-Err-clause-solo g c =
    let same = c.into_catalog.ensures ∙ c.in-Err.ensures.refused ∙ c.new.ensures in
    rw same c.requires.solo
