use Rattle.std.proofs.Common.{◌+◌, ◌∙◌, ap, sym, subst}
use Rattle.qz_catalog.specs.Keeping.{Keeping}
use Rattle.qz_school.specs.Solos.{IsSolo}
use Rattle.qz_turn.specs.Tales.{put_in}
use Rattle.qz_visit.proofs.Opened.{closes_again, solo_again}
use Rattle.qz_visit.proofs.closing.close_all.Goals as goal

pub close-requires-clause-numbers : goal.close-requires-clause-numbers
close-requires-clause-numbers g c = c.close_parts-shards.ensures.seen.every c.args.records.seats c.requires.numbers

pub returns-clause-solo : goal.returns-clause-solo
returns-clause-solo g c =
    let r = c.requires in
    let e = c.close_parts-shards.ensures in
    let cat = c.close.result in
    let all = c.close_parts-shards.result.items in
    subst (λ (x : Keeping _). IsSolo x all) (sym c.into_catalog-catalog.ensures)
    (solo_again g.K.Keeper.faults c.args.seen c.close_parts-shards.new.seen cat c.args.passes.items c.args.shards.items all r.some r.founded e.closed e.seen c.close.ensures.follows r.left)

pub returns-clause-closes : goal.returns-clause-closes
returns-clause-closes g c =
    let e = c.close_parts-shards.ensures in
    let cat = c.close.result in
    let all = c.close_parts-shards.result.items in
    rw c.into_catalog-catalog.ensures
    (closes_again g.K.Keeper.faults c.args.seen c.close_parts-shards.new.seen cat c.args.passes.items c.args.shards.items all e.closed e.seen c.close.ensures.follows c.requires.left)

pub returns-clause-grown : goal.returns-clause-grown
returns-clause-grown g c =
    rw c.into_catalog-catalog.ensures (c.close.ensures.grown ∙ ap (λ (ts : _). c.args.records.start + put_in ts) c.close_parts-shards.ensures.turns)
