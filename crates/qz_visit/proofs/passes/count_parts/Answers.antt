use Rattle.std.proofs.Common.{◌<◌, length, ap, sym, ◌∙◌, arith}
use Rattle.std.proofs.lemmas.List.{length-map}
use Rattle.qz_terms.specs.Serial.{is_part}
use Rattle.qz_visit.specs.Visits.{own_if, without_own}
use Rattle.qz_visit.specs.Ways.{Part}
use Rattle.qz_visit.proofs.Counting.{left_all, left_none, left_one}
use Rattle.qz_visit.proofs.Passing.{seen_there}
use Rattle.qz_visit.proofs.Standing.{there_at}
use Rattle.qz_visit.proofs.passes.count_parts.Goals as goal

pub loop-index-init : goal.loop-index-init
loop-index-init g c = left_none c.args.own c.args.list _ _ (ap length c.counts.view_is ∙ c.requires ∙ sym (length-map c.args.parts.now.items (λ (p : Part). p.seen)))

pub index_mut-requires : goal.index_mut-requires
index_mut-requires g c =
    let many = c.loop-index.invariant.many in
    let long = length-map c.args.parts.now.items (λ (p : Part). p.seen) in
    let counted = c.len-index-end.ensures in
    let test = c.loop-index-test.true in
    omega (arith, many, long, counted, test)

pub loop-index-preserved : goal.loop-index-preserved
loop-index-preserved g c =
    let ps = c.args.parts.now.items in
    let k = c.loop-index.index in
    let p = c.index.result.now in
    let counted = c.len-index-end.ensures in
    let test = c.loop-index-test.true in
    let inside : k < length ps = omega (arith, counted, test) in
    let own = c.args.own in
    left_one own c.args.list _ _ k c.without_own.result p.seen c.loop-index.invariant (seen_there ps k p (there_at ps k p inside c.index.ensures))
    (c.without_own.ensures ∙ ap (λ b. without_own (own_if b own) c.len.result) c.is_number.ensures ∙ ap (without_own (own_if (is_part k c.args.list) own)) c.len.ensures)

pub returns : goal.returns
returns g c =
    let long = length-map c.args.parts.now.items (λ (p : Part). p.seen) in
    let counted = c.len-index-end.ensures in
    let test = c.loop-index-test.false in
    left_all c.args.own c.args.list _ _ c.loop-index.index (omega (arith, long, counted, test)) c.loop-index.invariant
