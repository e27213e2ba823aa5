use Rattle.std.proofs.Common.{◌≡◌, List, length, map, ap, ◌∙◌, arith}
use Rattle.std.specs.List.{list_all}
use Rattle.std.proofs.lemmas.List.{take_all}
use Rattle.qz_terms.specs.declared.plan.Planned.{Planned}
use Rattle.qz_terms.specs.Catalog.{slots}
use Rattle.qz_terms.specs.Kept.{is_planned}
use Rattle.qz_roster.proofs.NextLemmas.{slots-length}
use Rattle.qz_catalog.specs.Readings.{planned_by}
use Rattle.qz_catalog.proofs.Accepted.{few-slots}
use Rattle.qz_catalog.proofs.Marks.{planned-slots}
use Rattle.qz_catalog.proofs.Slots.{laid-out}
use Rattle.qz_catalog.proofs.planning.slots.Goals as goal

pub returns-clause-value : goal.returns-clause-value
returns-clause-value c =
    c.loop-slot.invariant ∙ ap (map (planned_by c.args.book.now.records.items)) (take_all c.loop-slot.slot-index c.slots_made-made.result.now c.loop-slot-test.false)
    ∙ laid-out c.args.book.now.records.items c.args.quiz c.slots_made-made.result.now c.slots_made-made.ensures

pub returns-clause-few : goal.returns-clause-few
returns-clause-few c =
    let all : c.loop-slot.items.items ≡ slots c.args.book.now.records.items c.args.quiz =
    c.loop-slot.invariant ∙ ap (map (planned_by c.args.book.now.records.items)) (take_all c.loop-slot.slot-index c.slots_made-made.result.now c.loop-slot-test.false)
    ∙ laid-out c.args.book.now.records.items c.args.quiz c.slots_made-made.result.now c.slots_made-made.ensures in
    let long = ap (λ (l : List Planned). length l) all in
    let count = slots-length c.args.book.now.records.items c.args.quiz in
    let few = few-slots c.args.book.now.records.items c.args.quiz c.requires.held.legal in
    omega arith

pub returns-clause-marks : goal.returns-clause-marks
returns-clause-marks c =
    let all : c.loop-slot.items.items ≡ slots c.args.book.now.records.items c.args.quiz =
    c.loop-slot.invariant ∙ ap (map (planned_by c.args.book.now.records.items)) (take_all c.loop-slot.slot-index c.slots_made-made.result.now c.loop-slot-test.false)
    ∙ laid-out c.args.book.now.records.items c.args.quiz c.slots_made-made.result.now c.slots_made-made.ensures in
    ap (list_all is_planned) all ∙ planned-slots c.args.book.now.records.items c.args.quiz c.requires.held.legal
