use Rattle.std.proofs.Common.{◌≡◌, ◌<◌, ◌≤◌, List, get_or, length, ap, subst, ◌∙◌}
use Rattle.std.proofs.lemmas.List.{take_all}
use Rattle.qz_terms.specs.declared.record.Learned.{Learned}
use Rattle.qz_terms.specs.History.{learned_by}
use Rattle.qz_index.proofs.VersionLemmas.{AreKnown, known_first, known_last, known_more, origins_kept}
use Rattle.qz_index.proofs.versions.Versions.put.Goals as goal

pub loop-item-init : goal.loop-item-init
loop-item-init c = (known_first c.args.self.now c.args.records.now c.args.record.now c.requires.placed, c.requires.room, c.learned_by-learned-items.ensures)

pub loop-item-preserved : goal.loop-item-preserved
loop-item-preserved c =
    let h = c.args.records.now in
    let r = c.args.record.now in
    let i = c.loop-item.item in
    let l = c.learned-item.result in
    let same = c.learned_by-learned-items.ensures in
    let inside : i < length (learned_by r.event) = subst (λ (ls : List Learned). i < length ls) same c.loop-item-test.true in
    let is : l ≡ get_or (learned_by r.event) i l = c.learned-item.is ∙ ap (λ (ls : List Learned). get_or ls i l) same in (
      known_more c.loop-item.self c.learn.new.self h r i l inside is c.learn.ensures.learned c.loop-item.invariant.0,
      origins_kept c.loop-item.self c.learn.new.self (learned_by r.event) c.learn.ensures.kept c.loop-item.invariant.1,
      same,
    )

pub returns : goal.returns
returns c =
    let r = c.args.record.now in
    let past : length (learned_by r.event) ≤ c.loop-item.item = subst (λ (ls : List Learned). length ls ≤ c.loop-item.item) c.learned_by-learned-items.ensures c.loop-item-test.false in
    known_last c.loop-item.self c.args.records.now r (subst (AreKnown c.loop-item.self c.args.records.now r) (take_all c.loop-item.item (learned_by r.event) past) c.loop-item.invariant.0)
